-- What is read is what the text stands for.
use Rattle.std.proofs.Common.{◌≡◌, ◌≢◌, ℕ, false, cond, List, [], ◌∷◌, ◌++◌, length, take, drop, Option, Some, None, inl, inr, refl, sym, ◌∙◌, ap, subst, ⊎_elim, append_assoc, append-nil, eqb-true}
use Rattle.std.proofs.Common.{flat_map, take-append-drop, option_and_then}
use Rattle.std.specs.Prelude.{◌==◌}
use Rattle.std.specs.List.{list_all, prefix_len, AllByRecursion}
use Rattle.std.proofs.lemmas.Bool.{eqb-false, and_left}
use Rattle.std.proofs.lemmas.List.Folds.{length-prefix_len}
use Rattle.fx_io.specs.FaultLine.{IsOneLine}
use Rattle.fx_io.proofs.FaultLines.{line_parts}
use Rattle.mdl_text.specs.declared.tree.Item.{Item}
use Rattle.mdl_text.specs.declared.tree.Value.TheVariants.{Bare, List as Brackets, Quoted}
use Rattle.mdl_text.specs.declared.reader.Draft.{Draft}
use Rattle.mdl_text.specs.declared.reader.Pending.{Pending}
use Rattle.mdl_text.specs.declared.reader.Pending.TheVariants.{Nothing as Free, Strings, Open as OpenList}
use Rattle.mdl_text.specs.declared.reader.Reader.{Reader}
use Rattle.mdl_text.specs.Bytes.{is_blank, is_name_byte, AreBlanks, IsName, lines_of, piece_bytes}
use Rattle.mdl_text.specs.Lines.{GivesParameter}
use Rattle.mdl_text.specs.Stands.{Part, Builds, Stands}
use Rattle.mdl_text.specs.Stands.Says.{Entry}
use Rattle.mdl_text.specs.inner.Plain.{unblanked, trimmed, strings_from, list_from, added, free, reader_strings, opened, closed, listed, valued, after_name, named, fresh_text, fresh}
use Rattle.mdl_text.specs.inner.Plain.{begins_with_quote, step_in, step, if_closed, finish_in, finish, run, start}
use Rattle.std.proofs.lemmas.Option.{cond_some}
use Rattle.math_list.proofs.Tests.{cond_cases}
use Rattle.mdl_text.proofs.Classes.{two_tests}
use Rattle.mdl_text.proofs.Scans.{FirstIs, unblanked_split, unblanked_first, name_bytes, trim_split, trim_end, trimmed_first}
use Rattle.mdl_text.proofs.LineLaws.{first_line, lines_each, lines_front}
use Rattle.mdl_text.proofs.After.{item, AfterFree, AfterStrings, After, AfterReader, after_part, nothing_sound, closed_sound, opened_sound, bare_sound, further_sound, quoted_sound, listed_sound}

-- what a line gives before its value, with the first bytes of the value
gives_more : (line name before between said : List ℕ) → AreBlanks before → IsName name → AreBlanks between → between ≢ [] → line ≡ before ++ (name ++ (between ++ said)) → GivesParameter line name said
gives_more line name before between said blanks is_name blanks_between some form =
    record {
      before = before;
      between = between;
      blanks =
          blanks;
      is_name = is_name;
      blanks_between = blanks_between;
      some_between = some;
      form = form;
    }

-- the first line of a list
brackets_sound : (draft : Draft) (name line bytes : List ℕ) (next : Reader) (lines : List (List ℕ)) (items : List Item)
    → IsOneLine line → GivesParameter line name (91 ∷ bytes)
    → listed draft name (91 ∷ []) 0 bytes ≡ Some next → AfterReader next lines items → AfterFree draft (line ∷ lines) items
unfolding listed
brackets_sound draft name line bytes next lines items one_line gives e after =
    let pre : List ℕ = gives.before ++ (name ++ (gives.between ++ 91 ∷ [])) in
    let shape : (rest : List ℕ) → gives.before ++ (name ++ (gives.between ++ 91 ∷ rest)) ≡ pre ++ rest =
    λ rest. sym (append_assoc gives.before (name ++ (gives.between ++ 91 ∷ [])) rest
    ∙ ap (λ l. gives.before ++ l) (append_assoc name (gives.between ++ 91 ∷ []) rest
    ∙ ap (λ l. name ++ l) (append_assoc gives.between (91 ∷ []) rest))) in
    let form : line ≡ pre ++ bytes = gives.form ∙ shape bytes in
    let lines_of_both = line_parts pre bytes (subst IsOneLine form one_line) in
    let list = listed_sound draft name (91 ∷ []) 0 bytes next lines items lines_of_both.1 (list_from 0 bytes) refl e after in
    let inside : List ℕ = flat_map piece_bytes list.pieces in
    let value : List ℕ = 91 ∷ inside in
    let first = first_line (inside ++ list.after) in
    let split : bytes ∷ lines ≡ first.first ∷ (first.more ++ list.rest) = list.form ∙ ap (λ l. l ++ list.rest) first.form in
    let first_is : bytes ≡ first.first = cc in
    let more_is : lines ≡ first.more ++ list.rest = cc in
    let text : List ℕ = gives.before ++ (name ++ (gives.between ++ (value ++ list.after))) in
    let text_lines : lines_of text ≡ line ∷ first.more =
    ap lines_of (shape (inside ++ list.after)) ∙ lines_front pre (inside ++ list.after) first.first first.more lines_of_both.0 first.form
    ∙ ap (λ l. l ∷ first.more) (ap (λ l. pre ++ l) (sym first_is) ∙ sym form) in
    let part : Part = record { lines = line ∷ first.more; says = Entry name (Brackets value) } in
    let made = after_part draft (added draft name (Brackets value)) part (item draft.depth name (Brackets value) ∷ []) list.rest items
    (record {
      bytes = text;
      after = list.after;
      is_list = record { pieces = list.pieces; closes = list.closes; form = refl };
      blanks_after = list.blanks;
      gives = gives_more text name gives.before gives.between (value ++ list.after) gives.blanks gives.is_name gives.blanks_between gives.some_between refl;
      form = sym text_lines;
    })
    refl
    (λ says more b. (more, refl, b))
    (record { more = list.more; total = list.total ∙ sym (append_assoc draft.items (item draft.depth name (Brackets value) ∷ []) list.more); goes = list.goes }) in
    subst (λ l. AfterFree draft (line ∷ l) items) (sym more_is) made

-- a parameter with a value
valued_sound : (draft : Draft) (name line : List ℕ) (b : ℕ) (bytes : List ℕ) (next : Reader) (lines : List (List ℕ)) (items : List Item)
    → IsOneLine line → is_blank b ≡ false → (b == 123) ≡ false → GivesParameter line name (b ∷ bytes)
    → valued draft name (b ∷ bytes) ≡ Some next → AfterReader next lines items → AfterFree draft (line ∷ lines) items
unfolding valued
valued_sound draft name line b bytes next lines items one_line stays brace gives e after =
    let bare_reader : Option Reader = Some (free (added draft name (Bare (trimmed (b ∷ bytes))))) in
    ⊎_elim
    (λ quote. let is : b ≡ 34 = eqb-true b 34 quote.0 in
    quoted_sound draft name line bytes next lines items (subst (λ n. GivesParameter line name (n ∷ bytes)) is gives)
    (ap (λ n. reader_strings draft name (strings_from [] (n ∷ bytes))) (sym is) ∙ sym quote.1 ∙ e) after)
    (λ r. ⊎_elim
    (λ bracket. let is : b ≡ 91 = eqb-true b 91 bracket.0 in
    brackets_sound draft name line bytes next lines items one_line (subst (λ n. GivesParameter line name (n ∷ bytes)) is gives) (sym bracket.1 ∙ e) after)
    (λ other.
    let value : List ℕ = trimmed (b ∷ bytes) in
    let trim = trim_split (b ∷ bytes) in
    let end = trim_end (b ∷ bytes) (and_left (is_blank b) (list_all is_blank bytes) stays) in
    bare_sound draft line lines items one_line name value next
    (inr (record {
      after = trim.after;
      blanks_after = trim.blanks;
      is_bare = record {
        first = b;
        rest = trimmed bytes;
        front = end.front;
        last = end.last;
        begins = trimmed_first b bytes stays;
        no_quote = eqb-false b 34 other.0;
        no_bracket = eqb-false b 91 other.1;
        no_brace = eqb-false b 123 brace;
        no_blank_first = stays;
        ends = end.form;
        no_blank_last = end.stays;
      };
      gives = subst (GivesParameter line name) trim.form gives;
    }))
    (sym other.2 ∙ e) after)
    r)
    (two_tests (b == 34) (b == 91) (reader_strings draft name (strings_from [] (b ∷ bytes))) (listed draft name (91 ∷ []) 0 bytes) bare_reader)

-- what follows a name
after_name_sound : (draft : Draft) (name line before rest between value : List ℕ) (next : Reader) (lines : List (List ℕ)) (items : List Item)
    → IsOneLine line → AreBlanks before → IsName name → AreBlanks between
    → line ≡ before ++ (name ++ rest) → rest ≡ between ++ value → FirstIs (λ b. is_blank b ≡ false) value
    → after_name draft name rest value ≡ Some next → AfterReader next lines items → AfterFree draft (line ∷ lines) items
after_name_sound draft name line before rest between [] next lines items one_line blanks is_name blanks_between form rest_is stays e after =
    bare_sound draft line lines items one_line name [] next
    (inl (record { before = before; after = rest; blanks = blanks; is_name = is_name; blanks_after = subst AreBlanks (sym (rest_is ∙ append-nil between)) blanks_between; form = form }, refl))
    e after
after_name_sound draft name line before rest between (b ∷ bytes) next lines items one_line blanks is_name blanks_between form rest_is stays e after =
    let whole : line ≡ before ++ (name ++ (between ++ b ∷ bytes)) = form ∙ ap (λ l. before ++ (name ++ l)) rest_is in
    ⊎_elim
    (λ brace. opened_sound draft line lines items one_line name bytes next
    (λ blanks_after. record {
      before = before;
      between = between;
      after = bytes;
      blanks = blanks;
      is_name =
          is_name;
      blanks_between = blanks_between;
      blanks_after = blanks_after;
      form =
          whole ∙ ap (λ n. before ++ (name ++ (between ++ n ∷ bytes))) (eqb-true b 123 brace.0);
    })
    (sym brace.1 ∙ e) after)
    (λ r. ⊎_elim
    (λ touching. let no : None ≡ Some next = sym touching.1 ∙ e in cc)
    (λ apart.
    let some : between ≢ [] = λ nothing. eqb-false (length rest) (length (b ∷ bytes)) apart.1 (ap length (rest_is ∙ ap (λ l. l ++ b ∷ bytes) nothing)) in
    valued_sound draft name line b bytes next lines items one_line stays apart.0 (gives_more line name before between (b ∷ bytes) blanks is_name blanks_between some whole) (sym apart.2 ∙ e) after)
    r)
    (two_tests (b == 123) (length rest == length (b ∷ bytes)) (opened draft name bytes) None (valued draft name (b ∷ bytes)))

-- a line that begins with a name
named_sound : (draft : Draft) (line before text : List ℕ) (next : Reader) (lines : List (List ℕ)) (items : List Item)
    → IsOneLine line → AreBlanks before → line ≡ before ++ text
    → named draft text ≡ Some next → AfterReader next lines items → AfterFree draft (line ∷ lines) items
unfolding named
named_sound draft line before text next lines items one_line blanks form e after =
    let count : ℕ = prefix_len is_name_byte text in
    let name : List ℕ = take count text in
    let rest : List ℕ = drop count text in
    let named_next : Option Reader = after_name draft name rest (unblanked rest) in
    let split = unblanked_split rest in
    ⊎_elim
    (λ none. let no : None ≡ Some next = none.1 in cc)
    (λ some. after_name_sound draft name line before rest split.before (unblanked rest) next lines items one_line blanks
    (record { nonempty = λ empty. eqb-false count 0 some.0 (sym (length-prefix_len is_name_byte text) ∙ ap length empty); each = name_bytes text })
    split.blanks (form ∙ ap (λ l. before ++ l) (sym (take-append-drop count text))) split.form (unblanked_first rest) some.1 after)
    (cond_cases (count == 0) None named_next (Some next) e)

fresh_text_sound : (draft : Draft) (line before text : List ℕ) (next : Reader) (lines : List (List ℕ)) (items : List Item)
    → IsOneLine line → AreBlanks before → line ≡ before ++ text
    → fresh_text draft text ≡ Some next → AfterReader next lines items → AfterFree draft (line ∷ lines) items
fresh_text_sound draft line before [] next lines items one_line blanks form e after =
    nothing_sound draft line lines items one_line next (inl (subst AreBlanks (sym (form ∙ append-nil before)) blanks)) e after
fresh_text_sound draft line before (b ∷ bytes) next lines items one_line blanks form e after =
    ⊎_elim
    (λ comment. nothing_sound draft line lines items one_line next
    (inr (record { before = before; text = bytes; blanks = blanks; form = form ∙ ap (λ n. before ++ n ∷ bytes) (eqb-true b 35 comment.0) }))
    (sym comment.1 ∙ e) after)
    (λ r. ⊎_elim
    (λ end. closed_sound draft line lines items one_line before bytes next blanks (form ∙ ap (λ n. before ++ n ∷ bytes) (eqb-true b 125 end.0)) (sym end.1 ∙ e) after)
    (λ other. named_sound draft line before (b ∷ bytes) next lines items one_line blanks form (sym other.2 ∙ e) after)
    r)
    (two_tests (b == 35) (b == 125) (Some (free draft)) (closed draft bytes) (named draft (b ∷ bytes)))

fresh_sound : (draft : Draft) (line : List ℕ) (next : Reader) (lines : List (List ℕ)) (items : List Item)
    → IsOneLine line → fresh draft line ≡ Some next → AfterReader next lines items → AfterFree draft (line ∷ lines) items
unfolding fresh
fresh_sound draft line next lines items one_line e after =
    let split = unblanked_split line in
    fresh_text_sound draft line split.before (unblanked line) next lines items one_line split.blanks split.form e after

-- where no further text comes, the quoted value is whole
strings_end : (draft : Draft) (name said : List ℕ) (lines : List (List ℕ)) (items : List Item) → AfterFree (added draft name (Quoted said)) lines items → AfterStrings draft name said lines items
strings_end draft name said lines items after = record {
  further = [];
  rest = lines;
  more = after.more;
  each = tt;
  form = refl;
  total = after.total ∙ append_assoc draft.items (item draft.depth name (Quoted said) ∷ []) after.more ∙ ap (λ v. draft.items ++ item draft.depth name (Quoted v) ∷ after.more) (sym (append-nil said));
  goes = after.goes;
}

after_strings_sound : (draft : Draft) (name said line before text : List ℕ) (next : Reader) (lines : List (List ℕ)) (items : List Item)
    → IsOneLine line → AreBlanks before → line ≡ before ++ text
    → cond (begins_with_quote text) (reader_strings draft name (strings_from said text)) (fresh (added draft name (Quoted said)) line) ≡ Some next
    → AfterReader next lines items → AfterStrings draft name said (line ∷ lines) items
after_strings_sound draft name said line before [] next lines items one_line blanks form e after =
    strings_end draft name said (line ∷ lines) items (fresh_sound (added draft name (Quoted said)) line next lines items one_line e after)
after_strings_sound draft name said line before (b ∷ bytes) next lines items one_line blanks form e after =
    ⊎_elim
    (λ quote. let is : b ≡ 34 = eqb-true b 34 quote.0 in
    further_sound draft name said line before bytes next lines items blanks
    (form ∙ ap (λ n. before ++ n ∷ bytes) is)
    (ap (λ n. reader_strings draft name (strings_from said (n ∷ bytes))) (sym is) ∙ quote.1) after)
    (λ other. strings_end draft name said (line ∷ lines) items (fresh_sound (added draft name (Quoted said)) line next lines items one_line other.1 after))
    (cond_cases (b == 34) (reader_strings draft name (strings_from said (b ∷ bytes))) (fresh (added draft name (Quoted said)) line) (Some next) e)

step_sound : (draft : Draft) (pending : Pending) (line : List ℕ) (next : Reader) (lines : List (List ℕ)) (items : List Item)
    → IsOneLine line → step_in draft pending line ≡ Some next → AfterReader next lines items → After draft pending (line ∷ lines) items
unfolding listed
step_sound draft Free line next lines items one_line e after = fresh_sound draft line next lines items one_line e after
step_sound draft (Strings name said) line next lines items one_line e after =
    let split = unblanked_split line in
    after_strings_sound draft name said line split.before (unblanked line) next lines items one_line split.blanks split.form e after
step_sound draft (OpenList name said n) line next lines items one_line e after =
    listed_sound draft name said n line next lines items one_line (list_from n line) refl e after

closed_end : (draft : Draft) (items : List Item) → if_closed draft ≡ Some items → AfterFree draft [] items
closed_end draft items e =
    let made = cond_some (draft.depth == 0) draft.items items e in
    record { more = []; total = sym made.1 ∙ sym (append-nil draft.items); goes = record { parts = []; each = tt; whole = refl; builds = (eqb-true draft.depth 0 made.0, refl) } }

finish_sound : (draft : Draft) (pending : Pending) (items : List Item) → finish_in draft pending ≡ Some items → After draft pending [] items
finish_sound draft Free items e = closed_end draft items e
finish_sound draft (Strings name said) items e = strings_end draft name said [] items (closed_end (added draft name (Quoted said)) items e)
finish_sound draft (OpenList name said n) items e = cc

-- an answer after a step comes from that step
step_some : {X Y : Type 0} (go : X → Option Y) (o : Option X) (y : Y) → option_and_then go o ≡ Some y → (x : X) × (o ≡ Some x) × (go x ≡ Some y)
step_some go None y e = cc
step_some go (Some x) y e = (x, refl, e)

run_sound : (lines : List (List ℕ)) (reader : Reader) (items : List Item) → AllByRecursion IsOneLine lines → run reader lines ≡ Some items → AfterReader reader lines items
unfolding step finish
run_sound [] reader items each e = finish_sound reader.draft reader.pending items e
run_sound (line ∷ lines) reader items each e =
    let made = step_some (λ next. run next lines) (step reader line) items e in
    step_sound reader.draft reader.pending line made.0 lines items each.0 made.1 (run_sound lines made.0 items each.1 made.2)

-- what is read is what the bytes stand for
pub reading_stands : (bytes : List ℕ) (items : List Item) → run start (lines_of bytes) ≡ Some items → Stands bytes (record { items = items })
reading_stands bytes items e =
    let after = run_sound (lines_of bytes) start items (lines_each bytes) e in
    record {
      parts = after.goes.parts;
      each = after.goes.each;
      whole = after.goes.whole;
      builds =
          subst (Builds 0 (flat_map (λ (part : Part). part.says ∷ []) after.goes.parts))
          (sym after.total) after.goes.builds;
    }
