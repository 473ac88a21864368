-- What the lines after a line make of what was read up to it, and each form of a line in front of them.
use Rattle.std.proofs.Common.{◌≡◌, ℕ, zero, suc, ◌+◌, ◌-◌, ◌<◌, List, [], ◌∷◌, ◌++◌, length, take, drop, Option, Some, None, ◌⊎◌, refl, sym, ◌∙◌, ap, subst, append_assoc, append-nil, flat_map, arith}
use Rattle.std.proofs.Common.{add-one, option_and_then, ltb-true}
use Rattle.std.specs.Prelude.{◌&&◌, nat_lt}
use Rattle.std.specs.List.{list_all, AllByRecursion}
use Rattle.std.proofs.lemmas.Bool.{and_parts}
use Rattle.std.proofs.lemmas.Grind.{flat_map-append}
use Rattle.std.proofs.Math.Seq.{take-append_seam, drop-append_seam}
use Rattle.fx_io.specs.FaultLine.{IsOneLine}
use Rattle.mdl_text.specs.declared.tree.Item.{Item}
use Rattle.mdl_text.specs.declared.tree.Value.{Value}
use Rattle.mdl_text.specs.declared.tree.Value.TheVariants.{Section, Bare, List as Brackets, Quoted}
use Rattle.mdl_text.specs.declared.strings.Place.TheVariants.{Outside, Inside}
use Rattle.mdl_text.specs.declared.brackets.ListEnd.{ListEnd}
use Rattle.mdl_text.specs.declared.brackets.ListEnd.TheVariants.{Closed, Open, Broken}
use Rattle.mdl_text.specs.declared.reader.Draft.{Draft}
use Rattle.mdl_text.specs.declared.reader.Pending.{Pending}
use Rattle.mdl_text.specs.declared.reader.Pending.TheVariants.{Nothing as Free, Strings, Open as OpenList}
use Rattle.mdl_text.specs.declared.reader.Reader.{Reader}
use Rattle.mdl_text.specs.Bytes.{is_blank, AreBlanks, AreStrings, lines_of, Piece, piece_bytes, Closes, Quote, quote_value, quote_bytes}
use Rattle.mdl_text.specs.Bytes.Piece.{Other}
use Rattle.mdl_text.specs.Lines.{IsComment, StartsSection, IsEmptyParameter, GivesParameter, IsBareParameter, IsFurtherText, Further}
use Rattle.mdl_text.specs.Stands.{Says, Part, HasForm, Builds}
use Rattle.mdl_text.specs.Stands.Says.{Nothing, Entry, End}
use Rattle.mdl_text.specs.inner.Plain.{strings, strings_from, list_from, added, free, reader_strings, opened, closed, listed_by}
use Rattle.std.proofs.lemmas.Option.{cond_some}
use Rattle.mdl_text.proofs.Classes.{newline_no_quote, newline_no_opening, newline_no_closing}
use Rattle.mdl_text.proofs.Quotes.{strings_sound, open_step, quote_shape}
use Rattle.mdl_text.proofs.Pieces.{list_sound}
use Rattle.mdl_text.proofs.LineLaws.{lines_one, lines_next}

abbrev pub item : ℕ → List ℕ → Value → Item
item depth name value = record { depth = depth; name = name; value = value }

-- the lines, in so many sections, have these items
pub record Goes (depth : ℕ) (lines : List (List ℕ)) (items : List Item) : Type 0 where
  pub parts : List Part
  pub each : AllByRecursion (λ part. HasForm part.lines part.says) parts
  pub whole : lines ≡ flat_map (λ part. part.lines) parts
  pub builds : Builds depth (flat_map (λ part. part.says ∷ []) parts) items

-- the lines that are left make these items of what was read, where nothing is pending,
pub record AfterFree (draft : Draft) (lines : List (List ℕ)) (items : List Item) : Type 0 where
  pub more : List Item
  pub total : items ≡ draft.items ++ more
  pub goes : Goes draft.depth lines more

-- where further text may follow a quoted value,
pub record AfterStrings (draft : Draft) (name said : List ℕ) (lines : List (List ℕ)) (items : List Item) : Type 0 where
  pub further : List Further
  pub rest : List (List ℕ)
  pub more : List Item
  pub each : AllByRecursion (λ next. IsFurtherText next.line next.value) further
  pub form : lines ≡ flat_map (λ next. next.line ∷ []) further ++ rest
  pub total : items ≡ draft.items ++ item draft.depth name (Quoted (said ++ flat_map (λ next. next.value) further)) ∷ more
  pub goes : Goes draft.depth rest more

-- and where a list is open
pub record AfterList (draft : Draft) (name said : List ℕ) (nesting : ℕ) (lines : List (List ℕ)) (items : List Item) : Type 0 where
  pub pieces : List Piece
  pub after : List ℕ
  pub rest : List (List ℕ)
  pub more : List Item
  pub closes : Closes nesting pieces
  pub blanks : AreBlanks after
  pub form : lines ≡ lines_of (flat_map piece_bytes pieces ++ after) ++ rest
  pub total : items ≡ draft.items ++ item draft.depth name (Brackets (said ++ flat_map piece_bytes pieces)) ∷ more
  pub goes : Goes draft.depth rest more

abbrev pub After : Draft → Pending → List (List ℕ) → List Item → Type 0
After draft Free lines items = AfterFree draft lines items
After draft (Strings name said) lines items = AfterStrings draft name said lines items
After draft (OpenList name said nesting) lines items = AfterList draft name said nesting lines items

abbrev pub AfterReader : Reader → List (List ℕ) → List Item → Type 0
AfterReader reader lines items = After reader.draft reader.pending lines items

-- one more part in front
pub after_part : (draft next : Draft) (part : Part) (made : List Item) (lines : List (List ℕ)) (items : List Item)
    → HasForm part.lines part.says → next.items ≡ draft.items ++ made
    → ((says : List Says) (more : List Item) → Builds next.depth says more → Builds draft.depth (part.says ∷ says) (made ++ more))
    → AfterFree next lines items → AfterFree draft (part.lines ++ lines) items
after_part draft next part made lines items form is builds after = record {
  more = made ++ after.more;
  total = after.total ∙ ap (λ l. l ++ after.more) is ∙ append_assoc draft.items made after.more;
  goes = record {
    parts = part ∷ after.goes.parts;
    each = (form, after.goes.each);
    whole = ap (λ l. part.lines ++ l) after.goes.whole;
    builds = builds (flat_map (λ part. part.says ∷ []) after.goes.parts) after.more after.goes.builds;
  };
}

abbrev line_part : List ℕ → Says → Part
line_part line says = record { lines = line ∷ []; says = says }

module _ (draft : Draft) (line : List ℕ) (lines : List (List ℕ)) (items : List Item) (one_line : IsOneLine line) where
  -- a line that says nothing
  pub nothing_sound : (next : Reader) → (AreBlanks line ⊎ IsComment line) → Some (free draft) ≡ Some next → AfterReader next lines items → AfterFree draft (line ∷ lines) items
  nothing_sound next form e after =
      let same : free draft ≡ next = cc in
      after_part draft draft (line_part line Nothing) [] lines items (line, refl, form) (sym (append-nil draft.items)) (λ says more b. b) (subst (λ r. AfterReader r lines items) (sym same) after)

  pub closed_sound : (before bytes : List ℕ) (next : Reader) → AreBlanks before → line ≡ before ++ 125 ∷ bytes
      → closed draft bytes ≡ Some next → AfterReader next lines items → AfterFree draft (line ∷ lines) items
  unfolding closed
  closed_sound before bytes next blanks form e after =
      let made = cond_some (list_all is_blank bytes && nat_lt 0 draft.depth) (free (record { items = draft.items; depth = draft.depth - 1 })) next e in
      let parts = and_parts (list_all is_blank bytes) (nat_lt 0 draft.depth) made.0 in
      after_part draft (record { items = draft.items; depth = draft.depth - 1 }) (line_part line End) [] lines items
      (line, refl, record { before = before; after = bytes; blanks = blanks; blanks_after = parts.0; form = form })
      (sym (append-nil draft.items))
      (λ says more b. ends draft.depth says more (ltb-true 0 draft.depth parts.1) b)
      (subst (λ r. AfterReader r lines items) (sym made.1) after)
    where
      ends : (depth : ℕ) (says : List Says) (more : List Item) → 0 < depth → Builds (depth - 1) says more → Builds depth (End ∷ says) more
      ends zero says more positive b = absurd (omega arith)
      ends (suc depth) says more positive b = let e : suc depth - 1 ≡ depth = omega arith in subst (λ d. Builds d says more) e b

  pub opened_sound : (name bytes : List ℕ) (next : Reader) → (AreBlanks bytes → StartsSection line name)
      → opened draft name bytes ≡ Some next → AfterReader next lines items → AfterFree draft (line ∷ lines) items
  unfolding opened
  opened_sound name bytes next form e after =
      let within : Draft = record { items = (added draft name Section).items; depth = draft.depth + 1 } in
      let made = cond_some (list_all is_blank bytes && nat_lt draft.depth 256) (free within) next e in
      let parts = and_parts (list_all is_blank bytes) (nat_lt draft.depth 256) made.0 in
      after_part draft within (line_part line (Entry name Section)) (item draft.depth name Section ∷ []) lines items
      (line, refl, form parts.0)
      refl
      (λ says more b. (more, refl, ltb-true draft.depth 256 parts.1, subst (λ d. Builds d says more) (add-one draft.depth) b))
      (subst (λ r. AfterReader r lines items) (sym made.1) after)

  pub bare_sound : (name value : List ℕ) (next : Reader)
      → ((IsEmptyParameter line name × (value ≡ [])) ⊎ IsBareParameter line name value)
      → Some (free (added draft name (Bare value))) ≡ Some next → AfterReader next lines items
      → AfterFree draft (line ∷ lines) items
  bare_sound name value next form e after =
      let same : free (added draft name (Bare value)) ≡ next = cc in
      after_part draft (added draft name (Bare value)) (line_part line (Entry name (Bare value))) (item draft.depth name (Bare value) ∷ []) lines items
      (line, refl, form) refl (λ says more b. (more, refl, b)) (subst (λ r. AfterReader r lines items) (sym same) after)

-- further text, or the first strings of a value, before what follows
strings_more : (draft : Draft) (name said : List ℕ) (next : Reader) (o : Option (List ℕ)) (lines : List (List ℕ)) (items : List Item)
    → reader_strings draft name o ≡ Some next → AfterReader next lines items
    → (value : List ℕ) × (o ≡ Some value) × AfterStrings draft name value lines items
strings_more draft name said next None lines items e after = cc
strings_more draft name said next (Some value) lines items e after =
    let same : record { draft = draft; pending = Strings name value } ≡ next = cc in
    (value, refl, subst (λ r. AfterReader r lines items) (sym same) after)

-- strings that begin with a quote are one or more
strings_form : (said bytes value : List ℕ) → strings_from said (34 ∷ bytes) ≡ Some value → (added : List ℕ) × (value ≡ said ++ added) × AreStrings (34 ∷ bytes) added
strings_form said bytes value h =
    let inner = strings_sound Inside bytes said value (ap (λ o. option_and_then (λ next. strings next.0 next.1 bytes) o) (sym (open_step said)) ∙ h) in
    let first : Quote = record { chars = inner.chars; after = inner.after } in (
      flat_map quote_value (first ∷ inner.quotes),
      inner.joined,
      record {
        quotes = first ∷ inner.quotes;
        nonempty = λ e. cc;
        each = (record { chars = inner.are_chars; after = inner.blanks }, inner.each);
        form = ap (λ l. 34 ∷ l) inner.form ∙ sym (quote_shape inner.chars inner.after (flat_map quote_bytes inner.quotes));
        joined = refl;
      },
    )

-- a line of further text
pub further_sound : (draft : Draft) (name said line before bytes : List ℕ) (next : Reader) (lines : List (List ℕ)) (items : List Item)
    → AreBlanks before → line ≡ before ++ 34 ∷ bytes
    → reader_strings draft name (strings_from said (34 ∷ bytes)) ≡ Some next → AfterReader next lines items → AfterStrings draft name said (line ∷ lines) items
further_sound draft name said line before bytes next lines items blanks form e after =
    let more = strings_more draft name said next (strings_from said (34 ∷ bytes)) lines items e after in
    let said_now = strings_form said bytes more.0 more.1 in
    let rest = more.2 in record {
      further = record { line = line; value = said_now.0 } ∷ rest.further;
      rest = rest.rest;
      more = rest.more;
      each = (record { before = before; strings = 34 ∷ bytes; blanks = blanks; are_strings = said_now.2; form = form }, rest.each);
      form = ap (λ l. line ∷ l) rest.form;
      total = rest.total ∙ ap (λ v. draft.items ++ item draft.depth name (Quoted v) ∷ rest.more)
          (ap (λ v. v ++ flat_map (λ next. next.value) rest.further) said_now.1
          ∙ append_assoc said said_now.0 (flat_map (λ next. next.value) rest.further));
      goes = rest.goes;
    }

-- the first line of a quoted value
pub quoted_sound : (draft : Draft) (name line bytes : List ℕ) (next : Reader) (lines : List (List ℕ)) (items : List Item)
    → GivesParameter line name (34 ∷ bytes)
    → reader_strings draft name (strings_from [] (34 ∷ bytes)) ≡ Some next → AfterReader next lines items → AfterFree draft (line ∷ lines) items
quoted_sound draft name line bytes next lines items gives e after =
    let more = strings_more draft name [] next (strings_from [] (34 ∷ bytes)) lines items e after in
    let said = strings_form [] bytes more.0 more.1 in
    let rest = more.2 in
    let whole : List ℕ = more.0 ++ flat_map (λ next. next.value) rest.further in
    let part : Part = record { lines = line ∷ flat_map (λ next. next.line ∷ []) rest.further; says = Entry name (Quoted whole) } in
    let made = after_part draft (added draft name (Quoted whole)) part (item draft.depth name (Quoted whole) ∷ []) rest.rest items
    (record {
      line = line;
      strings = 34 ∷ bytes;
      said = more.0;
      further = rest.further;
      gives = gives;
      are_strings = subst (AreStrings (34 ∷ bytes)) (sym said.1) said.2;
      each = rest.each;
      form = refl;
      joined = refl;
    })
    refl
    (λ says more b. (more, refl, b))
    (record { more = rest.more; total = rest.total ∙ sym (append_assoc draft.items (item draft.depth name (Quoted whole) ∷ []) rest.more); goes = rest.goes }) in
    subst (λ l. AfterFree draft (line ∷ l) items) (sym rest.form) made

-- a line of a list
pub listed_sound : (draft : Draft) (name said : List ℕ) (n : ℕ) (line : List ℕ) (next : Reader) (lines : List (List ℕ)) (items : List Item)
    → IsOneLine line → (end : ListEnd) → list_from n line ≡ end → listed_by draft name said line end ≡ Some next → AfterReader next lines items → AfterList draft name said n (line ∷ lines) items
listed_sound draft name said n line next lines items one_line (Closed taken) ends e after =
    let outer = list_sound Outside line n 0 (Closed taken) one_line (λ no. cc) ends in
    let bytes : List ℕ = flat_map piece_bytes outer.pieces in
    let count : taken ≡ length bytes = outer.ends.1 ∙ omega arith in
    let dropped : drop taken line ≡ outer.after = ap (λ m. drop m line) count ∙ ap (drop (length bytes)) outer.form ∙ drop-append_seam bytes outer.after in
    let took : take taken line ≡ bytes = ap (λ m. take m line) count ∙ ap (take (length bytes)) outer.form ∙ take-append_seam bytes outer.after in
    let made = cond_some (list_all is_blank (drop taken line)) (free (added draft name (Brackets (said ++ take taken line)))) next e in
    let rest = let P : Reader → Type 0 = λ r. AfterReader r lines items in subst P (sym made.1) after in record {
      pieces = outer.pieces;
      after = outer.after;
      rest = lines;
      more = rest.more;
      closes = outer.ends.0;
      blanks = subst AreBlanks dropped made.0;
      form = ap (λ l. l ++ lines) (sym (lines_one line one_line) ∙ ap lines_of outer.form);
      total = rest.total ∙ append_assoc draft.items
          (item draft.depth name (Brackets (said ++ take taken line)) ∷ []) rest.more
          ∙ ap (λ v. draft.items ++ item draft.depth name (Brackets (said ++ v)) ∷ rest.more) took;
      goes = rest.goes;
    }
listed_sound draft name said n line next lines items one_line (Open m) ends e after =
    let outer = list_sound Outside line n 0 (Open m) one_line (λ no. cc) ends in
    let bytes : List ℕ = flat_map piece_bytes outer.pieces in
    let is_bytes : line ≡ bytes = outer.form ∙ ap (λ l. bytes ++ l) outer.ends.1 ∙ append-nil bytes in
    let said_now : List ℕ = (said ++ line) ++ 10 ∷ [] in
    let same : record { draft = draft; pending = OpenList name said_now m } ≡ next = cc in
    let rest = let P : Reader → Type 0 = λ r. AfterReader r lines items in subst P (sym same) after in
    let later : List ℕ = flat_map piece_bytes rest.pieces in
    let all : flat_map piece_bytes (outer.pieces ++ Other 10 ∷ rest.pieces) ≡ line ++ 10 ∷ later =
    flat_map-append piece_bytes outer.pieces (Other 10 ∷ rest.pieces) ∙ ap (λ l. l ++ 10 ∷ later) (sym is_bytes) in record {
      pieces = outer.pieces ++ Other 10 ∷ rest.pieces;
      after = rest.after;
      rest = rest.rest;
      more = rest.more;
      closes = outer.ends.0 (Other 10 ∷ rest.pieces) (newline_no_quote, newline_no_opening, newline_no_closing, rest.closes);
      blanks = rest.blanks;
      form = ap (λ l. line ∷ l) rest.form ∙ ap (λ l. l ++ rest.rest)
          (sym (ap (λ l. lines_of (l ++ rest.after)) all ∙ ap lines_of (append_assoc line (10 ∷ later) rest.after)
          ∙ lines_next line (later ++ rest.after) one_line));
      total = rest.total ∙ ap (λ v. draft.items ++ item draft.depth name (Brackets v) ∷ rest.more)
          (append_assoc (said ++ line) (10 ∷ []) later ∙ append_assoc said line (10 ∷ later)
          ∙ ap (λ l. said ++ l) (sym all));
      goes = rest.goes;
    }
listed_sound draft name said n line next lines items one_line Broken ends e after = cc
