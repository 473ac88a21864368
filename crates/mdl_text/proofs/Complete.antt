-- What a text stands for is read from it.
use Rattle.std.proofs.Common.{◌≡◌, ◌≢◌, ℕ, zero, suc, ◌+◌, ◌-◌, ◌<◌, true, false, cond, not, List, [], ◌∷◌, ◌++◌, length, take, drop, Some, None, ◌⊎◌, inl, inr, refl, sym, ◌∙◌, ap, subst}
use Rattle.std.proofs.Common.{append_assoc, append-nil, eqb-true, eq-eqb, ne_eqb, flat_map, arith, add-one, option_and_then, length-append, lt-ltb}
use Rattle.std.specs.Prelude.{◌==◌, nat_lt}
use Rattle.std.specs.List.{list_all, prefix_len, AllByRecursion}
use Rattle.std.proofs.lemmas.Bool.{and_parts, and_from}
use Rattle.std.proofs.Math.Seq.{take-append_seam, drop-append_seam, take-append-add, drop-append-add}
use Rattle.fx_io.specs.FaultLine.{IsOneLine}
use Rattle.fx_io.proofs.FaultLines.{line_join}
use Rattle.mdl_text.specs.declared.tree.Tree.{Tree}
use Rattle.mdl_text.specs.declared.tree.Item.{Item}
use Rattle.mdl_text.specs.declared.tree.Value.TheVariants.{Section, Bare, List as Brackets, Quoted}
use Rattle.mdl_text.specs.declared.strings.Place.TheVariants.{Outside}
use Rattle.mdl_text.specs.declared.reader.Draft.{Draft}
use Rattle.mdl_text.specs.declared.reader.Pending.TheVariants.{Strings, Open as OpenList}
use Rattle.mdl_text.specs.declared.reader.Reader.{Reader}
use Rattle.mdl_text.specs.Bytes.{is_blank, is_name_byte, AreBlanks, IsName, AreStrings, lines_of, Piece, piece_bytes, Closes, Quote, quote_bytes}
use Rattle.fx_text.specs.Strings.{quoted}
use Rattle.mdl_text.specs.Bytes.Piece.{Opening, Closing, String, Other}
use Rattle.mdl_text.specs.Lines.{IsComment, StartsSection, EndsSection, IsEmptyParameter, GivesParameter, IsBareParameter, IsFurtherText, Further, IsQuotedParameter, IsListParameter}
use Rattle.mdl_text.specs.Stands.{Says, Part, HasForm, Builds, Stands}
use Rattle.mdl_text.specs.Stands.Says.{Nothing, Entry, End}
use Rattle.mdl_text.specs.inner.Plain.{unblanked, trimmed, strings, strings_from, list_end, spot_at, added, free, reader_strings, opened, closed, listed_by, listed, valued, after_name, named}
use Rattle.mdl_text.specs.inner.Plain.{fresh_text, fresh, begins_with_quote, step, finish, run, start}
use Rattle.mdl_text.proofs.Classes.{no_byte, name_no_blank, blank_no_name, quote_no_blank, bracket_no_blank, hash_no_blank, opening_no_blank, closing_no_blank, quote_no_name, hash_no_name}
use Rattle.mdl_text.proofs.Classes.{opening_no_name, closing_no_name, bracket_no_brace, quote_no_brace}
use Rattle.mdl_text.proofs.Scans.{FirstIs, unblanked_after, unblanked_at, unblanked_none, name_length_of, trimmed_value}
use Rattle.mdl_text.proofs.Quotes.{outside_quotes}
use Rattle.mdl_text.proofs.Pieces.{string_end, opening_end, closing_end, last_end, other_end}
use Rattle.mdl_text.proofs.LineLaws.{first_line, lines_front, lines_one, lines_next, blanks_line, name_line}
use Rattle.mdl_text.proofs.After.{item}

-- a line of blanks, or a comment
pub fresh_nothing : (draft : Draft) (line : List ℕ) → (AreBlanks line ⊎ IsComment line) → fresh draft line ≡ Some (free draft)
unfolding fresh
fresh_nothing draft line (inl blanks) = ap (fresh_text draft) (unblanked_none line blanks)
fresh_nothing draft line (inr comment) = ap (fresh_text draft) (ap unblanked comment.form ∙ unblanked_at comment.before 35 comment.text comment.blanks hash_no_blank)

-- the end of a section
pub fresh_end : (draft : Draft) (line : List ℕ) (depth : ℕ) → EndsSection line → draft.depth ≡ suc depth → fresh draft line ≡ Some (free (record { items = draft.items; depth = depth }))
unfolding fresh closed
fresh_end draft line depth end deep =
    let one_up : draft.depth - 1 ≡ depth = omega arith in
    let positive : 0 < draft.depth = omega arith in
    ap (fresh_text draft) (ap unblanked end.form ∙ unblanked_at end.before 125 end.after end.blanks closing_no_blank)
    ∙ ap (λ t. cond t (Some (free (record { items = draft.items; depth = draft.depth - 1 }))) None)
    (and_from (list_all is_blank end.after) (nat_lt 0 draft.depth) end.blanks_after
    (lt-ltb 0 draft.depth positive))
    ∙ ap (λ d. Some (free (record { items = draft.items; depth = d }))) one_up

-- a line that begins with a name
fresh_name : (draft : Draft) (before name rest : List ℕ) → AreBlanks before → IsName name
    → FirstIs (λ b. is_name_byte b ≡ false) rest
    → fresh draft (before ++ (name ++ rest)) ≡ after_name draft name rest (unblanked rest)
unfolding fresh named
fresh_name draft before name rest blanks is_name stops = ap (fresh_text draft) (unblanked_after before (name ++ rest) blanks) ∙ at name is_name.nonempty is_name.each
  where
    at : (name : List ℕ) → name ≢ [] → list_all is_name_byte name ≡ true → fresh_text draft (unblanked (name ++ rest)) ≡ after_name draft name rest (unblanked rest)
    at [] some each = absurd (some refl)
    at (b ∷ bs) some each =
        let parts = and_parts (is_name_byte b) (list_all is_name_byte bs) each in
        let text : List ℕ = (b ∷ bs) ++ rest in
        let count : prefix_len is_name_byte text ≡ length (b ∷ bs) = name_length_of (b ∷ bs) rest each stops in
        let positive : (length (b ∷ bs) == 0) ≡ false = ne_eqb _ _ (λ e. omega (arith, e)) in
        ap (λ t. fresh_text draft (cond t (unblanked (bs ++ rest)) text)) (name_no_blank b parts.0)
        ∙ ap (λ t. cond t (Some (free draft)) (cond (b == 125) (closed draft (bs ++ rest)) (named draft text))) (no_byte is_name_byte b 35 parts.0 hash_no_name)
        ∙ ap (λ t. cond t (closed draft (bs ++ rest)) (named draft text)) (no_byte is_name_byte b 125 parts.0 closing_no_name)
        ∙ ap (λ n. cond (n == 0) None (after_name draft (take n text) (drop n text) (unblanked (drop n text)))) count
        ∙ ap (λ t. cond t None (after_name draft (take (length (b ∷ bs)) text) (drop (length (b ∷ bs)) text) (unblanked (drop (length (b ∷ bs)) text)))) positive
        ∙ ap (λ l. after_name draft l (drop (length (b ∷ bs)) text) (unblanked (drop (length (b ∷ bs)) text))) (take-append_seam (b ∷ bs) rest)
        ∙ ap (λ l. after_name draft (b ∷ bs) l (unblanked l)) (drop-append_seam (b ∷ bs) rest)

-- a name doesn't go on with a blank
blank_stops : (between rest : List ℕ) → AreBlanks between → FirstIs (λ b. is_name_byte b ≡ false) rest → FirstIs (λ b. is_name_byte b ≡ false) (between ++ rest)
blank_stops [] rest blanks stops = stops
blank_stops (b ∷ bs) rest blanks stops = blank_no_name b (and_parts (is_blank b) (list_all is_blank bs) blanks).0

pub fresh_section : (draft : Draft) (line name : List ℕ) → StartsSection line name → draft.depth < 256
    → fresh draft line ≡ Some (free (record {
      items = draft.items ++ item draft.depth name Section ∷ [];
      depth =
          suc draft.depth;
    }))
unfolding opened
fresh_section draft line name starts deep =
    let rest : List ℕ = starts.between ++ 123 ∷ starts.after in
    ap (fresh draft) starts.form
    ∙ fresh_name draft starts.before name rest starts.blanks starts.is_name (blank_stops starts.between (123 ∷ starts.after) starts.blanks_between opening_no_name)
    ∙ ap (after_name draft name rest) (unblanked_at starts.between 123 starts.after starts.blanks_between opening_no_blank)
    ∙ ap (λ t. cond t (Some (free (record { items = (added draft name Section).items; depth = draft.depth + 1 })))
    None) (and_from (list_all is_blank starts.after) (nat_lt draft.depth 256) starts.blanks_after
    (lt-ltb draft.depth 256 deep))
    ∙ ap (λ d. Some (free (record { items = (added draft name Section).items; depth = d }))) (add-one draft.depth)

pub fresh_empty : (draft : Draft) (line name : List ℕ) → IsEmptyParameter line name → fresh draft line ≡ Some (free (added draft name (Bare [])))
fresh_empty draft line name empty =
    ap (fresh draft) empty.form
    ∙ fresh_name draft empty.before name empty.after empty.blanks empty.is_name
    (subst (FirstIs (λ b. is_name_byte b ≡ false)) (append-nil empty.after)
    (blank_stops empty.after [] empty.blanks_after tt))
    ∙ ap (after_name draft name empty.after) (unblanked_none empty.after empty.blanks_after)

-- a parameter with a value
pub fresh_value : (draft : Draft) (line name : List ℕ) (b : ℕ) (bytes : List ℕ) → GivesParameter line name (b ∷ bytes) → is_blank b ≡ false → b ≢ 123 → fresh draft line ≡ valued draft name (b ∷ bytes)
fresh_value draft line name b bytes gives stays brace =
    let rest : List ℕ = gives.between ++ b ∷ bytes in
    let longer : (length rest == length (b ∷ bytes)) ≡ false = ne_eqb _ _ (λ e. longer_than gives.between gives.some_between e) in
    ap (fresh draft) gives.form
    ∙ fresh_name draft gives.before name rest gives.blanks gives.is_name (stops gives.between gives.some_between gives.blanks_between)
    ∙ ap (after_name draft name rest) (unblanked_at gives.between b bytes gives.blanks_between stays)
    ∙ ap (λ t. cond t (opened draft name bytes) (cond (length rest == length (b ∷ bytes)) None (valued draft name (b ∷ bytes)))) (ne_eqb b 123 brace)
    ∙ ap (λ t. cond t None (valued draft name (b ∷ bytes))) longer
  where
    longer_than : (between : List ℕ) → between ≢ [] → length (between ++ b ∷ bytes) ≡ length (b ∷ bytes) → ⊥
    longer_than [] some e = some refl
    longer_than (x ∷ xs) some e = omega (arith, e, length-append xs (b ∷ bytes))

    stops : (between : List ℕ) → between ≢ [] → AreBlanks between → FirstIs (λ b. is_name_byte b ≡ false) (between ++ b ∷ bytes)
    stops [] some blanks = absurd (some refl)
    stops (x ∷ xs) some blanks = blank_no_name x (and_parts (is_blank x) (list_all is_blank xs) blanks).0

pub fresh_bare : (draft : Draft) (line name value : List ℕ) → IsBareParameter line name value → fresh draft line ≡ Some (free (added draft name (Bare value)))
unfolding valued
fresh_bare draft line name value bare =
    let is = bare.is_bare in
    let said : value ++ bare.after ≡ is.first ∷ (is.rest ++ bare.after) = ap (λ l. l ++ bare.after) is.begins in
    let trim : trimmed (is.first ∷ (is.rest ++ bare.after)) ≡ value =
    ap trimmed (sym said ∙ ap (λ l. l ++ bare.after) is.ends) ∙ trimmed_value is.front is.last bare.after bare.blanks_after is.no_blank_last ∙ sym is.ends in
    fresh_value draft line name is.first (is.rest ++ bare.after) (subst (GivesParameter line name) said bare.gives) is.no_blank_first is.no_brace
    ∙ ap (λ t. cond t (reader_strings draft name (strings_from [] (is.first ∷ (is.rest ++ bare.after))))
    (cond (is.first == 91) (listed draft name (91 ∷ []) 0 (is.rest ++ bare.after))
    (Some (free (added draft name (Bare (trimmed (is.first ∷ (is.rest ++ bare.after)))))))))
    (ne_eqb is.first 34 is.no_quote)
    ∙ ap (λ t. cond t (listed draft name (91 ∷ []) 0 (is.rest ++ bare.after)) (Some (free (added draft name (Bare (trimmed (is.first ∷ (is.rest ++ bare.after)))))))) (ne_eqb is.first 91 is.no_bracket)
    ∙ ap (λ v. Some (free (added draft name (Bare v)))) trim

-- the step of a line that goes on with nothing
pub run_free : (draft : Draft) (line : List ℕ) (next : Reader) (lines : List (List ℕ)) → fresh draft line ≡ Some next → run (free draft) (line ∷ lines) ≡ run next lines
unfolding step
run_free draft line next lines e = ap (λ o. option_and_then (λ next. run next lines) o) e

-- strings begin with a quote,
strings_first : (bytes value : List ℕ) → AreStrings bytes value → (rest : List ℕ) × (bytes ≡ 34 ∷ rest)
strings_first bytes value are = of are.quotes are.nonempty are.form
  where
    of : (quotes : List Quote) → quotes ≢ [] → bytes ≡ flat_map quote_bytes quotes → (rest : List ℕ) × (bytes ≡ 34 ∷ rest)
    of [] some form = absurd (some refl)
    of (q ∷ qs) some form = (_, form)

-- and are read as what they say
strings_read : (said bytes value : List ℕ) → AreStrings bytes value → strings_from said bytes ≡ Some (said ++ value)
strings_read said bytes value are = ap (strings Outside said) are.form ∙ outside_quotes are.quotes said are.each ∙ ap (λ v. Some (said ++ v)) (sym are.joined)

abbrev pub with_strings : Draft → List ℕ → List ℕ → Reader
with_strings draft name said = record { draft = draft; pending = Strings name said }

abbrev pub with_list : Draft → List ℕ → List ℕ → ℕ → Reader
with_list draft name said n = record { draft = draft; pending = OpenList name said n }

further_step : (draft : Draft) (name said line value : List ℕ) → IsFurtherText line value → step (with_strings draft name said) line ≡ Some (with_strings draft name (said ++ value))
unfolding step
further_step draft name said line value is =
    let first = strings_first is.strings value is.are_strings in
    let text : unblanked line ≡ is.strings = ap unblanked (is.form ∙ ap (λ l. is.before ++ l) first.1) ∙ unblanked_at is.before 34 first.0 is.blanks quote_no_blank ∙ sym first.1 in
    ap (λ l. cond (begins_with_quote l) (reader_strings draft name (strings_from said l)) (fresh (added draft name (Quoted said)) line)) text
    ∙ ap (λ l. cond (begins_with_quote l) (reader_strings draft name (strings_from said is.strings)) (fresh (added draft name (Quoted said)) line)) first.1
    ∙ ap (reader_strings draft name) (strings_read said is.strings value is.are_strings)

run_further : (further : List Further) (draft : Draft) (name said : List ℕ) (rest : List (List ℕ))
    → AllByRecursion (λ next. IsFurtherText next.line next.value) further
    → run (with_strings draft name said) (flat_map (λ next. next.line ∷ []) further ++ rest)
    ≡ run (with_strings draft name (said ++ flat_map (λ next. next.value) further)) rest
run_further [] draft name said rest each = ap (λ v. run (with_strings draft name v) rest) (sym (append-nil said))
run_further (f ∷ fs) draft name said rest each =
    ap (λ o. option_and_then (λ next. run next (flat_map (λ next. next.line ∷ []) fs ++ rest)) o) (further_step draft name said f.line f.value each.0)
    ∙ run_further fs draft name (said ++ f.value) rest each.1
    ∙ ap (λ v. run (with_strings draft name v) rest) (append_assoc said f.value (flat_map (λ next. next.value) fs))

-- no further text comes first
abbrev pub NoQuote : List (List ℕ) → Type 0
NoQuote [] = Unit {0}
NoQuote (line ∷ lines) = begins_with_quote (unblanked line) ≡ false

pub run_strings_end : (lines : List (List ℕ)) (draft : Draft) (name said : List ℕ) → NoQuote lines → run (with_strings draft name said) lines ≡ run (free (added draft name (Quoted said))) lines
unfolding step finish
run_strings_end [] draft name said other = refl
run_strings_end (line ∷ lines) draft name said other =
    ap (λ t. option_and_then (λ next. run next lines)
    (cond t (reader_strings draft name (strings_from said (unblanked line)))
    (fresh (added draft name (Quoted said)) line))) other

name_no_quote : (before name rest : List ℕ) → AreBlanks before → IsName name → begins_with_quote (unblanked (before ++ (name ++ rest))) ≡ false
name_no_quote before name rest blanks is_name = ap begins_with_quote (unblanked_after before (name ++ rest) blanks) ∙ at name is_name.nonempty is_name.each
  where
    at : (name : List ℕ) → name ≢ [] → list_all is_name_byte name ≡ true → begins_with_quote (unblanked (name ++ rest)) ≡ false
    at [] some each = absurd (some refl)
    at (b ∷ bs) some each =
        let parts = and_parts (is_name_byte b) (list_all is_name_byte bs) each in
        ap (λ t. begins_with_quote (cond t (unblanked (bs ++ rest)) (b ∷ (bs ++ rest)))) (name_no_blank b parts.0) ∙ no_byte is_name_byte b 34 parts.0 quote_no_name

gives_no_quote : (line name said : List ℕ) → GivesParameter line name said → begins_with_quote (unblanked line) ≡ false
gives_no_quote line name said gives = ap (λ l. begins_with_quote (unblanked l)) gives.form ∙ name_no_quote gives.before name (gives.between ++ said) gives.blanks gives.is_name

line_no_quote : (lines rest : List (List ℕ)) (line : List ℕ) → lines ≡ line ∷ [] → begins_with_quote (unblanked line) ≡ false → NoQuote (lines ++ rest)
line_no_quote lines rest line is other = subst (λ l. NoQuote (l ++ rest)) (sym is) other

-- the first line of a list begins with its name
list_no_quote : (bytes name said : List ℕ) (rest : List (List ℕ)) → GivesParameter bytes name said → NoQuote (lines_of bytes ++ rest)
list_no_quote bytes name said rest gives =
    let tail : List ℕ = gives.between ++ said in
    let first = first_line tail in
    let front : List ℕ = gives.before ++ name in
    let one : IsOneLine front = line_join gives.before name (blanks_line gives.before gives.blanks) (name_line name gives.is_name.each) in
    let lines : lines_of bytes ≡ (front ++ first.first) ∷ first.more =
    ap lines_of (gives.form ∙ sym (append_assoc gives.before name tail))
    ∙ lines_front front tail first.first first.more one first.form in
    subst (λ l. NoQuote (l ++ rest)) (sym lines)
    (ap (λ l. begins_with_quote (unblanked l)) (append_assoc gives.before name first.first)
    ∙ name_no_quote gives.before name first.first gives.blanks gives.is_name)

part_no_quote : (lines rest : List (List ℕ)) (says : Says) → HasForm lines says → NoQuote (lines ++ rest)
part_no_quote lines rest Nothing form = line_no_quote lines rest form.0 form.1 (of form.0 form.2)
  where
    of : (line : List ℕ) → (AreBlanks line ⊎ IsComment line) → begins_with_quote (unblanked line) ≡ false
    of line (inl blanks) = ap begins_with_quote (unblanked_none line blanks)
    of line (inr comment) = ap begins_with_quote (ap unblanked comment.form ∙ unblanked_at comment.before 35 comment.text comment.blanks hash_no_blank)
part_no_quote lines rest End form =
    let end = form.2 in
    line_no_quote lines rest form.0 form.1 (ap begins_with_quote (ap unblanked end.form ∙ unblanked_at end.before 125 end.after end.blanks closing_no_blank))
part_no_quote lines rest (Entry name Section) form =
    let starts = form.2 in
    line_no_quote lines rest form.0 form.1
    (ap (λ l. begins_with_quote (unblanked l)) starts.form
    ∙ name_no_quote starts.before name (starts.between ++ 123 ∷ starts.after) starts.blanks starts.is_name)
part_no_quote lines rest (Entry name (Bare value)) form = line_no_quote lines rest form.0 form.1 (of form.2)
  where
    of : ((IsEmptyParameter form.0 name × (value ≡ [])) ⊎ IsBareParameter form.0 name value) → begins_with_quote (unblanked form.0) ≡ false
    of (inl empty) = ap (λ l. begins_with_quote (unblanked l)) empty.0.form ∙ name_no_quote empty.0.before name empty.0.after empty.0.blanks empty.0.is_name
    of (inr bare) = gives_no_quote form.0 name (value ++ bare.after) bare.gives
part_no_quote lines rest (Entry name (Quoted value)) form = subst (λ l. NoQuote (l ++ rest)) (sym form.form) (gives_no_quote form.line name form.strings form.gives)
part_no_quote lines rest (Entry name (Brackets value)) form = subst (λ l. NoQuote (l ++ rest)) (sym form.form) (list_no_quote form.bytes name (value ++ form.after) rest form.gives)

abbrev part_lines : List Part → List (List ℕ)
part_lines parts = flat_map (λ part. part.lines) parts

abbrev part_says : List Part → List Says
part_says parts = flat_map (λ part. part.says ∷ []) parts

parts_no_quote : (parts : List Part) → AllByRecursion (λ part. HasForm part.lines part.says) parts → NoQuote (part_lines parts)
parts_no_quote [] each = tt
parts_no_quote (part ∷ parts) each = part_no_quote part.lines (part_lines parts) part.says each.0

-- A list whose bytes on this line so far are pre: it was read from them on to where the pieces that are left begin.
abbrev pub ReadTo : ℕ → List ℕ → ℕ → Type 0
ReadTo n0 pre n = (rest : List ℕ) → list_end (spot_at Outside n0) 0 (pre ++ rest) ≡ list_end (spot_at Outside n) (length pre) rest

abbrev pub Reads : Draft → List ℕ → List ℕ → ℕ → List ℕ → List Piece → List ℕ → List (List ℕ) → Type 0
Reads draft name said n0 pre pieces after rest =
    run (with_list draft name said n0) (lines_of (pre ++ (flat_map piece_bytes pieces ++ after)) ++ rest) ≡ run (free (added draft name (Brackets (said ++ (pre ++ flat_map piece_bytes pieces))))) rest

-- one more piece is read to
read_more : (n0 n m : ℕ) (pre piece : List ℕ) → ReadTo n0 pre n
    → ((rest : List ℕ) → list_end (spot_at Outside n) (length pre) (piece ++ rest)
    ≡ list_end (spot_at Outside m) (length pre + length piece) rest) → ReadTo n0 (pre ++ piece) m
read_more n0 n m pre piece read next rest =
    ap (list_end (spot_at Outside n0) 0) (append_assoc pre piece rest) ∙ read (piece ++ rest) ∙ next rest ∙ ap (λ k. list_end (spot_at Outside m) k rest) (sym (length-append pre piece))

-- and what is read of it with the piece
reads_more : (draft : Draft) (name said : List ℕ) (n0 : ℕ) (pre : List ℕ) (piece : Piece) (pieces : List Piece)
    (after : List ℕ) (rest : List (List ℕ)) → Reads draft name said n0 (pre ++ piece_bytes piece) pieces after rest
    → Reads draft name said n0 pre (piece ∷ pieces) after rest
reads_more draft name said n0 pre piece pieces after rest reads =
    let bytes : List ℕ = piece_bytes piece in
    let more : List ℕ = flat_map piece_bytes pieces in
    ap (λ l. run (with_list draft name said n0) (lines_of l ++ rest)) (ap (λ l. pre ++ l) (append_assoc bytes more after) ∙ sym (append_assoc pre bytes (more ++ after)))
    ∙ reads
    ∙ ap (λ v. run (free (added draft name (Brackets (said ++ v)))) rest) (append_assoc pre bytes more)

-- the bracket that closes a list
run_last : (draft : Draft) (name said : List ℕ) (n0 : ℕ) (pre after : List ℕ) (rest : List (List ℕ)) → IsOneLine pre
    → AreBlanks after → ReadTo n0 pre 0 → run (with_list draft name said n0) (lines_of (pre ++ 93 ∷ after) ++ rest)
    ≡ run (free (added draft name (Brackets (said ++ (pre ++ 93 ∷ []))))) rest
unfolding step listed
run_last draft name said n0 pre after rest one blanks read =
    let line : List ℕ = pre ++ 93 ∷ after in
    let one_line : IsOneLine line = line_join pre (93 ∷ after) one (and_from true _ refl (blanks_line after blanks)) in
    let took : take (length pre + 1) line ≡ pre ++ 93 ∷ [] = take-append-add pre (93 ∷ after) 1 in
    let dropped : drop (length pre + 1) line ≡ after = drop-append-add pre (93 ∷ after) 1 in
    ap (λ l. run (with_list draft name said n0) (l ++ rest)) (lines_one line one_line)
    ∙ ap (λ end. option_and_then (λ next. run next rest) (listed_by draft name said line end)) (read (93 ∷ after) ∙ last_end (length pre) after)
    ∙ ap (λ l. option_and_then (λ next. run next rest) (cond (list_all is_blank l) (Some (free (added draft name (Brackets (said ++ take (length pre + 1) line))))) None)) dropped
    ∙ ap (λ t. option_and_then (λ next. run next rest) (cond t (Some (free (added draft name (Brackets (said ++ take (length pre + 1) line))))) None)) blanks
    ∙ ap (λ v. run (free (added draft name (Brackets (said ++ v)))) rest) took

-- a line at whose end a list goes on
run_newline : (draft : Draft) (name said : List ℕ) (n0 n : ℕ) (pre bytes : List ℕ) (rest : List (List ℕ))
    → IsOneLine pre → ReadTo n0 pre n → run (with_list draft name said n0) (lines_of (pre ++ 10 ∷ bytes) ++ rest)
    ≡ run (with_list draft name ((said ++ pre) ++ 10 ∷ []) n) (lines_of bytes ++ rest)
unfolding step listed
run_newline draft name said n0 n pre bytes rest one read =
    ap (λ l. run (with_list draft name said n0) (l ++ rest)) (lines_next pre bytes one)
    ∙ ap (λ end. option_and_then (λ next. run next (lines_of bytes ++ rest)) (listed_by draft name said pre end)) (ap (list_end (spot_at Outside n0) 0) (sym (append-nil pre)) ∙ read [])

-- a newline in a list
reads_newline : (draft : Draft) (name said : List ℕ) (n0 n : ℕ) (pre : List ℕ) (pieces : List Piece)
    (after : List ℕ) (rest : List (List ℕ)) → IsOneLine pre → ReadTo n0 pre n
    → Reads draft name ((said ++ pre) ++ 10 ∷ []) n [] pieces after rest
    → Reads draft name said n0 pre (Other 10 ∷ pieces) after rest
reads_newline draft name said n0 n pre pieces after rest one read reads =
    let later : List ℕ = flat_map piece_bytes pieces in
    run_newline draft name said n0 n pre (later ++ after) rest one read
    ∙ reads
    ∙ ap (λ v. run (free (added draft name (Brackets v))) rest) (append_assoc (said ++ pre) (10 ∷ []) later ∙ append_assoc said pre (10 ∷ later))

pub run_list : (pieces : List Piece) (n n0 : ℕ) (draft : Draft) (name said pre after : List ℕ)
    (rest : List (List ℕ)) → Closes n pieces → AreBlanks after → IsOneLine pre → ReadTo n0 pre n
    → Reads draft name said n0 pre pieces after rest
run_list [] n n0 draft name said pre after rest closes blanks one read = absurd closes
run_list (Opening ∷ pieces) n n0 draft name said pre after rest closes blanks one read =
    reads_more draft name said n0 pre Opening pieces after rest
    (run_list pieces (suc n) n0 draft name said (pre ++ 91 ∷ []) after rest closes blanks
    (line_join pre (91 ∷ []) one refl)
    (read_more n0 n (suc n) pre (91 ∷ []) read (λ more. opening_end n (length pre) more)))
run_list (Closing ∷ pieces) zero n0 draft name said pre after rest closes blanks one read =
    subst (λ ps. Reads draft name said n0 pre (Closing ∷ ps) after rest) (sym closes) (run_last draft name said n0 pre after rest one blanks read)
run_list (Closing ∷ pieces) (suc n) n0 draft name said pre after rest closes blanks one read =
    reads_more draft name said n0 pre Closing pieces after rest
    (run_list pieces n n0 draft name said (pre ++ 93 ∷ []) after rest closes blanks
    (line_join pre (93 ∷ []) one refl)
    (read_more n0 (suc n) n pre (93 ∷ []) read (λ more. closing_end n (length pre) more)))
run_list (String chars ∷ pieces) n n0 draft name said pre after rest closes blanks one read =
    reads_more draft name said n0 pre (String chars) pieces after rest
    (run_list pieces n n0 draft name said (pre ++ quoted chars) after rest closes.2 blanks
    (line_join pre (quoted chars) one closes.1)
    (read_more n0 n n pre (quoted chars) read (λ more. string_end chars n (length pre) more closes.0)))
run_list (Other b ∷ pieces) n n0 draft name said pre after rest closes blanks one read =
    elim (b == 10) as (λ t. (b == 10) ≡ t → Reads draft name said n0 pre (Other b ∷ pieces) after rest) [
      | true ↦ λ e. subst (λ x. Reads draft name said n0 pre (Other x ∷ pieces) after rest) (sym (eqb-true b 10 e))
          (reads_newline draft name said n0 n pre pieces after rest one read (run_list pieces n n draft name ((said ++ pre) ++ 10 ∷ []) [] after rest closes.3 blanks refl (λ more. refl)))
      | false ↦ λ e. reads_more draft name said n0 pre (Other b) pieces after rest
          (run_list pieces n n0 draft name said (pre ++ b ∷ []) after rest closes.3 blanks
          (line_join pre (b ∷ []) one (and_from (not (b == 10)) true (ap not e) refl))
          (read_more n0 n n pre (b ∷ []) read
          (λ more. other_end n (length pre) b more closes.0 closes.1 closes.2)))
    ] refl

-- a parameter whose value is a list
run_brackets : (draft : Draft) (lines : List (List ℕ)) (name value : List ℕ) (rest : List (List ℕ))
    → IsListParameter lines name value → run (free draft) (lines ++ rest)
    ≡ run (free (added draft name (Brackets value))) rest
unfolding step valued
run_brackets draft lines name value rest form =
    let gives = form.gives in
    let list = form.is_list in
    let tail : List ℕ = flat_map piece_bytes list.pieces ++ form.after in
    let first = first_line tail in
    let pre : List ℕ = gives.before ++ (name ++ (gives.between ++ 91 ∷ [])) in
    let shape : (more : List ℕ) → pre ++ more ≡ gives.before ++ (name ++ (gives.between ++ 91 ∷ more)) =
    λ more. append_assoc gives.before (name ++ (gives.between ++ 91 ∷ [])) more
    ∙ ap (λ l. gives.before ++ l) (append_assoc name (gives.between ++ 91 ∷ []) more
    ∙ ap (λ l. name ++ l) (append_assoc gives.between (91 ∷ []) more)) in
    let one : IsOneLine pre = line_join gives.before (name ++ (gives.between ++ 91 ∷ []))
    (blanks_line gives.before gives.blanks)
    (line_join name (gives.between ++ 91 ∷ []) (name_line name gives.is_name.each)
    (line_join gives.between (91 ∷ []) (blanks_line gives.between gives.blanks_between) refl)) in
    let text : form.bytes ≡ pre ++ tail = gives.form ∙ ap (λ v. gives.before ++ (name ++ (gives.between ++ (v ++ form.after)))) list.form ∙ sym (shape tail) in
    let line : List ℕ = pre ++ first.first in
    let said : GivesParameter line name (91 ∷ first.first) =
    record {
      before = gives.before;
      between = gives.between;
      blanks = gives.blanks;
      is_name =
          gives.is_name;
      blanks_between = gives.blanks_between;
      some_between =
          gives.some_between;
      form = shape first.first;
    } in
    ap (λ l. run (free draft) (l ++ rest)) (form.form ∙ ap lines_of text ∙ lines_front pre tail first.first first.more one first.form)
    ∙ ap (λ o. option_and_then (λ next. run next (first.more ++ rest)) o) (fresh_value draft line name 91 first.first said bracket_no_blank bracket_no_brace)
    ∙ ap (λ l. run (with_list draft name (91 ∷ []) 0) (l ++ rest)) (sym first.form)
    ∙ run_list list.pieces 0 0 draft name (91 ∷ []) [] form.after rest list.closes form.blanks_after refl (λ more. refl)
    ∙ ap (λ v. run (free (added draft name (Brackets v))) rest) (sym list.form)

-- a parameter whose value is quoted, before what is no further text
run_quoted : (draft : Draft) (lines : List (List ℕ)) (name value : List ℕ) (rest : List (List ℕ))
    → IsQuotedParameter lines name value → NoQuote rest
    → run (free draft) (lines ++ rest) ≡ run (free (added draft name (Quoted value))) rest
unfolding step valued
run_quoted draft lines name value rest form other =
    let first = strings_first form.strings form.said form.are_strings in
    let tail : List (List ℕ) = flat_map (λ next. next.line ∷ []) form.further in
    let read : strings_from [] (34 ∷ first.0) ≡ Some form.said = ap (strings_from []) (sym first.1) ∙ strings_read [] form.strings form.said form.are_strings in
    ap (λ l. run (free draft) (l ++ rest)) form.form
    ∙ ap (λ o. option_and_then (λ next. run next (tail ++ rest)) o)
    (fresh_value draft form.line name 34 first.0
    (subst (GivesParameter form.line name) first.1 form.gives) quote_no_blank quote_no_brace
    ∙ ap (reader_strings draft name) read)
    ∙ run_further form.further draft name form.said rest form.each
    ∙ ap (λ v. run (with_strings draft name v) rest) (sym form.joined)
    ∙ run_strings_end rest draft name value other

abbrev Continues : List Says → List (List ℕ) → Type 0
Continues says rest = (draft : Draft) (more : List Item) → Builds draft.depth says more → run (free draft) rest ≡ Some (draft.items ++ more)

run_end : (depth : ℕ) (draft : Draft) (line : List ℕ) (rest : List (List ℕ)) (says : List Says) (items : List Item)
    → draft.depth ≡ depth → EndsSection line → Builds depth (End ∷ says) items → Continues says rest
    → run (free draft) (line ∷ rest) ≡ Some (draft.items ++ items)
run_end zero draft line rest says items e ends builds goes = absurd builds
run_end (suc depth) draft line rest says items e ends builds goes =
    let up : Draft = record { items = draft.items; depth = depth } in
    run_free draft line (free up) rest (fresh_end draft line depth ends e) ∙ goes up items builds

-- what follows an item
run_entry : (draft : Draft) (rest : List (List ℕ)) (says : List Says) (one : Item) (depth : ℕ) (more : List Item)
    → Continues says rest → Builds depth says more
    → run (free (record { items = draft.items ++ one ∷ []; depth = depth })) rest
    ≡ Some (draft.items ++ one ∷ more)
run_entry draft rest says one depth more goes builds = goes (record { items = draft.items ++ one ∷ []; depth = depth }) more builds ∙ ap Some (append_assoc draft.items (one ∷ []) more)

run_part : (draft : Draft) (lines rest : List (List ℕ)) (part : Says) (says : List Says) (items : List Item)
    → HasForm lines part → Builds draft.depth (part ∷ says) items → NoQuote rest → Continues says rest
    → run (free draft) (lines ++ rest) ≡ Some (draft.items ++ items)
run_part draft lines rest Nothing says items form builds other goes =
    ap (λ l. run (free draft) (l ++ rest)) form.1 ∙ run_free draft form.0 (free draft) rest (fresh_nothing draft form.0 form.2) ∙ goes draft items builds
run_part draft lines rest End says items form builds other goes =
    ap (λ l. run (free draft) (l ++ rest)) form.1 ∙ run_end draft.depth draft form.0 rest says items refl form.2 builds goes
run_part draft lines rest (Entry name Section) says items form builds other goes =
    let within : Draft = record { items = draft.items ++ item draft.depth name Section ∷ []; depth = suc draft.depth } in
    ap (λ l. run (free draft) (l ++ rest)) form.1
    ∙ run_free draft form.0 (free within) rest (fresh_section draft form.0 name form.2 builds.2)
    ∙ run_entry draft rest says (item draft.depth name Section) (suc draft.depth) builds.0 goes builds.3
    ∙ ap (λ l. Some (draft.items ++ l)) (sym builds.1)
run_part draft lines rest (Entry name (Bare value)) says items form builds other goes =
    ap (λ l. run (free draft) (l ++ rest)) form.1
    ∙ run_free draft form.0 (free (added draft name (Bare value))) rest (of form.2)
    ∙ run_entry draft rest says (item draft.depth name (Bare value)) draft.depth builds.0 goes builds.2
    ∙ ap (λ l. Some (draft.items ++ l)) (sym builds.1)
  where
    of : ((IsEmptyParameter form.0 name × (value ≡ [])) ⊎ IsBareParameter form.0 name value) → fresh draft form.0 ≡ Some (free (added draft name (Bare value)))
    of (inl empty) = fresh_empty draft form.0 name empty.0 ∙ ap (λ v. Some (free (added draft name (Bare v)))) (sym empty.1)
    of (inr bare) = fresh_bare draft form.0 name value bare
run_part draft lines rest (Entry name (Quoted value)) says items form builds other goes =
    run_quoted draft lines name value rest form other
    ∙ run_entry draft rest says (item draft.depth name (Quoted value)) draft.depth builds.0 goes builds.2
    ∙ ap (λ l. Some (draft.items ++ l)) (sym builds.1)
run_part draft lines rest (Entry name (Brackets value)) says items form builds other goes =
    run_brackets draft lines name value rest form
    ∙ run_entry draft rest says (item draft.depth name (Brackets value)) draft.depth builds.0 goes builds.2
    ∙ ap (λ l. Some (draft.items ++ l)) (sym builds.1)

run_parts : (parts : List Part) → AllByRecursion (λ part. HasForm part.lines part.says) parts → Continues (part_says parts) (part_lines parts)
unfolding finish
run_parts [] each draft items builds =
    ap (λ t. cond t (Some draft.items) None) (eq-eqb draft.depth 0 builds.0) ∙ ap Some (sym (append-nil draft.items)) ∙ ap (λ l. Some (draft.items ++ l)) (sym builds.1)
run_parts (part ∷ parts) each draft items builds =
    run_part draft part.lines (part_lines parts) part.says (part_says parts) items each.0 builds (parts_no_quote parts each.1) (run_parts parts each.1)

-- what the bytes stand for is read
pub standing_read : (bytes : List ℕ) (tree : Tree) → Stands bytes tree → run start (lines_of bytes) ≡ Some tree.items
standing_read bytes tree stands = ap (run start) stands.whole ∙ run_parts stands.parts stands.each start.draft tree.items stands.builds

pub one_tree : (bytes : List ℕ) (one other : Tree) → Stands bytes one → Stands bytes other → one ≡ other
one_tree bytes one other first second =
    let same : Some one.items ≡ Some other.items = sym (standing_read bytes one first) ∙ standing_read bytes other second in
    let items : one.items ≡ other.items = cc in
    ap (λ l. record { items = l }) items
