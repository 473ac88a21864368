-- How far a text was read, what that says of it, and where it stops.
use Rattle.std.proofs.Common.{◌≡◌, ℕ, zero, suc, ◌+◌, ◌-◌, ◌<◌, ◌≤◌, Bool, true, false, not, List, [], ◌∷◌, ◌++◌, length, take, drop, get_or, Some, None, inl, inr, refl, sym, ◌∙◌, ap, subst}
use Rattle.std.proofs.Common.{append_assoc, append-nil, eqb-true, flat_map, arith, add-one, option_and_then, length-drop, count_by, take-append-drop, drop-cons}
use Rattle.std.specs.Prelude.{◌==◌}
use Rattle.std.specs.List.{list_all}
use Rattle.std.proofs.lemmas.Bool.{and_from}
use Rattle.std.proofs.Math.Seq.{take-length}
use Rattle.fx_io.specs.FaultLine.{IsOneLine, IsPrefix, AreWholeLines}
use Rattle.fx_io.proofs.FaultLines.{count_append, count_none}
use Rattle.memchr.specs.Find.{IsFirstByte, is_byte}
use Rattle.mdl_text.specs.declared.tree.Tree.{Tree}
use Rattle.mdl_text.specs.declared.tree.Item.{Item}
use Rattle.mdl_text.specs.declared.tree.Value.TheVariants.{List as Brackets, Quoted}
use Rattle.mdl_text.specs.declared.reader.Draft.{Draft}
use Rattle.mdl_text.specs.declared.reader.Pending.{Pending}
use Rattle.mdl_text.specs.declared.reader.Pending.TheVariants.{Nothing as Free, Strings, Open as OpenList}
use Rattle.mdl_text.specs.declared.reader.Reader.{Reader}
use Rattle.mdl_text.specs.Bytes.{is_blank, lines_of, Piece, piece_bytes, Closes}
use Rattle.mdl_text.specs.Bytes.Piece.{Closing}
use Rattle.mdl_text.specs.Stands.{Stands}
use Rattle.mdl_text.specs.Prefix.{IsMdl, IsMdlFaultLine}
use Rattle.mdl_text.specs.inner.Plain.{added, free, fresh, step, finish, run, start}
use Rattle.mdl_text.proofs.LineLaws.{lines_one, lines_next}
use Rattle.mdl_text.proofs.Sound.{reading_stands}
use Rattle.mdl_text.proofs.Complete.{standing_read, fresh_end, run_free, run_list, run_strings_end, NoQuote}

abbrev newline : ℕ → Bool
newline byte = byte == 10

-- lines that end so many sections
ends : ℕ → List ℕ
ends zero = []
ends (suc depth) = 125 ∷ 10 ∷ ends depth

run_ends : (depth : ℕ) (items : List Item) → run (free (record { items = items; depth = depth })) (lines_of (ends depth)) ≡ Some items
unfolding ends step fresh finish
run_ends zero items = refl
run_ends (suc depth) items =
    let draft : Draft = record { items = items; depth = suc depth } in
    run_free draft (125 ∷ []) (free (record { items = items; depth = depth })) (lines_of (ends depth))
    (fresh_end draft (125 ∷ []) depth (record { before = []; after = []; blanks = refl; blanks_after = refl; form = refl }) refl)
    ∙ run_ends depth items

ends_no_quote : (depth : ℕ) → NoQuote (lines_of (ends depth))
unfolding ends is_blank
ends_no_quote zero = refl
ends_no_quote (suc depth) = refl

-- brackets that close so many and one more
closings : ℕ → List Piece
closings zero = Closing ∷ []
closings (suc n) = Closing ∷ closings n

closings_close : (n : ℕ) → Closes n (closings n)
unfolding closings
closings_close zero = refl
closings_close (suc n) = closings_close n

closings_line : (n : ℕ) → IsOneLine (flat_map piece_bytes (closings n))
unfolding closings
closings_line zero = refl
closings_line (suc n) = closings_line n

-- bytes after which a text is whole
pub record Closable (reader : Reader) : Type 0 where
  pub rest : List ℕ
  pub items : List Item
  pub reads : run reader (lines_of rest) ≡ Some items

closable_in : (draft : Draft) (pending : Pending) → Closable (record { draft = draft; pending = pending })
closable_in draft Free = record { rest = ends draft.depth; items = draft.items; reads = run_ends draft.depth draft.items }
closable_in draft (Strings name said) =
    let whole : Draft = added draft name (Quoted said) in record {
      rest = ends draft.depth;
      items = whole.items;
      reads = run_strings_end (lines_of (ends draft.depth)) draft name said (ends_no_quote draft.depth) ∙ run_ends draft.depth whole.items;
    }
closable_in draft (OpenList name said n) =
    let bytes : List ℕ = flat_map piece_bytes (closings n) in
    let whole : Draft = added draft name (Brackets (said ++ bytes)) in
    let more : List (List ℕ) = lines_of (ends draft.depth) in
    let reader : Reader = record { draft = draft; pending = OpenList name said n } in record {
      rest = bytes ++ 10 ∷ ends draft.depth;
      items = whole.items;
      reads =
          ap (run reader) (lines_next bytes (ends draft.depth) (closings_line n))
          ∙ ap (λ l. run reader (l ++ more)) (sym (ap lines_of (append-nil bytes) ∙ lines_one bytes (closings_line n)))
          ∙ run_list (closings n) n n draft name said [] [] more (closings_close n) refl refl (λ more. refl)
          ∙ run_ends draft.depth whole.items;
    }

closable : (reader : Reader) → Closable reader
closable reader = closable_in reader.draft reader.pending

-- The lines before a line were read, and the rest of the bytes is left.
pub record Reached (bytes rest : List ℕ) (reader : Reader) (line : ℕ) : Type 0 where
  pub before : List ℕ
  pub whole : bytes ≡ before ++ rest
  pub lines : AreWholeLines before
  pub number : line ≡ 1 + count_by newline before
  pub reads : (more : List ℕ) → run start (lines_of (before ++ more)) ≡ run reader (lines_of more)

module _ (bytes rest : List ℕ) (reader : Reader) (line : ℕ) (reached : Reached bytes rest reader line) where
  begins : IsPrefix IsMdl reached.before
  begins =
      let end = closable reader in
      record { rest = end.rest; is_text = (record { items = end.items }, reading_stands (reached.before ++ end.rest) end.items (reached.reads end.rest ∙ end.reads)) }

  module _ (next after : List ℕ) (one : IsOneLine next) (split : rest ≡ next ++ 10 ∷ after) where
    reads_line : (more : List ℕ) → run start (lines_of ((reached.before ++ (next ++ 10 ∷ [])) ++ more)) ≡ run reader (next ∷ lines_of more)
    reads_line more =
        ap (λ l. run start (lines_of l)) (append_assoc reached.before (next ++ 10 ∷ []) more ∙ ap (λ l. reached.before ++ l) (append_assoc next (10 ∷ []) more))
        ∙ reached.reads (next ++ 10 ∷ more)
        ∙ ap (run reader) (lines_next next more one)

    whole_line : bytes ≡ (reached.before ++ (next ++ 10 ∷ [])) ++ after
    whole_line = reached.whole ∙ ap (λ l. reached.before ++ l) (split ∙ sym (append_assoc next (10 ∷ []) after)) ∙ sym (append_assoc reached.before (next ++ 10 ∷ []) after)

    pub reached_next : (after_line : Reader) → step reader next ≡ Some after_line → Reached bytes after after_line (line + 1)
    reached_next after_line is = record {
      before = reached.before ++ (next ++ 10 ∷ []);
      whole = whole_line;
      lines = inr (reached.before ++ next, sym (append_assoc reached.before next (10 ∷ [])));
      number = omega (arith, reached.number, count_append reached.before (next ++ 10 ∷ []), count_append next (10 ∷ []), count_none next one);
      reads = λ more. reads_line more ∙ ap (λ o. option_and_then (λ r. run r (lines_of more)) o) is;
    }

    -- no text goes on with a line that is refused
    no_text : (more : List ℕ) (tree : Tree) → step reader next ≡ None → Stands ((reached.before ++ (next ++ 10 ∷ [])) ++ more) tree → ⊥
    no_text more tree is stands =
        let both : None ≡ Some tree.items = sym (reads_line more ∙ ap (λ o. option_and_then (λ r. run r (lines_of more)) o) is) ∙ standing_read _ tree stands in
        cc

    pub refused_line : step reader next ≡ None → (tree : Tree) → Stands bytes tree → ⊥
    refused_line is tree stands = no_text after tree is (subst (λ l. Stands l tree) whole_line stands)

    pub fault_line : step reader next ≡ None → IsMdlFaultLine bytes line
    fault_line is = record {
      before = reached.before;
      after = rest;
      whole = reached.whole;
      lines = reached.lines;
      number = reached.number;
      begins = begins;
      stops = inr (next, after, one, split, λ prefix. no_text prefix.rest prefix.is_text.0 is prefix.is_text.1);
    }

  module _ (one : IsOneLine rest) where
    reads_end : run start (lines_of bytes) ≡ run reader (rest ∷ [])
    reads_end = ap (λ l. run start (lines_of l)) reached.whole ∙ reached.reads rest ∙ ap (run reader) (lines_one rest one)

    pub found_end : (items : List Item) → run reader (rest ∷ []) ≡ Some items → Stands bytes (record { items = items })
    found_end items is = reading_stands bytes items (reads_end ∙ is)

    pub refused_end : run reader (rest ∷ []) ≡ None → (tree : Tree) → Stands bytes tree → ⊥
    refused_end is tree stands = let both : None ≡ Some tree.items = sym (reads_end ∙ is) ∙ standing_read bytes tree stands in cc

    pub fault_end : run reader (rest ∷ []) ≡ None → IsMdlFaultLine bytes line
    fault_end is = record { before = reached.before; after = rest; whole = reached.whole; lines = reached.lines; number = reached.number; begins = begins; stops = inl one }

-- bytes before the first newline are one line
one_line_before : (xs : List ℕ) (end : ℕ) → ((k : ℕ) → k < end → (get_or xs k 0 == 10) ≡ true → ⊥) → IsOneLine (take end xs)
one_line_before [] zero h = refl
one_line_before [] (suc end) h = refl
one_line_before (x ∷ xs) zero h = refl
one_line_before (x ∷ xs) (suc end) h =
    let first : 0 < suc end = omega arith in
    let other : not (x == 10) ≡ true = elim (x == 10) as (λ t. (x == 10) ≡ t → not t ≡ true) [ true ↦ λ e. absurd (h 0 first e) | false ↦ λ _. refl ] refl in
    and_from (not (x == 10)) (list_all (λ byte. not (byte == 10)) (take end xs)) other (one_line_before xs end (λ k below is. let up : suc k < suc end = omega arith in h (suc k) up is))

pub first_newline : (rest : List ℕ) (end : ℕ) → IsFirstByte (is_byte 10) rest (Some end)
    → IsOneLine (take end rest)
    × (rest ≡ take end rest ++ 10 ∷ take (length rest - (end + 1)) (drop (end + 1) rest))
first_newline rest end h = (
  one_line_before rest end (λ k below is. let low : 0 ≤ k = omega arith in h.0.before k low below is),
  sym (take-append-drop end rest) ∙ ap (λ l. take end rest ++ l)
      (drop-cons rest end 0 h.0.high ∙ ap (λ b. b ∷ drop (suc end) rest) (eqb-true (get_or rest end 0) 10 h.1)
      ∙ ap (λ n. 10 ∷ drop n rest) (sym (add-one end))
      ∙ ap (λ l. 10 ∷ l) (sym (whole (drop (end + 1) rest) (length-drop (end + 1) rest)))),
)
  where
    whole : (l : List ℕ) → length l ≡ length rest - (end + 1) → take (length rest - (end + 1)) l ≡ l
    whole l e = ap (λ n. take n l) (sym e) ∙ take-length l

pub no_newline : (rest : List ℕ) → IsFirstByte (is_byte 10) rest None → IsOneLine rest
no_newline rest h = subst IsOneLine (take-length rest) (one_line_before rest (length rest) (λ k below is. let low : 0 ≤ k = omega arith in h k low below is))
