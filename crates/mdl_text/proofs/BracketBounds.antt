-- Of a list that is still open, no more brackets are open beside the first than bytes were read.
use Prim.Native.Char.{code}
use Rattle.std.proofs.Common.{◌≡◌, ℕ, ◌+◌, ◌-◌, ◌≤◌, Bool, true, false, cond, List, [], ◌∷◌, ◌++◌, length, take, drop, Option, Some, None, refl, subst, arith}
use Rattle.std.specs.Prelude.{◌==◌, ◌&&◌, nat_lt}
use Rattle.std.specs.List.{list_all, prefix_len}
use Rattle.std.proofs.lemmas.List.{length-append}
use Rattle.std.proofs.lemmas.Option.{none-some, same_Some}
use Rattle.mdl_text.specs.declared.strings.Place.{Place}
use Rattle.mdl_text.specs.declared.strings.Place.TheVariants.{Outside, Inside, Escaped}
use Rattle.mdl_text.specs.declared.brackets.Spot.{Spot}
use Rattle.mdl_text.specs.declared.brackets.ListEnd.{ListEnd}
use Rattle.mdl_text.specs.declared.brackets.ListEnd.TheVariants.{Closed, Open, Broken}
use Rattle.mdl_text.specs.declared.tree.Value.TheVariants.{Quoted}
use Rattle.mdl_text.specs.declared.reader.Draft.{Draft}
use Rattle.mdl_text.specs.declared.reader.Pending.{Pending}
use Rattle.mdl_text.specs.declared.reader.Pending.TheVariants.{Nothing, Strings, Open as OpenList}
use Rattle.mdl_text.specs.declared.reader.Reader.{Reader}
use Rattle.mdl_text.specs.Bytes.{is_blank, is_name_byte}
use Rattle.mdl_text.specs.inner.Plain.{unblanked, begins_with_quote, added, spot_at, spot_step_in, spot_step, line_end_in, or_else_closed, list_end, list_from, IsBounded, reader_strings, strings_from}
use Rattle.mdl_text.specs.inner.Plain.{opened, closed, listed_by, listed, valued, after_name, named, fresh_text, fresh, step_in, step}

record Keeps {A : Type 0} (P : A → Type 0) (found : Option A) : Type 0 where
  each : (x : A) → found ≡ Some x → P x

module _ {A : Type 0} (P : A → Type 0) where
  none : Keeps P None
  none = record { each = λ x is. absurd (none-some x is) }

  one : (x : A) → P x → Keeps P (Some x)
  one x holds = record { each = λ y is. subst P (same_Some x y is) holds }

  either : (b : Bool) (first other : Option A) → Keeps P first → Keeps P other → Keeps P (cond b first other)
  either true first other holds also = holds
  either false first other holds also = also

-- ---- a list over a line

abbrev InSpot : ℕ → Spot → Type 0
InSpot most spot = spot.nesting ≤ most

step_most : (place : Place) (nesting byte : ℕ) → Keeps (InSpot (nesting + 1)) (spot_step_in place nesting byte)
step_most Outside nesting byte =
    let P : Spot → Type 0 = InSpot (nesting + 1) in
    either P (byte == code "\"") _ _ (one P (spot_at Inside nesting) (omega arith))
    (either P (byte == code "[") _ _ (one P (spot_at Outside (nesting + 1)) (omega arith))
    (either P (byte == code "]") _ _ (either P (nesting == 0) _ _ (none P) (one P (spot_at Outside (nesting - 1)) (omega arith))) (one P (spot_at Outside nesting) (omega arith))))
step_most Inside nesting byte =
    let P : Spot → Type 0 = InSpot (nesting + 1) in
    either P (byte == code "\"") _ _ (one P (spot_at Outside nesting) (omega arith))
    (either P (byte == code "\\") _ _ (one P (spot_at Escaped nesting) (omega arith)) (one P (spot_at Inside nesting) (omega arith)))
step_most Escaped nesting byte = one (InSpot (nesting + 1)) (spot_at Inside nesting) (omega arith)

abbrev AtMost : ℕ → ListEnd → Type 0
AtMost most (Closed taken) = Unit {0}
AtMost most (Open nesting) = nesting ≤ most
AtMost most Broken = Unit {0}

end_most : (place : Place) (nesting most : ℕ) → nesting ≤ most → AtMost most (line_end_in place nesting)
end_most Outside nesting most below = below
end_most Inside nesting most below = tt
end_most Escaped nesting most below = tt

next_most : (bytes : List ℕ) (nesting taken most : ℕ) (found : Option Spot) → Keeps (InSpot (nesting + 1)) found → nesting + 1 + length bytes ≤ most
    → ((next : Spot) → next.nesting + length bytes ≤ most → AtMost most (list_end next taken bytes)) → AtMost most (or_else_closed taken (λ next. list_end next taken bytes) found)
next_most bytes nesting taken most None keeps below rest = tt
next_most bytes nesting taken most (Some next) keeps below rest = rest next (omega (arith, below, keeps.each next refl))

list_most : (bytes : List ℕ) (spot : Spot) (taken most : ℕ) → spot.nesting + length bytes ≤ most → AtMost most (list_end spot taken bytes)
unfolding spot_step
list_most [] spot taken most below = end_most spot.place spot.nesting most (omega (arith, below))
list_most (byte ∷ bytes) spot taken most below =
    next_most bytes spot.nesting (taken + 1) most (spot_step_in spot.place spot.nesting byte) (step_most spot.place spot.nesting byte) (omega (arith, below))
    (λ next less. list_most bytes next (taken + 1) most less)

-- ---- a line

abbrev Good : Reader → Type 0
Good reader = IsBounded reader.pending

opened_bounded : (draft : Draft) (name after : List ℕ) → Keeps Good (opened draft name after)
unfolding opened
opened_bounded draft name after = either Good (list_all is_blank after && nat_lt draft.depth 256) _ _ (one Good _ tt) (none Good)

closed_bounded : (draft : Draft) (after : List ℕ) → Keeps Good (closed draft after)
unfolding closed
closed_bounded draft after = either Good (list_all is_blank after && nat_lt 0 draft.depth) _ _ (one Good _ tt) (none Good)

end_bounded : (draft : Draft) (name said line : List ℕ) (nesting : ℕ) (end : ListEnd) → nesting ≤ length said → AtMost (nesting + length line) end → Keeps Good (listed_by draft name said line end)
end_bounded draft name said line nesting (Closed taken) within most = either Good (list_all is_blank (drop taken line)) _ _ (one Good _ tt) (none Good)
end_bounded draft name said line nesting (Open deep) within most =
    one Good _ (omega (arith, within, most, length-append (said ++ line) (code "\n" ∷ []), length-append said line))
end_bounded draft name said line nesting Broken within most = none Good

listed_bounded : (draft : Draft) (name said : List ℕ) (nesting : ℕ) (line : List ℕ) → nesting ≤ length said → Keeps Good (listed draft name said nesting line)
unfolding listed
listed_bounded draft name said nesting line within =
    end_bounded draft name said line nesting (list_from nesting line) within (list_most line (spot_at Outside nesting) 0 (nesting + length line) (omega arith))

strings_bounded : (draft : Draft) (name : List ℕ) (said : Option (List ℕ)) → Keeps Good (reader_strings draft name said)
strings_bounded draft name None = none Good
strings_bounded draft name (Some said) = one Good _ tt

valued_bounded : (draft : Draft) (name value : List ℕ) → Keeps Good (valued draft name value)
unfolding valued
valued_bounded draft name [] = none Good
valued_bounded draft name (byte ∷ bytes) =
    either Good (byte == code "\"") _ _ (strings_bounded draft name (strings_from [] (byte ∷ bytes)))
    (either Good (byte == code "[") _ _ (listed_bounded draft name (91 ∷ []) 0 bytes (omega arith)) (one Good _ tt))

after_bounded : (draft : Draft) (name rest value : List ℕ) → Keeps Good (after_name draft name rest value)
after_bounded draft name rest [] = one Good _ tt
after_bounded draft name rest (byte ∷ bytes) =
    either Good (byte == code "{") _ _ (opened_bounded draft name bytes) (either Good (length rest == length (byte ∷ bytes)) _ _ (none Good) (valued_bounded draft name (byte ∷ bytes)))

named_bounded : (draft : Draft) (text : List ℕ) → Keeps Good (named draft text)
unfolding named
named_bounded draft text =
    let count = prefix_len is_name_byte text in
    either Good (count == 0) _ _ (none Good) (after_bounded draft (take count text) (drop count text) (unblanked (drop count text)))

text_bounded : (draft : Draft) (text : List ℕ) → Keeps Good (fresh_text draft text)
text_bounded draft [] = one Good _ tt
text_bounded draft (byte ∷ bytes) = either Good (byte == code "#") _ _ (one Good _ tt) (either Good (byte == code "}") _ _ (closed_bounded draft bytes) (named_bounded draft (byte ∷ bytes)))

fresh_bounded : (draft : Draft) (line : List ℕ) → Keeps Good (fresh draft line)
unfolding fresh
fresh_bounded draft line = text_bounded draft (unblanked line)

pending_bounded : (draft : Draft) (pending : Pending) (line : List ℕ) → IsBounded pending → Keeps Good (step_in draft pending line)
pending_bounded draft Nothing line bounded = fresh_bounded draft line
pending_bounded draft (Strings name said) line bounded =
    either Good (begins_with_quote (unblanked line)) _ _ (strings_bounded draft name (strings_from said (unblanked line))) (fresh_bounded (added draft name (Quoted said)) line)
pending_bounded draft (OpenList name said nesting) line bounded = listed_bounded draft name said nesting line bounded

pub step_bounded : (reader next : Reader) (line : List ℕ) → IsBounded reader.pending → step reader line ≡ Some next → IsBounded next.pending
unfolding step
step_bounded reader next line bounded is = (pending_bounded reader.draft reader.pending line bounded).each next is
