-- An accumulator after some of its inputs.
use Rattle.std.proofs.Common.{◌≡◌, ℕ, zero, suc, ◌+◌, ◌<◌, ◌≤◌, Bool, false, ℤ, pos, List, [], ◌∷◌, length, drop, get_or, All, refl, subst, arith}
use Rattle.std.specs.Prelude.{zip}
use Rattle.std.proofs.lemmas.List.{drop_all}
use Rattle.fx_type.specs.declared.kind.FxType.{FxType}
use Rattle.fx_type.specs.declared.kind.FxType.TheVariants.{Num}
use Rattle.fx_type.specs.FullType.{Terms, IsFullSum}
use Rattle.dg_model.specs.Operation.{Operation, IsAddedUp, IsStep, type_of, value_of}

-- what the other inputs make of a total is what all make of 0
abbrev pub GoesOn : Operation → FxType → List ℤ → ℕ → ℤ → Type 0
GoesOn operation accum inputs input total =
    (last : ℤ) → IsAddedUp operation accum (drop input (zip operation.signs operation.types)) (drop input inputs) total last
    → IsAddedUp operation accum (zip operation.signs operation.types) inputs (pos 0) last

-- the term at a place
zip_drop : (signs : List Bool) (types : List FxType) (i : ℕ) (d : Bool) (e : FxType) → i < length types → length signs ≡ length types
    → drop i (zip signs types) ≡ (get_or signs i d, get_or types i e) ∷ drop (suc i) (zip signs types)
zip_drop signs [] i d e inside same = absurd (omega (arith, inside))
zip_drop [] (type ∷ types) i d e inside same = absurd (omega (arith, same))
zip_drop (sign ∷ signs) (type ∷ types) zero d e inside same = refl
zip_drop (sign ∷ signs) (type ∷ types) (suc i) d e inside same = zip_drop signs types i d e (omega arith) (omega (arith, same))

value_drop : (inputs : List ℤ) (i : ℕ) (d : ℤ) → i < length inputs → drop i inputs ≡ get_or inputs i d ∷ drop (suc i) inputs
value_drop [] i d inside = absurd (omega (arith, inside))
value_drop (v ∷ inputs) zero d inside = refl
value_drop (v ∷ inputs) (suc i) d inside = value_drop inputs i d (omega arith)

-- one input more
pub goes_more : (operation : Operation) (accum : FxType) (inputs : List ℤ) (i : ℕ) (total after : ℤ)
    → i < length operation.types → length operation.signs ≡ length operation.types
    → length inputs ≡ length operation.types
    → GoesOn operation accum inputs i total
    → IsStep operation accum (get_or operation.signs i false, type_of operation.types i)
    (value_of inputs i) total after → GoesOn operation accum inputs (i + 1) after
goes_more operation accum inputs i total after inside same count before step last h =
    let terms = zip operation.signs operation.types in
    let number : i + 1 ≡ suc i = omega arith in
    let now = subst (λ (k : ℕ). IsAddedUp operation accum (drop k terms) (drop k inputs) after last) number h in
    let more : IsAddedUp operation accum ((get_or operation.signs i false, type_of operation.types i) ∷ drop (suc i) terms) (value_of inputs i ∷ drop (suc i) inputs) total last = (after, step, now) in
    before last (rw (zip_drop operation.signs operation.types i false (Num false 0 (pos 0)) inside same, value_drop inputs i (pos 0) (omega (arith, inside, count))) more)

-- all inputs
pub goes_all : (operation : Operation) (accum : FxType) (inputs : List ℤ) (i : ℕ) (total : ℤ) → length inputs ≤ i → GoesOn operation accum inputs i total
    → IsAddedUp operation accum (zip operation.signs operation.types) inputs (pos 0) total
goes_all operation accum inputs i total past before = before total (ended (drop i (zip operation.signs operation.types)) (drop i inputs) (drop_all i inputs past))
  where
    ended : (terms : Terms) (inputs : List ℤ) → inputs ≡ [] → IsAddedUp operation accum terms inputs total total
    ended [] inputs e = refl
    ended (term ∷ terms) [] e = refl
    ended (term ∷ terms) (v ∷ inputs) e = cc

-- each step has a full sum
pub full_at : (accum : FxType) (signs : List Bool) (types : List FxType) (i : ℕ) → i < length types → length signs ≡ length types
    → All (λ (term : Bool × FxType). (full : FxType) × IsFullSum ((false, accum) ∷ term ∷ []) full) (zip signs types)
    → (full : FxType) × IsFullSum ((false, accum) ∷ (get_or signs i false, type_of types i) ∷ []) full
full_at accum signs [] i inside same all = absurd (omega (arith, inside))
full_at accum [] (type ∷ types) i inside same all = absurd (omega (arith, same))
full_at accum (sign ∷ signs) (type ∷ types) zero inside same all = all 0 (sign, type) (omega arith)
full_at accum (sign ∷ signs) (type ∷ types) (suc i) inside same all = full_at accum signs types i (omega arith) (omega (arith, same)) (λ k d below. all (suc k) d (omega (arith, below)))
