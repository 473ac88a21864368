-- Signs and types as the terms of a sum, and the type that is found for them.
use Rattle.std.proofs.Common.{◌≡◌, ℕ, zero, suc, ◌<◌, ◌≤◌, Bool, false, List, [], ◌∷◌, length, get_or, set, take, All, Result, Ok, Err, OnErr, IsOk, refl, ap, ◌∙◌, arith}
use Rattle.std.specs.Prelude.{zip}
use Rattle.std.proofs.lemmas.List.{take_all}
use Rattle.std.proofs.lemmas.Slice.Zip.{length-zip}
use Rattle.fx_type.specs.declared.kind.FxType.{FxType}
use Rattle.fx_type.specs.FxType.{IsType}
use Rattle.fx_type.specs.FullType.{Terms}
use Rattle.dg_model.specs.Operation.{type_of}

-- what is there is found
pub found-ok : {E : Type 0} (P : FxType → Type 0) (result : Result FxType E) → OnErr result ((type : FxType) → ¬ P type) → (type : FxType) × P type → IsOk result
found-ok P (Ok type) none some = refl
found-ok P (Err e) none some = absurd (none some.0 some.1)

pub terms-more : (signs : List Bool) (types : List FxType) (terms : Terms) (i : ℕ) (x : Bool × FxType)
    → i < length terms → i < length signs → i < length types → x ≡ (get_or signs i false, type_of types i)
    → take i terms ≡ take i (zip signs types) → take (suc i) (set terms i x) ≡ take (suc i) (zip signs types)
terms-more signs types [] i x room h k is are = absurd (omega arith)
terms-more [] types (u ∷ terms) i x room h k is are = absurd (omega arith)
terms-more (s ∷ signs) [] (u ∷ terms) i x room h k is are = absurd (omega arith)
terms-more (s ∷ signs) (t ∷ types) (u ∷ terms) zero x room h k is are = ap (λ (y : Bool × FxType). y ∷ []) is
terms-more (s ∷ signs) (t ∷ types) (u ∷ terms) (suc i) x room h k is are =
    let first : u ≡ (s, t) = cc in
    let rest : take i terms ≡ take i (zip signs types) = cc in
    let more = terms-more signs types terms i x (omega arith) (omega arith) (omega arith) is rest in
    ap (λ (y : Bool × FxType). y ∷ take (suc i) (set terms i x)) first ∙ ap (λ (ys : Terms). (s, t) ∷ ys) more

pub terms-whole : (signs : List Bool) (types : List FxType) (terms : Terms) (i n : ℕ) → length signs ≡ length types
    → n ≡ i → length types ≤ i → take i terms ≡ take i (zip signs types) → take n terms ≡ zip signs types
terms-whole signs types terms i n same e past are =
    ap (λ (k : ℕ). take k terms) e ∙ are ∙ take_all i (zip signs types) (omega (arith, length-zip signs types, same))

pub terms-valid : (signs : List Bool) (types : List FxType) → All IsType types → All (λ (term : Bool × FxType). IsType term.1) (zip signs types)
terms-valid [] types valid i d h = absurd (omega arith)
terms-valid (s ∷ signs) [] valid i d h = absurd (omega arith)
terms-valid (s ∷ signs) (t ∷ types) valid zero d h = valid 0 t (omega arith)
terms-valid (s ∷ signs) (t ∷ types) valid (suc i) d h = terms-valid signs types (λ k e below. valid (suc k) e (omega arith)) i d (omega arith)
