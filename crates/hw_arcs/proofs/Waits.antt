-- Blocks that wait, and one that is taken from them.
use Rattle.std.proofs.Common.{◌≡◌, ℕ, zero, suc, ◌+◌, List, [], ◌∷◌, ◌++◌, length, inl, inr, ⊎_elim, refl, sym, ap, subst, ◌∙◌, arith}
use Rattle.std.specs.Prelude.{slice_get, Option, Some, None, MatchOption, option_to_list, ◌⊎◌}
use Rattle.std.proofs.lemmas.List.{nil_from_length}
use Rattle.std.proofs.lemmas.Option.{same_Some}
use Rattle.hw_arcs.specs.declared.parts.Placed.{Placed}
use Rattle.hw_arcs.specs.Found.{IsIn}
use Rattle.hw_arcs.specs.inner.Parts.{IsPopped, IsTakenFrom, blocks_of}

-- the last of the later blocks comes to the front of the queue
pub moved : (later : List Placed) (it : Placed) (queue : List ℕ) → blocks_of (later ++ it ∷ []) ++ queue ≡ blocks_of later ++ it.block ∷ queue
moved [] it queue = refl
moved (other ∷ later) it queue = ap (λ (rest : List ℕ). other.block ∷ rest) (moved later it queue)

-- a block stands between others
pub taken_between : (before : List ℕ) (block : ℕ) (after : List ℕ) → IsTakenFrom (before ++ block ∷ after) block (before ++ after)
taken_between [] block after = record {
  here = record { place = 0; at = refl };
  keeps = λ other is. by_place other is.place is.at;
  of = λ place other at. record { place = suc place; at = at };
  less = omega arith;
}
  where
    by_place : (other place : ℕ) → slice_get (block ∷ after) place ≡ Some other → (block ≡ other) ⊎ IsIn after other
    by_place other zero at = inl (same_Some block other at)
    by_place other (suc place) at = inr (record { place = place; at = at })
taken_between (first ∷ before) block after =
    let rest = taken_between before block after in
    record {
      here = record { place = suc rest.here.place; at = rest.here.at };
      keeps = λ other is. by_place rest other is.place is.at;
      of = λ place other at. of_place rest place other at;
      less = let less = rest.less in omega (arith, less);
    }
  where
    by_place : IsTakenFrom (before ++ block ∷ after) block (before ++ after) → (other place : ℕ)
        → slice_get (first ∷ (before ++ block ∷ after)) place ≡ Some other
        → (block ≡ other) ⊎ IsIn (first ∷ (before ++ after)) other
    by_place rest other zero at = inr (record { place = 0; at = at })
    by_place rest other (suc place) at = ⊎_elim
        (λ e. inl e)
        (λ (left : IsIn (before ++ after) other). inr (record { place = suc left.place; at = left.at }))
        (rest.keeps other (record { place = place; at = at }))

    of_place : IsTakenFrom (before ++ block ∷ after) block (before ++ after) → (place other : ℕ)
        → slice_get (first ∷ (before ++ after)) place ≡ Some other → IsIn (first ∷ (before ++ block ∷ after)) other
    of_place rest zero other at = record { place = 0; at = at }
    of_place rest (suc place) other at = let old = rest.of place other at in record { place = suc old.place; at = old.at }

-- what is taken from the front of the queue
pub popped_is : (older later front rest : List ℕ) (next : Option ℕ) (before after : ℕ) → later ++ front ≡ older
    → (front ≡ [] → later ++ front ≡ []) → length front ≡ before → front ≡ option_to_list next ++ rest
    → MatchOption next ((before ≡ 0) × (after ≡ 0)) (λ _. after + 1 ≡ before) → IsPopped older (later ++ rest) next
popped_is older later front rest None before after same none long items cases =
    let empty : front ≡ [] = nil_from_length front (omega (arith, cases.0, long)) in
    (sym same ∙ none empty, ap (λ (xs : List ℕ). later ++ xs) (sym items) ∙ none empty)
popped_is older later front rest (Some block) before after same none long items cases =
    subst (λ (blocks : List ℕ). IsTakenFrom blocks block (later ++ rest)) (ap (λ (xs : List ℕ). later ++ xs) (sym items) ∙ same) (taken_between later block rest)
