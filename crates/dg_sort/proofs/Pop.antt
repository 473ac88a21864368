-- What is looked at is taken off: what that leaves.
use Rattle.std.proofs.Common.{◌≡◌, ℕ, ◌-◌, ◌<◌, ◌≤◌, List, [], ◌∷◌, ◌++◌, length, inl, inr, ⊎_elim, sym, ap, subst, ◌∙◌, arith}
use Rattle.std.specs.Prelude.{slice_get, Some, ◌⊎◌}
use Rattle.std.proofs.lemmas.Bool.{cases_order}
use Rattle.std.proofs.lemmas.List.{length-append}
use Rattle.std.proofs.lemmas.Option.{none-some, same_Some, slice_get_within}
use Rattle.dg_sort.specs.declared.search.Mark.{Mark}
use Rattle.dg_sort.specs.declared.search.Group.{Group}
use Rattle.dg_sort.specs.inner.State.{IsLooked, IsPlaced, IsHeldFrom, floor_of, AreGroups, AreLooked}
use Rattle.math_list.proofs.Places.{get_left, push_cases}

-- one source is taken off what is left to be looked at, or none is
pub record Popped (groups : List Group) (edges front : List ℕ) (source : ℕ) : Type 0 where
  pub part : (edge other : ℕ) → slice_get front edge ≡ Some other → slice_get edges edge ≡ Some other
  pub less : (edge other : ℕ) → slice_get edges edge ≡ Some other → (slice_get front edge ≡ Some other) ⊎ (source ≡ other)
  pub room : (k : ℕ) (group : Group) → slice_get groups k ≡ Some group → group.edges ≤ length front
  pub short : length front ≤ length edges

pub none_popped : (groups : List Group) (held edges : List ℕ) (source : ℕ) → AreGroups groups held edges → Popped groups edges edges source
none_popped groups held edges source are = record {
  part = λ edge other at. at;
  less = λ edge other at. inl at;
  room = λ k group at. (are.within k group at).1;
  short = omega arith;
}

-- the last group begins behind all others
pub last_highest : (groups : List Group) (held edges : List ℕ) (k : ℕ) (group last : Group)
    → AreGroups groups held edges → slice_get groups (length groups - 1) ≡ Some last
    → slice_get groups k ≡ Some group
    → (group.start ≤ last.start) × (group.edges ≤ last.edges)
last_highest groups held edges k group last are there at =
    let inside = slice_get_within groups k group at in
    ⊎_elim
    (λ (e : k ≡ length groups - 1).
    let same : group ≡ last = same_Some group last (sym at ∙ ap (slice_get groups) e ∙ there) in
    subst (λ (g : Group). (group.start ≤ g.start) × (group.edges ≤ g.edges)) same (omega arith, omega arith))
    (λ other. ⊎_elim
    (λ (below : k < length groups - 1). let up = are.rising k (length groups - 1) group last below at there in let low = up.0 in (omega (arith, low), up.1))
    (λ (above : length groups - 1 < k). absurd (omega arith))
    other)
    (cases_order k (length groups - 1))

pub one_popped : (groups : List Group) (held edges front : List ℕ) (source : ℕ) (last : Group)
    → AreGroups groups held edges → slice_get groups (length groups - 1) ≡ Some last → edges ≡ front ++ source ∷ []
    → last.edges ≤ length front
    → Popped groups edges front source
one_popped groups held edges front source last are there shape room = record {
  part = λ edge other at. ap (λ es. slice_get es edge) shape ∙ get_left front (source ∷ []) edge other at;
  less = λ edge other at. ⊎_elim (λ old. inl old) (λ new. inr (new.1)) (push_cases front source edge other (sym (ap (λ es. slice_get es edge) shape) ∙ at));
  room = λ k group at. let high = (last_highest groups held edges k group last are there at).1 in omega (arith, high);
  short = let e = ap length shape ∙ length-append front (source ∷ []) in omega (arith, e);
}

-- what was looked at is still
pub still_looked : (marks : List Mark) (groups : List Group) (edges front : List ℕ) (source other : ℕ) (group : Group) → Popped groups edges front source
    → (source ≡ other → IsPlaced marks other ⊎ IsHeldFrom marks (floor_of group.is_cycle group.start) other) → IsLooked marks edges group other → IsLooked marks front group other
still_looked marks groups edges front source other group popped known looked =
    ⊎_elim
    (λ placed. inl placed)
    (λ more. ⊎_elim
    (λ held. inr (inl held))
    (λ left. ⊎_elim
    (λ at. inr (inr (record { place = left.place; at = at; from = left.from })))
    (λ same. ⊎_elim (λ placed. inl placed) (λ held. inr (inl held)) (known same))
    (popped.less left.place other left.at))
    more)
    looked

-- some group is there
pub some_group : (groups : List Group) (k : ℕ) (group : Group) → slice_get groups k ≡ Some group → groups ≡ [] → ⊥
some_group groups k group there empty = none-some group (ap (λ gs. slice_get gs k) (sym empty) ∙ there)

-- a placed source is passed over
pub passed_groups : (groups : List Group) (held edges front : List ℕ) (source : ℕ) (last : Group)
    → AreGroups groups held edges → Popped groups edges front source
    → slice_get groups (length groups - 1) ≡ Some last → AreGroups groups held front
passed_groups groups held edges front source last are popped there = record {
  none = λ empty. absurd (some_group groups (length groups - 1) last there empty);
  bottom = are.bottom;
  rising = are.rising;
  within = λ k group at. ((are.within k group at).0, popped.room k group at);
  single = are.single;
}

pub passed_looked : (rows : List (List ℕ)) (marks : List Mark) (held : List ℕ) (groups : List Group)
    (edges front : List ℕ) (source : ℕ) → AreLooked rows marks held groups edges → Popped groups edges front source
    → IsPlaced marks source → AreLooked rows marks held groups front
passed_looked rows marks held groups edges front source are popped placed = record {
  looked = λ k place block other group at from here reads.
      still_looked marks groups edges front source other group popped (λ same. inl (subst (λ u. IsPlaced marks u) same placed)) (are.looked k place block other group at from here reads);
  left = λ k edge other group at from here. are.left k edge other group at from (popped.part edge other here);
  leads = are.leads;
  cycles = are.cycles;
}
