-- Edges that are sorted by destination port and then by destination block stand in order.
use Rattle.std.proofs.Common.{◌≡◌, ℕ, zero, suc, ◌<◌, ◌≤◌, ◌+◌, List, [], ◌∷◌, ◌++◌, length, take, get_or, sym, ap, subst, ◌∙◌, inl, inr, ◌⊎◌, arith, Option, Some, None}
use Rattle.std.specs.Prelude.{AllPairs}
use Rattle.std.specs.List.{filter_map, cons_option}
use Rattle.std.specs.List.Sorted.{IsNonDecreasingBy}
use Rattle.std.proofs.lemmas.Bool.{cases_eq, cases_lt}
use Rattle.std.proofs.lemmas.List.{take_more, append-nil}
use Rattle.std.proofs.lemmas.List.Elements.{filter_map-append}
use Rattle.dg_model.specs.declared.diagram.Edge.{Edge}
use Rattle.dg_model.specs.Wired.{StandsBefore}
use Rattle.dg_flat.proofs.SomeFlat.{stands_on}

next : (edges : List Edge) → IsNonDecreasingBy (λ (e : Edge). e.to) edges →
    ((k : ℕ) (d : Edge) → k + 1 < length edges → (get_or edges k d).to ≡ (get_or edges (k + 1) d).to → (get_or edges k d).to_port ≤ (get_or edges (k + 1) d).to_port) →
    (k : ℕ) (d : Edge) → k + 1 < length edges → StandsBefore (get_or edges k d) (get_or edges (k + 1) d)
next edges rise ties k d inside =
    elim (cases_lt (get_or edges k d).to (get_or edges (k + 1) d).to) [
      | inl before ↦ inl before
      | inr not ↦
          let up : (get_or edges k d).to ≤ (get_or edges (k + 1) d).to = rise k (k + 1) d (omega arith) inside in
          let same : (get_or edges k d).to ≡ (get_or edges (k + 1) d).to = omega (arith, up, not) in
          inr (same, ties k d inside same)
    ]

abbrev Ties : List Edge → Type 0
Ties edges = (k : ℕ) (d : Edge) → k + 1 < length edges → (get_or edges k d).to ≡ (get_or edges (k + 1) d).to → (get_or edges k d).to_port ≤ (get_or edges (k + 1) d).to_port

walk : (edges : List Edge) → IsNonDecreasingBy (λ (e : Edge). e.to) edges → Ties edges → (i j : ℕ) (d : Edge) → i < j → j < length edges → StandsBefore (get_or edges i d) (get_or edges j d)
walk edges rise ties i zero d before inside = absurd (omega (arith, before))
walk edges rise ties i (suc j) d before inside = go (cases_eq i j) (λ early. walk edges rise ties i j d early (omega (arith, inside))) where
  last : StandsBefore (get_or edges j d) (get_or edges (suc j) d)
  last =
      let after : j + 1 ≡ suc j = omega arith in
      subst (λ (k : ℕ). StandsBefore (get_or edges j d) (get_or edges k d)) after (next edges rise ties j d (omega (arith, inside)))

  go : (i ≡ j) ⊎ (i ≡ j → ⊥) → (i < j → StandsBefore (get_or edges i d) (get_or edges j d)) → StandsBefore (get_or edges i d) (get_or edges (suc j) d)
  go (inl e) rest = subst (λ (k : ℕ). StandsBefore (get_or edges k d) (get_or edges (suc j) d)) (sym e) last
  go (inr n) rest = stands_on (get_or edges i d) (get_or edges j d) (get_or edges (suc j) d) (rest (omega (arith, before, n))) last

pub in_order : (edges : List Edge) → IsNonDecreasingBy (λ (e : Edge). e.to) edges → Ties edges → AllPairs StandsBefore edges
in_order edges rise ties = λ i j d before inside. walk edges rise ties i j d before inside

-- ---- edges of lines, one more

pub gathered_some : {X : Type 0} (h : X → Option Edge) (xs : List X) (i : ℕ) (d : X) (edge : Edge) → i < length xs
    → h (get_or xs i d) ≡ Some edge → filter_map h (take (i + 1) xs) ≡ filter_map h (take i xs) ++ edge ∷ []
gathered_some h xs i d edge inside is =
    ap (filter_map h) (take_more xs i d inside) ∙ filter_map-append h (take i xs) (get_or xs i d ∷ [])
    ∙ ap (λ (o : Option Edge). filter_map h (take i xs) ++ cons_option o []) is

pub gathered_none : {X : Type 0} (h : X → Option Edge) (xs : List X) (i : ℕ) (d : X) → i < length xs → h (get_or xs i d) ≡ None → filter_map h (take (i + 1) xs) ≡ filter_map h (take i xs)
gathered_none h xs i d inside is =
    ap (filter_map h) (take_more xs i d inside) ∙ filter_map-append h (take i xs) (get_or xs i d ∷ [])
    ∙ ap (λ (o : Option Edge). filter_map h (take i xs) ++ cons_option o []) is ∙ append-nil (filter_map h (take i xs))
