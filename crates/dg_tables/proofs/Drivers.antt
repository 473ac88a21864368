-- The line that stands in the list is the one into its port.
use Rattle.std.proofs.Common.{◌≡◌, ℕ, zero, suc, ◌<◌, ◌≤◌, ◌+◌, ◌-◌, ◌&&◌, Bool, true, false, List, [], ◌∷◌, length, count_by, find, Option, Some, None, slice_get, slice_index_or, MatchOption, cond}
use Rattle.std.proofs.Common.{ap, sym, ◌∙◌, refl, arith, eq-eqb, ◌==◌}
use Rattle.std.proofs.lemmas.Option.{none-some, same_Some, slice_get_within}
use Rattle.std.proofs.lemmas.List.Sums.{sum_by-cons}
use Rattle.dg_model.specs.declared.diagram.Diagram.{Diagram}
use Rattle.dg_model.specs.declared.diagram.Block.{Block}
use Rattle.dg_model.specs.declared.diagram.Edge.{Edge}
use Rattle.dg_model.specs.Checked.{IsChecked}
use Rattle.dg_model.specs.Widths.{widths_of}
use Rattle.dg_model.specs.Wires.{driver_of, enters}
use Rattle.dg_model.specs.Wired.{IsWired, Joins}
use Rattle.math_list.proofs.Places.{held}
use Rattle.math_list.proofs.Searches.{find_holds}
use Rattle.dg_tables.proofs.Widths.{outputs_there}

abbrev pub unit_if : Bool → ℕ
unit_if b = cond b 1 0

pub count_by-cons : {X : Type 0} (p : X → Bool) (y : X) (ys : List X) → count_by p (y ∷ ys) ≡ unit_if (p y) + count_by p ys
count_by-cons p y ys = sum_by-cons (λ x. unit_if (p x)) y ys

pub some_counted : {X : Type 0} (p : X → Bool) (xs : List X) (i : ℕ) (x : X) → slice_get xs i ≡ Some x → p x ≡ true → 1 ≤ count_by p xs
some_counted p [] i x at passes = absurd (none-some x at)
some_counted p (y ∷ ys) zero x at passes =
    let here : unit_if (p y) ≡ 1 = ap (λ (b : Bool). unit_if b) (ap p (same_Some y x at) ∙ passes) in omega (arith, here, count_by-cons p y ys)
some_counted p (y ∷ ys) (suc i) x at passes = omega (arith, count_by-cons p y ys, some_counted p ys i x at passes)

pub found_one : {X : Type 0} (p : X → Bool) (xs : List X) (i : ℕ) (x : X) → slice_get xs i ≡ Some x → p x ≡ true → count_by p xs ≡ 1 → find p xs ≡ Some x
found_one p [] i x at passes one = absurd (none-some x at)
found_one p (y ∷ ys) zero x at passes one = ap (λ (b : Bool). cond b (Some y) (find p ys)) (ap p (same_Some y x at) ∙ passes) ∙ at
found_one {X} p (y ∷ ys) (suc i) x at passes one = go (p y) (sym (count_by-cons p y ys) ∙ one) (found_one p ys i x at passes) (some_counted p ys i x at passes)
  where
    go : (b : Bool) → unit_if b + count_by p ys ≡ 1 → (count_by p ys ≡ 1 → find p ys ≡ Some x) → 1 ≤ count_by p ys → cond b (Some y) (find p ys) ≡ Some x
    go true e rest some = absurd (omega (arith, e, some))
    go false e rest some = rest (omega (arith, e))

module _ (diagram : Diagram) (wired : IsWired diagram) where
  pub driver_is : (i : ℕ) (edge : Edge) → slice_get diagram.edges i ≡ Some edge → driver_of diagram edge.to edge.to_port ≡ Some edge
  driver_is i edge at = go (slice_get diagram.blocks edge.to) refl (held (Joins diagram.blocks) diagram.edges i edge wired.edges at).target
    where
      go : (o : Option Block) → slice_get diagram.blocks edge.to ≡ o
          → MatchOption o ⊥ (λ block. (1 ≤ edge.to_port) × (edge.to_port ≤ block.inputs))
          → driver_of diagram edge.to edge.to_port ≡ Some edge
      go None e h = absurd h
      go (Some b) e h =
          let self : enters edge.to edge.to_port edge ≡ true = ap (λ (x : Bool). x && (edge.to_port == edge.to_port)) (eq-eqb edge.to edge.to refl) ∙ eq-eqb edge.to_port edge.to_port refl in
          found_one (enters edge.to edge.to_port) diagram.edges i edge at self (wired.driven edge.to edge.to_port b e h.0 h.1)

pub source_there : (diagram : Diagram) → IsChecked diagram → (block port : ℕ) (edge : Edge)
    → driver_of diagram block port ≡ Some edge
    → (1 ≤ edge.from_port) × (edge.from_port - 1 < length (slice_index_or (widths_of diagram) edge.from []))
source_there diagram checked block port edge driver =
    go (slice_get diagram.blocks edge.from) refl
    (find_holds (Joins diagram.blocks) (enters block port) diagram.edges edge checked.wired.edges driver).source
  where
    go : (o : Option Block) → slice_get diagram.blocks edge.from ≡ o
        → MatchOption o ⊥ (λ block. (1 ≤ edge.from_port) × (edge.from_port ≤ block.outputs))
        → (1 ≤ edge.from_port) × (edge.from_port - 1 < length (slice_index_or (widths_of diagram) edge.from []))
    go None e h = absurd h
    go (Some b) e h = (h.0, omega (arith, h.0, h.1, outputs_there diagram checked.wired checked.dimensions edge.from b e))

pub source_within : (diagram : Diagram) → IsChecked diagram → (block port : ℕ) (edge : Edge) → driver_of diagram block port ≡ Some edge → edge.from < length diagram.blocks
source_within diagram checked block port edge driver =
    go (slice_get diagram.blocks edge.from) refl
    (find_holds (Joins diagram.blocks) (enters block port) diagram.edges edge checked.wired.edges driver).source
  where
    go : (o : Option Block) → slice_get diagram.blocks edge.from ≡ o → MatchOption o ⊥ (λ block. (1 ≤ edge.from_port) × (edge.from_port ≤ block.outputs)) → edge.from < length diagram.blocks
    go None e h = absurd h
    go (Some b) e h = slice_get_within diagram.blocks edge.from b e
