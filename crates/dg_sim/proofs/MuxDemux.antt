-- Signals end to end: which element of an input a Mux and a Demux hand on.
use Rattle.std.proofs.Common.{◌≡◌, ℕ, suc, ◌<◌, ◌≤◌, ◌+◌, ◌-◌, List, map, sum, Some, slice_get, ap, arith, inl, inr}
use Rattle.std.proofs.lemmas.Bool.{cases_lt}
use Rattle.math_list.specs.Numbers.{numbers_from}
use Rattle.dg_model.specs.declared.diagram.Diagram.{Diagram}
use Rattle.dg_model.specs.declared.diagram.Block.{Block}
use Rattle.dg_model.specs.declared.kind.Kind.TheVariants.{Mux, Demux}
use Rattle.dg_model.specs.Signals.{Attributes}
use Rattle.dg_model.specs.Wires.{widths_into, value_into}
use Rattle.dg_model.specs.Equation.{IsPart}
use Rattle.dg_tables.specs.declared.entries.Place.{Place}
use Rattle.dg_sim.specs.inner.ProgramSteps.{HandsOn}
use Rattle.dg_sim.proofs.ByKind.{of_kind}

-- where the elements of some signals end before one of all, there are more signals
pub before_end : (f : ℕ → ℕ) (inputs ports before element : ℕ) → ports ≤ inputs
    → before ≡ sum (map f (numbers_from 1 ports)) → before ≤ element → element < sum (map f (numbers_from 1 inputs))
    → ports < inputs
before_end f inputs ports before element within at low below = elim (cases_lt ports inputs) [
  | inl less ↦ less
  | inr past ↦
      let same : ports ≡ inputs = omega (arith, within, past) in
      let all : sum (map f (numbers_from 1 ports)) ≡ sum (map f (numbers_from 1 inputs)) = ap (λ (n : ℕ). sum (map f (numbers_from 1 n))) same in
      absurd (omega (arith, at, low, below, all))
]

module _ (diagram : Diagram) (attributes : Attributes) (place : Place) (b : Block) (block_is : slice_get diagram.blocks place.block ≡ Some b) where
  pub mux_hands : (sizes : List ℕ) (signal port k : ℕ) → b.kind ≡ Mux sizes → port ≡ suc signal
      → IsPart (widths_into diagram attributes place.block b.inputs) place.element signal k
      → HandsOn diagram attributes place port k
  mux_hands sizes signal port k is port_is part stimulus table t =
      of_kind diagram attributes place b block_is (Mux sizes) is stimulus table t (value_into diagram attributes table place.block port k t)
      (signal, k, part, ap (λ (p : ℕ). value_into diagram attributes table place.block p k t) port_is)

  pub demux_hands : (sizes : List ℕ) (element : ℕ) → b.kind ≡ Demux sizes
      → element ≡ sum (map (attributes.width_at place.block) (numbers_from 1 (place.port - 1))) + place.element
      → HandsOn diagram attributes place 1 element
  demux_hands sizes element is at stimulus table t =
      of_kind diagram attributes place b block_is (Demux sizes) is stimulus table t (value_into diagram attributes table place.block 1 element t)
      (ap (λ (e : ℕ). value_into diagram attributes table place.block 1 e t) at)
