-- Two cycles through the least block on any, worked by hand: a sum of two gains, each of which reads the sum. The rule of loops may tell either.
use Rattle.std.proofs.Common.{◌≡◌, ◌≢◌, ℕ, zero, suc, ◌<◌, List, [], ◌∷◌, codes, None, true, false, refl, ap, arith, pos}
use Rattle.std.specs.Prelude.{◌%◌, slice_index, AllPairs}
use Rattle.fx_type.specs.declared.kind.FxType.TheVariants.{Num}
use Rattle.fx_type.specs.declared.rounding.Rounding.TheVariants.{Floor}
use Rattle.fx_type.specs.declared.spec.TypeSpec.TheVariants.{Fixed, Internal}
use Rattle.dg_model.specs.declared.diagram.Block.{Block}
use Rattle.dg_model.specs.declared.diagram.Diagram.{Diagram}
use Rattle.dg_model.specs.declared.diagram.Edge.{Edge}
use Rattle.dg_model.specs.declared.diagram.PeriodSpec.TheVariants.{Inherit}
use Rattle.dg_model.specs.declared.fault.RuleFault.{RuleFault}
use Rattle.dg_model.specs.declared.fault.Shown.{Shown}
use Rattle.dg_model.specs.declared.fault.Shown.TheVariants.{Cycle}
use Rattle.dg_model.specs.declared.kind.Kind.{Kind}
use Rattle.dg_model.specs.declared.kind.Kind.TheVariants.{Sum, Gain}
use Rattle.dg_model.specs.declared.rule.Rule.{Rule}
use Rattle.dg_model.specs.Attributes.{attributes_of}
use Rattle.dg_model.specs.Faults.{fault_of}
use Rattle.dg_model.specs.LatencyEdges.{signal_edge}
use Rattle.dg_model.specs.Loop.{LeadsNow, IsInstantCycle, BreaksLoop}
use Rattle.dg_rules.specs.Laws.{CyclesDiffer}

abbrev block_of : Kind → ℕ → List ℕ → Block
block_of kind inputs path = record { path = path; kind = kind; inputs = inputs; outputs = 1; result = Fixed (Num true 8 (pos 0)); rounding = Floor; saturate = false; period = Inherit; enable = None }

abbrev edge_of : ℕ → ℕ → ℕ → Edge
edge_of from to to_port = record { from = from; from_port = 1; to = to; to_port = to_port }

abbrev crossed : Diagram
crossed = record {
  blocks = block_of (Sum (false ∷ false ∷ []) Internal) 2 (codes "m/s") ∷ block_of (Gain [] Internal) 1 (codes "m/a") ∷ block_of (Gain [] Internal) 1 (codes "m/b") ∷ [];
  edges = edge_of 1 0 1 ∷ edge_of 2 0 2 ∷ edge_of 0 1 1 ∷ edge_of 0 2 1 ∷ [];
}

abbrev Leads : ℕ → ℕ → Type 0
Leads = LeadsNow crossed (attributes_of crossed)

first_to_sum : Leads 1 0
first_to_sum = (0, signal_edge (edge_of 1 0 1), omega arith, refl, (refl, refl, refl))

other_to_sum : Leads 2 0
other_to_sum = (1, signal_edge (edge_of 2 0 2), omega arith, refl, (refl, refl, refl))

sum_to_first : Leads 0 1
sum_to_first = (2, signal_edge (edge_of 0 1 1), omega arith, refl, (refl, refl, refl))

sum_to_other : Leads 0 2
sum_to_other = (3, signal_edge (edge_of 0 2 1), omega arith, refl, (refl, refl, refl))

two_differ : (a b : ℕ) → a < b → AllPairs (λ block other. block ≢ other) (a ∷ b ∷ [])
two_differ a b less zero zero d before inside = absurd (omega (arith, before))
two_differ a b less zero (suc zero) d before inside = λ same. absurd (omega (arith, same, less))
two_differ a b less zero (suc (suc j)) d before inside = absurd (omega (arith, inside))
two_differ a b less (suc i) zero d before inside = absurd (omega (arith, before))
two_differ a b less (suc i) (suc zero) d before inside = absurd (omega (arith, before))
two_differ a b less (suc i) (suc (suc j)) d before inside = absurd (omega (arith, inside))

cycle_of : (gain : ℕ) → 0 < gain → Leads 0 gain → Leads gain 0 → IsInstantCycle crossed (attributes_of crossed) (0 ∷ gain ∷ [])
cycle_of gain above there back = record { some = omega arith; different = two_differ 0 gain above; leads = leads } where
  leads : (k : ℕ) → k < 2 → Leads (slice_index (0 ∷ gain ∷ []) k) (slice_index (0 ∷ gain ∷ []) (suc k % 2))
  leads zero below = there
  leads (suc zero) below = back
  leads (suc (suc k)) below = absurd (omega (arith, below))

abbrev told : ℕ → RuleFault
told gain = fault_of Rule.Loop (codes "m/s") (Cycle (0 ∷ gain ∷ []))

breaks : (gain : ℕ) → 0 < gain → Leads 0 gain → Leads gain 0 → BreaksLoop crossed (attributes_of crossed) (told gain)
breaks gain above there back = record { first = 0; more = gain ∷ []; is_cycle = cycle_of gain above there back; least = λ other is k d below. omega arith; fault_is = refl }

abbrev second : Shown → ℕ
second (Cycle blocks) = slice_index blocks 1
second other = 0

differ : told 1 ≢ told 2
differ same = let number : ◌≡◌ {A = ℕ} 1 2 = ap (λ (fault : RuleFault). second fault.shown) same in absurd (omega (arith, number))

pub cycles_differ : CyclesDiffer
cycles_differ = record {
  diagram = crossed;
  one = told 1;
  other = told 2;
  breaks = breaks 1 (omega arith) sum_to_first first_to_sum;
  breaks_too = breaks 2 (omega arith) sum_to_other other_to_sum;
  differ = differ;
}
