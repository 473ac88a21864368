-- Small diagrams whose slots are worked out by hand, to check the definitions against.
use Rattle.std.proofs.Common.{◌≡◌, ℕ, true, false, Bool, List, [], ◌∷◌, None, Some, pos, get_or, map, refl}
use Rattle.fx_type.specs.declared.kind.FxType.TheVariants.{Num}
use Rattle.fx_type.specs.declared.spec.TypeSpec.TheVariants.{Auto}
use Rattle.fx_type.specs.declared.decimal.Decimal.{Decimal}
use Rattle.fx_type.specs.declared.rounding.Rounding.TheVariants.{Floor}
use Rattle.dg_model.specs.declared.diagram.Block.{Block}
use Rattle.dg_model.specs.declared.diagram.Edge.{Edge}
use Rattle.dg_model.specs.declared.diagram.Diagram.{Diagram}
use Rattle.dg_model.specs.declared.diagram.PeriodSpec.TheVariants.{Inherit}
use Rattle.dg_model.specs.declared.kind.Kind.{Kind}
use Rattle.dg_model.specs.declared.kind.Kind.TheVariants.{Inport, Outport, Product, RateTransition}
use Rattle.dg_model.specs.declared.resolved.Resolved.{Resolved}
use Rattle.dg_model.specs.Signals.{Attributes}
use Rattle.hw_sched.specs.Slots.{Timing, shared_operations, need_of, have_of, slot_of, unit_of}
use Rattle.hw_sched.specs.Ready.{ready_of, declared_latency, owed}

abbrev pub block_of : Kind → ℕ → ℕ → Block
block_of kind inputs outputs = record { path = []; kind = kind; inputs = inputs; outputs = outputs; result = Auto; rounding = Floor; saturate = false; period = Inherit; enable = None }

abbrev pub edge_of : ℕ → ℕ → ℕ → Edge
edge_of from to to_port = record { from = from; from_port = 1; to = to; to_port = to_port }

-- signals of one element, of these widths of words and these periods
abbrev pub scalars : List ℕ → List ℕ → Attributes
scalars words periods = record {
  width_at = λ block port. 1;
  type_at =
      λ block port. Num true (get_or words block 8) (pos 0);
  param_at =
      λ block. Num true 8 (pos 0);
  period_at = λ block. Some (get_or periods block 1);
}

abbrev plan_of : ℕ → Resolved
plan_of cycles = record { cycles = cycles; multipliers = 1; stages = [] }

abbrev timing_of : List Bool → List ℕ → Timing
timing_of fed depths = record { lat = []; fed = fed; depths = depths }

-- ---- three products of the same inputs

abbrev three : Diagram
three = record {
  blocks = block_of (Inport 1 0) 0 1 ∷ block_of (Inport 2 0) 0 1 ∷ block_of Product 2 1 ∷ block_of Product 2 1
      ∷ block_of Product 2 1 ∷ block_of (Outport 1) 1 0 ∷ block_of (Outport 2) 1 0 ∷ block_of (Outport 3) 1 0 ∷ [];
  edges = edge_of 0 2 1 ∷ edge_of 1 2 2 ∷ edge_of 0 3 1 ∷ edge_of 1 3 2 ∷ edge_of 0 4 1 ∷ edge_of 1 4 2 ∷ edge_of 2 5 1 ∷ edge_of 3 6 1 ∷ edge_of 4 7 1 ∷ [];
}

abbrev of_three : Attributes
of_three = scalars (8 ∷ 8 ∷ 16 ∷ 16 ∷ 16 ∷ 16 ∷ 16 ∷ 16 ∷ []) []

abbrev three_timed : Timing
three_timed = timing_of (false ∷ false ∷ true ∷ true ∷ true ∷ true ∷ true ∷ true ∷ []) (0 ∷ 0 ∷ 1 ∷ 1 ∷ 1 ∷ 1 ∷ 1 ∷ 1 ∷ [])

three_shared : shared_operations three of_three (plan_of 4) ≡ record { block = 2; element = 0 } ∷ record { block = 3; element = 0 } ∷ record { block = 4; element = 0 } ∷ []
three_shared = refl

three_need : need_of three of_three (plan_of 4) three_timed 1 ≡ 3
three_need = refl

four_have : have_of (plan_of 4) 1 ≡ 3
four_have = refl

three_have : have_of (plan_of 3) 1 ≡ 2
three_have = refl

three_slot : slot_of three of_three (plan_of 4) three_timed 2 (record { block = 4; element = 0 }) ≡ 2
three_slot = refl

three_declared : declared_latency three of_three (plan_of 4) three_timed 6 ≡ 3
three_declared = refl

three_owed : owed three of_three (plan_of 4) three_timed ≡ 1
three_owed = refl

-- ---- two products, the second of the first and an input

abbrev chained_two : Diagram
chained_two = record {
  blocks = block_of (Inport 1 0) 0 1 ∷ block_of (Inport 2 0) 0 1 ∷ block_of Product 2 1 ∷ block_of Product 2 1 ∷ block_of (Outport 1) 1 0 ∷ [];
  edges = edge_of 0 2 1 ∷ edge_of 1 2 2 ∷ edge_of 2 3 1 ∷ edge_of 1 3 2 ∷ edge_of 3 4 1 ∷ [];
}

abbrev of_two : Attributes
of_two = scalars (8 ∷ 8 ∷ 16 ∷ 24 ∷ 24 ∷ []) []

abbrev two_timed : Timing
two_timed = timing_of (false ∷ false ∷ true ∷ true ∷ true ∷ []) (0 ∷ 0 ∷ 1 ∷ 2 ∷ 2 ∷ [])

two_declared : declared_latency chained_two of_two (plan_of 3) two_timed 4 ≡ 2
two_declared = refl

two_slots : slot_of chained_two of_two (plan_of 3) two_timed 1 (record { block = 3; element = 0 }) ≡ 1
two_slots = refl

two_units : unit_of chained_two of_two (plan_of 3) two_timed 1 (record { block = 3; element = 0 }) ≡ 1
two_units = refl

two_owed : owed chained_two of_two (plan_of 3) two_timed ≡ 2
two_owed = refl

-- ---- a product of period 1, a transition to 2, and a product there with an input of period 2

abbrev two_rates : Decimal → Diagram
two_rates period = record {
  blocks = block_of (Inport 1 0) 0 1 ∷ block_of (Inport 2 0) 0 1 ∷ block_of (Inport 3 0) 0 1 ∷ block_of Product 2 1
      ∷ block_of (RateTransition period []) 1 1 ∷ block_of Product 2 1 ∷ block_of (Outport 1) 1 0 ∷ [];
  edges = edge_of 0 3 1 ∷ edge_of 1 3 2 ∷ edge_of 3 4 1 ∷ edge_of 4 5 1 ∷ edge_of 2 5 2 ∷ edge_of 5 6 1 ∷ [];
}

abbrev of_rates : Attributes
of_rates = scalars (8 ∷ 8 ∷ 8 ∷ 16 ∷ 16 ∷ 24 ∷ 24 ∷ []) (1 ∷ 1 ∷ 2 ∷ 1 ∷ 2 ∷ 2 ∷ 2 ∷ [])

abbrev rates_timed : Timing
rates_timed = timing_of (false ∷ false ∷ false ∷ true ∷ true ∷ true ∷ true ∷ []) (0 ∷ 0 ∷ 0 ∷ 1 ∷ 0 ∷ 1 ∷ 1 ∷ [])

-- the slow product waits until the fast one is there
rates_slot : (period : Decimal) → slot_of (two_rates period) of_rates (plan_of 3) rates_timed 1 (record { block = 5; element = 0 }) ≡ 3
rates_slot period = refl

rates_ready : (period : Decimal) → map (ready_of (two_rates period) of_rates (plan_of 3) rates_timed) (3 ∷ 4 ∷ 5 ∷ []) ≡ 1 ∷ 3 ∷ 4 ∷ []
rates_ready period = refl
