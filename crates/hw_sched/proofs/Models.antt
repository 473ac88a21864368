-- More small diagrams whose slots are worked out by hand: registers behind a shared block, and a period whose last clock is wanted too.
use Rattle.std.proofs.Common.{◌≡◌, true, false, [], ◌∷◌, map, refl}
use Rattle.fx_type.specs.declared.decimal.Decimal.{Decimal}
use Rattle.fx_type.specs.declared.spec.TypeSpec.TheVariants.{Auto}
use Rattle.dg_model.specs.declared.diagram.Diagram.{Diagram}
use Rattle.dg_model.specs.declared.kind.Kind.TheVariants.{Inport, Outport, Gain, Product, Delay}
use Rattle.dg_model.specs.declared.nested.Target.TheVariants.{Port}
use Rattle.dg_model.specs.declared.resolved.Resolved.{Resolved}
use Rattle.dg_model.specs.Signals.{Attributes}
use Rattle.hw_sched.specs.Slots.{Timing, need_of, have_of, slot_of}
use Rattle.hw_sched.specs.Ready.{ready_of, declared_latency}
use Rattle.hw_sched.specs.Storage.{shift_of}
use Rattle.hw_sched.proofs.SlotExamples.{block_of, edge_of, scalars}

-- ---- a gain with a register, a product of it, and a delay of that, all of period 2 in two clocks a base sample

abbrev pub late_source : Decimal → Diagram
late_source number = record {
  blocks = block_of (Inport 1 0) 0 1 ∷ block_of (Inport 2 0) 0 1 ∷ block_of (Gain (number ∷ []) Auto) 1 1
      ∷ block_of Product 2 1 ∷ block_of (Delay 1 (number ∷ []) false) 1 1 ∷ block_of (Outport 1) 1 0 ∷ [];
  edges = edge_of 0 2 1 ∷ edge_of 2 3 1 ∷ edge_of 1 3 2 ∷ edge_of 3 4 1 ∷ edge_of 4 5 1 ∷ [];
}

abbrev pub of_late : Attributes
of_late = scalars [] (2 ∷ 2 ∷ 2 ∷ 2 ∷ 2 ∷ 2 ∷ [])

abbrev pub late_plan : Resolved
late_plan = record { cycles = 2; multipliers = 1; stages = 0 ∷ 0 ∷ 1 ∷ 0 ∷ 0 ∷ 0 ∷ [] }

abbrev pub late_timed : Timing
late_timed = record { lat = 0 ∷ 0 ∷ 0 ∷ 2 ∷ 2 ∷ 2 ∷ []; fed = false ∷ false ∷ true ∷ true ∷ false ∷ false ∷ []; depths = 0 ∷ 0 ∷ 1 ∷ 2 ∷ 0 ∷ 0 ∷ [] }

late_slots : (number : Decimal) → slot_of (late_source number) of_late late_plan late_timed 0 (record { block = 2; element = 0 }) ≡ 0
late_slots number = refl

late_slot : (number : Decimal) → slot_of (late_source number) of_late late_plan late_timed 1 (record { block = 3; element = 0 }) ≡ 1
late_slot number = refl

late_ready : (number : Decimal) → map (ready_of (late_source number) of_late late_plan late_timed) (2 ∷ 3 ∷ 4 ∷ []) ≡ 1 ∷ 2 ∷ 0 ∷ []
late_ready number = refl

-- the delay waits for a whole period of its source, which isn't ready at once
late_shift : (number : Decimal) → shift_of (late_source number) of_late late_plan late_timed (record { from = 3; from_port = 1; to = 4; target = Port 1 }) ≡ 2
late_shift number = refl

late_declared : (number : Decimal) → declared_latency (late_source number) of_late late_plan late_timed 5 ≡ 4
late_declared number = refl

-- ---- two products one behind the other in a period of two clocks, and a delay

abbrev too_slow : Decimal → Diagram
too_slow number = record {
  blocks = block_of (Inport 1 0) 0 1 ∷ block_of (Inport 2 0) 0 1 ∷ block_of Product 2 1 ∷ block_of Product 2 1 ∷ block_of (Delay 1 (number ∷ []) false) 1 1 ∷ block_of (Outport 1) 1 0 ∷ [];
  edges = edge_of 0 2 1 ∷ edge_of 1 2 2 ∷ edge_of 2 3 1 ∷ edge_of 1 3 2 ∷ edge_of 3 4 1 ∷ edge_of 4 5 1 ∷ [];
}

abbrev slow_plan : Resolved
slow_plan = record { cycles = 2; multipliers = 1; stages = [] }

abbrev slow_timed : Timing
slow_timed = record { lat = []; fed = false ∷ false ∷ true ∷ true ∷ false ∷ false ∷ []; depths = 0 ∷ 0 ∷ 1 ∷ 2 ∷ 0 ∷ 0 ∷ [] }

slow_need : (number : Decimal) → need_of (too_slow number) (scalars [] []) slow_plan slow_timed 1 ≡ 2
slow_need number = refl

slow_have : have_of slow_plan 1 ≡ 1
slow_have = refl
