-- A diagram whose registers are counted by hand: input u, a gain of it with 8 registers, and four sums of both, each to an output.
use Rattle.std.proofs.Common.{◌≡◌, false, [], ◌∷◌, refl}
use Rattle.fx_type.specs.declared.decimal.Decimal.{Decimal}
use Rattle.fx_type.specs.declared.spec.TypeSpec.TheVariants.{Internal, Auto}
use Rattle.dg_model.specs.declared.diagram.Diagram.{Diagram}
use Rattle.dg_model.specs.declared.kind.Kind.TheVariants.{Inport, Outport, Gain, Sum}
use Rattle.dg_model.specs.declared.resolved.Resolved.{Resolved}
use Rattle.dg_model.specs.Signals.{Attributes}
use Rattle.hw_sched.specs.Slots.{Timing}
use Rattle.hw_sched.specs.Storage.{lines_in_all}
use Rattle.hw_sched.specs.Chained.{chained}
use Rattle.hw_sched.proofs.SlotExamples.{block_of, edge_of, scalars}

abbrev pub fans : Decimal → Diagram
fans one = record {
  blocks = block_of (Inport 1 0) 0 1 ∷ block_of (Gain (one ∷ []) Auto) 1 1
      ∷ block_of (Sum (false ∷ false ∷ []) Internal) 2 1 ∷ block_of (Sum (false ∷ false ∷ []) Internal) 2 1
      ∷ block_of (Sum (false ∷ false ∷ []) Internal) 2 1 ∷ block_of (Sum (false ∷ false ∷ []) Internal) 2 1
      ∷ block_of (Outport 1) 1 0 ∷ block_of (Outport 2) 1 0 ∷ block_of (Outport 3) 1 0 ∷ block_of (Outport 4) 1 0 ∷ [];
  edges = edge_of 0 1 1 ∷ edge_of 1 2 1 ∷ edge_of 0 2 2 ∷ edge_of 1 3 1 ∷ edge_of 0 3 2 ∷ edge_of 1 4 1 ∷ edge_of 0 4 2 ∷ edge_of 1 5 1 ∷ edge_of 0 5 2
      ∷ edge_of 2 6 1 ∷ edge_of 3 7 1 ∷ edge_of 4 8 1 ∷ edge_of 5 9 1 ∷ [];
}

abbrev pub of_fans : Attributes
of_fans = scalars [] []

abbrev pub fans_plan : Resolved
fans_plan = record { cycles = 1; multipliers = 0; stages = 0 ∷ 8 ∷ [] }

abbrev pub fans_timed : Timing
fans_timed = record { lat = 0 ∷ 0 ∷ 8 ∷ 8 ∷ 8 ∷ 8 ∷ 8 ∷ 8 ∷ 8 ∷ 8 ∷ []; fed = []; depths = [] }

-- line by line u has 1 and four times 9 registers, the gain four, and each sum one
fans_lines : (one : Decimal) → lines_in_all (fans one) of_fans fans_plan fans_timed ≡ 45
fans_lines one = refl

-- u shares 8, which show both of its uses; 8 in the pipeline, and two frames
fans_chained : (one : Decimal) → chained (fans one) of_fans fans_plan fans_timed ≡ 18
fans_chained one = refl
