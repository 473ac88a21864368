-- Periods of small diagrams, worked by hand.
use Rattle.fx_type.specs.declared.spec.TypeSpec.TheVariants.{Internal}
use Rattle.std.proofs.Common.{◌≡◌, ℕ, [], ◌∷◌, None, Some, pos, false, refl}
use Rattle.std.specs.Prelude.{◌<◌, ◌^◌}
use Rattle.std.proofs.Math.Dec.{lit<}
use lib.Signed.{le_z_yes}
use Rattle.fx_type.specs.declared.decimal.Decimal.{Decimal}
use Rattle.dg_model.specs.declared.diagram.Diagram.{Diagram}
use Rattle.dg_model.specs.declared.diagram.Block.{Block}
use Rattle.dg_model.specs.declared.diagram.PeriodSpec.{PeriodSpec}
use Rattle.dg_model.specs.declared.diagram.PeriodSpec.TheVariants.{Inherit, Every}
use Rattle.dg_model.specs.declared.kind.Kind.{Kind}
use Rattle.dg_model.specs.declared.kind.Kind.TheVariants.{Inport, Outport, Ground, Delay, Sum, Pass}
use Rattle.dg_model.specs.Periods.{periods_of}
use Rattle.dg_model.proofs.WidthRounds.{block_of, edge_of}

abbrev pub small : (n : ℕ) → n < 10 ^ 18 → Decimal
small n below = record { negative = false; digits = n; exponent = pos 0; eighteen_digits = below; least_exponent = le_z_yes tt; greatest_exponent = le_z_yes tt }

abbrev pub timed : Kind → PeriodSpec → ℕ → ℕ → Block
timed kind period inputs outputs = record (block_of kind inputs outputs) { period = period }

-- a sum of a source of period 8 and of a copy of one of period 4 takes 8 in the first round, and keeps it
abbrev late : Diagram
late = record {
  blocks = timed (Inport 1 0) (Every (small 8 (lit< tt))) 0 1 ∷ timed (Inport 2 0) (Every (small 4 (lit< tt))) 0 1 ∷ timed (Pass 0) Inherit 1 1 ∷ timed (Sum (false ∷ false ∷ []) Internal) Inherit 2 1
      ∷ timed Ground Inherit 0 1 ∷ timed (Pass 0) Inherit 1 1 ∷ timed (Delay 1 [] false) Inherit 1 1 ∷ timed (Outport 1) Inherit 1 0 ∷ [];
  edges = edge_of 1 1 2 1 ∷ edge_of 0 1 3 1 ∷ edge_of 2 1 3 2 ∷ edge_of 4 1 5 1 ∷ edge_of 5 1 6 1 ∷ edge_of 5 1 7 1 ∷ [];
}

late_periods : periods_of late ≡ Some 2 ∷ Some 1 ∷ Some 1 ∷ Some 2 ∷ None ∷ None ∷ Some 1 ∷ Some 1 ∷ []
late_periods = refl
