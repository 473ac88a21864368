-- The diagram of sample 1, drawn by hand: a product of the input with itself, which two outputs show,
-- the second behind a rate transition (own).
use Rattle.std.specs.Prelude.{ℕ, true, false, pos, List, [], ◌∷◌, None, codes}
use Rattle.std.proofs.Math.Dec.{lit<}
use lib.Signed.{le_z_yes}
use Rattle.fx_type.specs.declared.decimal.Decimal.{Decimal}
use Rattle.fx_type.specs.declared.kind.FxType.TheVariants.{Num}
use Rattle.fx_type.specs.declared.rounding.Rounding.TheVariants.{Floor}
use Rattle.fx_type.specs.declared.spec.TypeSpec.{TypeSpec}
use Rattle.fx_type.specs.declared.spec.TypeSpec.TheVariants.{Auto, Fixed}
use Rattle.dg_model.specs.declared.diagram.Block.{Block}
use Rattle.dg_model.specs.declared.diagram.Diagram.{Diagram}
use Rattle.dg_model.specs.declared.diagram.Edge.{Edge}
use Rattle.dg_model.specs.declared.diagram.PeriodSpec.{PeriodSpec}
use Rattle.dg_model.specs.declared.diagram.PeriodSpec.TheVariants.{Every, Inherit}
use Rattle.dg_model.specs.declared.kind.Kind.{Kind}
use Rattle.dg_model.specs.declared.kind.Kind.TheVariants.{Inport, Outport, Product, RateTransition}

-- 0, 1 and 2
abbrev pub zero_decimal : Decimal
zero_decimal = record { negative = false; digits = 0; exponent = pos 0; eighteen_digits = lit< tt; least_exponent = le_z_yes tt; greatest_exponent = le_z_yes tt }

abbrev one_decimal : Decimal
one_decimal = record zero_decimal { digits = 1; eighteen_digits = lit< tt }

abbrev two_decimal : Decimal
two_decimal = record zero_decimal { digits = 2; eighteen_digits = lit< tt }

-- a block of which nothing else is said
abbrev block_of : List ℕ → Kind → ℕ → ℕ → TypeSpec → PeriodSpec → Block
block_of path kind inputs outputs result period =
    record {
      path = path;
      kind = kind;
      inputs = inputs;
      outputs = outputs;
      result = result;
      rounding = Floor;
      saturate = false;
      period = period;
      enable = None;
    }

-- 16 bits, of which 8 stand behind the point
abbrev word : TypeSpec
word = Fixed (Num true 16 (pos 8))

abbrev edge_of : ℕ → ℕ → ℕ → Edge
edge_of from to port = record { from = from; from_port = 1; to = to; to_port = port }

-- the whole diagram
abbrev pub first_sample : Diagram
first_sample = record {
  blocks =
      block_of (codes "In") (Inport 1 0) 0 1 word (Every one_decimal)
      ∷ block_of (codes "B1") Product 2 1 word Inherit
      ∷ block_of (codes "Down") (RateTransition two_decimal (zero_decimal ∷ [])) 1 1 Auto (Every two_decimal)
      ∷ block_of (codes "Out") (Outport 1) 1 0 Auto Inherit
      ∷ block_of (codes "Slow") (Outport 2) 1 0 Auto Inherit ∷ [];
  edges =
      edge_of 0 1 1 ∷ edge_of 0 1 2 ∷ edge_of 1 2 1 ∷ edge_of 1 3 1 ∷ edge_of 2 4 1 ∷ [];
}
