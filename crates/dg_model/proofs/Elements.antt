-- Every elementwise kind once, fed by the number 3 in int8: each takes its parameters, types and inputs from the diagram.
use Rattle.std.proofs.Common.{ℕ, [], ◌∷◌, None, pos, get_or, true, false, refl}
use lib.Signed.{le_z_yes}
use Rattle.std.proofs.Math.Dec.{lit<, lit≤}
use Rattle.fx_type.specs.declared.kind.FxType.{FxType}
use Rattle.fx_type.specs.declared.kind.FxType.TheVariants.{Num, Logical as Boolean}
use Rattle.fx_type.specs.declared.spec.TypeSpec.TheVariants.{SameFirst}
use Rattle.dg_model.specs.declared.diagram.Diagram.{Diagram}
use Rattle.dg_model.specs.declared.kind.Criterion.TheVariants.{AtLeast}
use Rattle.dg_model.specs.declared.kind.Gate.TheVariants.{Xor}
use Rattle.dg_model.specs.declared.kind.Relation.TheVariants.{Lt}
use Rattle.dg_model.specs.declared.kind.Kind.TheVariants.{Inport, Gain, Product, Switch, Relational, Logic, Convert, Outport}
use Rattle.dg_model.specs.declared.op.Op.TheVariants.{Gain as OpGain, Product as OpProduct, Switch as OpSwitch, Relational as OpRelational, Logic as OpLogic, Convert as OpConvert, Pass as OpPass}
use Rattle.dg_model.specs.Equation.{Equation}
use Rattle.dg_model.specs.Signals.{Attributes, Stimulus, Table}
use Rattle.dg_model.proofs.Examples.{int8, block_of, edge_of, decimal_of, table_of, stores_small, down, wrapped, kept}

-- u, a Gain of 2, u times u, a Switch at 4 between the gain's and the product's output, u below u times u, u xor u, u in halves, u's stored integer in halves, and an Outport of the switch
abbrev diagram : Diagram
diagram = record {
  blocks = block_of (Inport 1 0) 0 1 None ∷ block_of (Gain (decimal_of 2 (lit< tt) ∷ []) SameFirst) 1 1 None ∷ block_of Product 2 1 None
      ∷ block_of (Switch AtLeast (decimal_of 4 (lit< tt) ∷ [])) 3 1 None ∷ block_of (Relational Lt) 2 1 None ∷ block_of (Logic Xor) 2 1 None
      ∷ block_of (Convert false) 1 1 None ∷ block_of (Convert true) 1 1 None ∷ block_of (Outport 1) 1 0 None ∷ [];
  edges = edge_of 0 1 1 1 ∷ edge_of 0 1 2 1 ∷ edge_of 0 1 2 2 ∷ edge_of 1 1 3 1 ∷ edge_of 0 1 3 2 ∷ edge_of 2 1 3 3
      ∷ edge_of 0 1 4 1 ∷ edge_of 2 1 4 2 ∷ edge_of 0 1 5 1 ∷ edge_of 0 1 5 2 ∷ edge_of 0 1 6 1 ∷ edge_of 0 1 7 1
      ∷ edge_of 3 1 8 1 ∷ [];
}

abbrev halves : FxType
halves = Num true 8 (pos 1)

abbrev attributes : Attributes
attributes = record {
  width_at = λ block port. 1;
  type_at =
      λ block port. get_or (int8 ∷ int8 ∷ int8 ∷ int8 ∷ Boolean ∷ Boolean ∷ halves ∷ halves ∷ []) block int8;
  param_at = λ block. int8;
  period_at = λ block. None;
}

-- 3, 6, 9, the third input since 3 is below 4, true, false, 6 halves, 3 halves
abbrev table : Table
table = table_of ((pos 3 ∷ []) ∷ (pos 6 ∷ []) ∷ (pos 9 ∷ []) ∷ (pos 9 ∷ []) ∷ (pos 1 ∷ []) ∷ (pos 0 ∷ []) ∷ (pos 6 ∷ []) ∷ (pos 3 ∷ []) ∷ (pos 9 ∷ []) ∷ [])

abbrev stimulus : Stimulus
stimulus number element t = pos 3

abbrev IsRight : ℕ → Type 0
IsRight block = Equation diagram attributes stimulus table block 1 0 0 (table block 1 0 0)

inport : IsRight 0
inport = refl

gain : IsRight 1
gain = (
  OpGain (pos 2) int8,
  (pos 2, stores_small 2 (lit< tt) (lit< tt), refl),
  (Num true 16 (pos 0), record { valid = ((lit≤ tt, lit≤ tt), le_z_yes tt, le_z_yes tt); number = tt; width = refl; frac = refl; sign = refl }, kept (pos 6) tt tt),
)

product : IsRight 2
product = (OpProduct, refl, (Num true 16 (pos 0), record { valid = ((lit≤ tt, lit≤ tt), le_z_yes tt, le_z_yes tt); number = tt; width = refl; frac = refl; sign = refl }, kept (pos 9) tt tt))

switch : IsRight 3
switch = (OpSwitch AtLeast (pos 4), (pos 4, stores_small 4 (lit< tt) (lit< tt), refl), kept (pos 9) tt tt)

relational : IsRight 4
relational = (OpRelational Lt, refl, refl)

logic : IsRight 5
logic = (OpLogic Xor, refl, refl)

convert : IsRight 6
convert = (OpConvert false, refl, record { rounded = pos 6; rounds = down tt tt; settles = wrapped true 8 (pos 0) tt tt refl })

convert_stored : IsRight 7
convert_stored = (OpConvert true, refl, record { rounded = pos 3; rounds = down tt tt; settles = wrapped true 8 (pos 0) tt tt refl })

outport : IsRight 8
outport = (OpPass, refl, refl)
