-- A whole model with its plan, and what both say, written out by hand: an input of two elements, a
-- Gain that multiplies them by 3 and 5, and an output. One multiplier serves both elements, in the
-- first two of the three clocks of a base sample, and one register stands behind each.
use Rattle.std.specs.Prelude.{ℕ, zero, suc, ℤ, pos, negsuc, true, false, List, [], ◌∷◌, None, codes, slice_index_or}
use Rattle.std.proofs.Math.Dec.{lit<}
use lib.Signed.{le_z_yes}
use Rattle.fx_type.specs.declared.decimal.Decimal.{Decimal}
use Rattle.fx_type.specs.declared.kind.FxType.{FxType}
use Rattle.fx_type.specs.declared.kind.FxType.TheVariants.{Num}
use Rattle.fx_type.specs.declared.rounding.Rounding.TheVariants.{Floor}
use Rattle.fx_type.specs.declared.spec.TypeSpec.TheVariants.{Auto, Fixed}
use Rattle.dg_model.specs.declared.diagram.Block.{Block}
use Rattle.dg_model.specs.declared.diagram.Diagram.{Diagram}
use Rattle.dg_model.specs.declared.diagram.Edge.{Edge}
use Rattle.dg_model.specs.declared.diagram.PeriodSpec.TheVariants.{Inherit}
use Rattle.dg_model.specs.declared.kind.Kind.{Kind}
use Rattle.dg_model.specs.declared.kind.Kind.TheVariants.{Inport, Outport, Gain}
use Rattle.dg_model.specs.declared.plan.Pipeline.{Pipeline}
use Rattle.dg_model.specs.declared.plan.Plan.{Plan}
use Rattle.dg_model.specs.declared.resolved.Resolved.{Resolved}
use Rattle.dg_model.specs.Signals.{Stimulus, Table}
use Rattle.hw_arcs.specs.declared.arc.Arc.{Arc}
use Rattle.hw_sched.specs.Slots.{Timing}

-- ---- the texts
abbrev pub model_text : List ℕ
model_text =
    codes "Model {\n  Name \"two\"\n  System {\n    Block {\n      BlockType Inport\n      Name \"u\"\n      OutDataTypeStr \"int8\"\n      PortDimensions \"2\"\n    }\n    Block {\n      BlockType Gain\n      Name \"G\"\n      Gain \"[3 5]\"\n      ParamDataTypeStr \"int8\"\n      OutDataTypeStr \"int16\"\n    }\n    Block {\n      BlockType Outport\n      Name \"y\"\n    }\n    Line {\n      SrcBlock \"u\"\n      SrcPort 1\n      DstBlock \"G\"\n      DstPort 1\n    }\n    Line {\n      SrcBlock \"G\"\n      SrcPort 1\n      DstBlock \"y\"\n      DstPort 1\n    }\n  }\n}\n"

abbrev pub plan_text : List ℕ
plan_text = codes "cycles 3\nmultipliers 1\npipeline \"G\" 1\n"

-- ---- the diagram
abbrev pub int8 : FxType
int8 = Num true 8 (pos 0)

abbrev pub int16 : FxType
int16 = Num true 16 (pos 0)

abbrev pub three : Decimal
three = record { negative = false; digits = 3; exponent = pos 0; eighteen_digits = lit< tt; least_exponent = le_z_yes tt; greatest_exponent = le_z_yes tt }

abbrev pub five : Decimal
five = record { negative = false; digits = 5; exponent = pos 0; eighteen_digits = lit< tt; least_exponent = le_z_yes tt; greatest_exponent = le_z_yes tt }

abbrev pub coefficients : List Decimal
coefficients = three ∷ five ∷ []

-- a block of which nothing else is said
abbrev pub block_of : List ℕ → Kind → ℕ → ℕ → Block
block_of path kind inputs outputs = record { path = path; kind = kind; inputs = inputs; outputs = outputs; result = Auto; rounding = Floor; saturate = false; period = Inherit; enable = None }

abbrev pub input : List ℕ → Block
input path = record (block_of path (Inport 1 2) 0 1) { result = Fixed int8 }

abbrev pub gain : List ℕ → Block
gain path = record (block_of path (Gain coefficients (Fixed int8)) 1 1) { result = Fixed int16 }

abbrev pub output : List ℕ → Block
output path = block_of path (Outport 1) 1 0

abbrev pub edge_of : ℕ → ℕ → Edge
edge_of from to = record { from = from; from_port = 1; to = to; to_port = 1 }

abbrev pub diagram : Diagram
diagram = record {
  blocks = input (codes "u") ∷ gain (codes "G") ∷ output (codes "y") ∷ [];
  edges = edge_of 0 1 ∷ edge_of 1 2 ∷ [];
}

-- ---- the plan, and its numbers for the blocks
abbrev pub pipeline : Pipeline
pipeline = record { path = codes "G"; count = 1 }

abbrev pub plan : Plan
plan = record { cycles = 3; multipliers = 1; pipelines = pipeline ∷ [] }

abbrev pub resolved : Resolved
resolved = record { cycles = 3; multipliers = 1; stages = 0 ∷ 1 ∷ 0 ∷ [] }

-- ---- the times of the blocks: the output is a base sample late, the Gain is shared, and stands before the output
abbrev pub timing : Timing
timing = record { lat = 0 ∷ 0 ∷ 1 ∷ []; fed = false ∷ true ∷ true ∷ []; depths = 0 ∷ 1 ∷ 1 ∷ [] }

-- ---- what the latencies keep: the Gain has its register before the output
abbrev pub arc : ℕ → ℕ → ℕ → Arc
arc from to gain = record { from = from; to = to; counts = true; gain = gain; slack = 0 }

-- that into the Gain and that behind it
abbrev pub arcs : List Arc
arcs = arc 0 1 0 ∷ arc 1 2 1 ∷ []

-- ---- three base samples
abbrev pub firsts : ℕ → ℤ
firsts t = slice_index_or (pos 1 ∷ negsuc 1 ∷ pos 127 ∷ []) t (pos 0)

abbrev pub seconds : ℕ → ℤ
seconds t = slice_index_or (pos 10 ∷ pos 20 ∷ negsuc 127 ∷ []) t (pos 0)

abbrev pub triples : ℕ → ℤ
triples t = slice_index_or (pos 3 ∷ negsuc 5 ∷ pos 381 ∷ []) t (pos 0)

abbrev pub fives : ℕ → ℤ
fives t = slice_index_or (pos 50 ∷ pos 100 ∷ negsuc 639 ∷ []) t (pos 0)

-- by element
abbrev pub given : ℕ → ℕ → ℤ
given zero t = firsts t
given (suc element) t = seconds t

abbrev pub shown : ℕ → ℕ → ℤ
shown zero t = triples t
shown (suc element) t = fives t

abbrev pub stimulus : Stimulus
stimulus number element t = given element t

abbrev pub table : Table
table zero port element t = given element t
table (suc block) port element t = shown element t

-- ---- the names of its ports
abbrev pub whole_names : List (List ℕ)
whole_names = codes "u_0" ∷ codes "u_1" ∷ codes "y_0" ∷ codes "y_1" ∷ []
