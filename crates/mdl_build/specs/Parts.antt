-- The part that a block of a type becomes, by what its parameters say: one row a type (Simulink
-- reference, each block's page).
use Rattle.std.specs.Prelude.{ℕ, false, List, [], ◌∷◌, Option, Some, None, replicate}
use Rattle.fx_type.specs.declared.decimal.Decimal.{Decimal}
use Rattle.dg_model.specs.declared.diagram.Block.{Block}
use Rattle.dg_model.specs.declared.kind.Kind.{Kind}
use Rattle.dg_model.specs.declared.nested.Part.{Part}
use Rattle.fir_block.specs.declared.filter.Fir.{Fir}
use Rattle.mdl_build.specs.declared.library.BlockType.{BlockType}
use Rattle.mdl_build.specs.declared.parts.Standing.{Standing}
use Rattle.mdl_build.specs.declared.settings.Said.{Said}
use Rattle.mdl_build.specs.declared.settings.Settings.{Settings}

-- a block of a kind and with so many ports, of which its parameters say the rest
abbrev pub block_with : Said → Kind → ℕ → ℕ → Block
block_with said kind inputs outputs = record {
  path = [];
  kind = kind;
  inputs = inputs;
  outputs = outputs;
  result = said.result;
  rounding = said.rounding;
  saturate = said.saturate;
  period = said.period;
  enable = None;
}

-- the sizes of the parts of a Demux: those that are given, or so many open ones
abbrev pub open_sizes : ℕ → List ℕ → List ℕ
open_sizes count [] = replicate count 0
open_sizes count (size ∷ sizes) = size ∷ sizes

-- an Inport stands for an input of the model, or for one of its subsystem
abbrev pub in_part : Standing → Said → Part
in_part Standing.Root said =
    Part.In (block_with said (Kind.Inport said.number said.width) 0 1) said.number
in_part Standing.Plain said = Part.In (block_with said (Kind.Pass said.width) 1 1) said.number
in_part Standing.Enabled said = Part.In (block_with said (Kind.Pass said.width) 1 1) said.number

-- an Outport stands for an output of the model, or for one of its subsystem
abbrev pub out_part : Standing → Said → List Decimal → Part
out_part Standing.Root said initial =
    Part.Out (block_with said (Kind.Outport said.number) 1 0) said.number
out_part Standing.Plain said initial = Part.Out (block_with said (Kind.Pass 0) 1 1) said.number
out_part Standing.Enabled said initial =
    Part.Out (block_with said (Kind.EnOut said.flag initial) 1 1) said.number

-- the part of a block of each type
abbrev pub part_of : Standing → BlockType → Settings → Part
part_of standing BlockType.Inport settings = in_part standing settings.said
part_of standing BlockType.Outport settings = out_part standing settings.said settings.list
part_of standing BlockType.Constant settings =
    Part.Plain (block_with settings.said (Kind.Constant settings.list) 0 1)
part_of standing BlockType.Ground settings = Part.Plain (block_with settings.said Kind.Ground 0 1)
part_of standing BlockType.Terminator settings =
    Part.Plain (block_with settings.said Kind.Terminator 1 0)
part_of standing BlockType.Sum settings =
    Part.Plain (block_with settings.said (Kind.Sum settings.signs settings.said.coefficient)
    settings.said.number 1)
part_of standing BlockType.Gain settings =
    Part.Plain (block_with settings.said (Kind.Gain settings.list settings.said.coefficient) 1 1)
part_of standing BlockType.Product settings = Part.Plain (block_with settings.said Kind.Product 2 1)
part_of standing BlockType.UnitDelay settings =
    Part.Plain (block_with settings.said (Kind.Delay 1 settings.list false) 1 1)
part_of standing BlockType.Delay settings =
    Part.Plain (block_with settings.said (Kind.Delay settings.said.number settings.list false) 1 1)
part_of standing BlockType.Switch settings =
    Part.Plain (block_with settings.said (Kind.Switch settings.said.criterion settings.list) 3 1)
part_of standing BlockType.RelationalOperator settings =
    Part.Plain (block_with settings.said (Kind.Relational settings.said.relation) 2 1)
part_of standing BlockType.Logic settings =
    Part.Plain (block_with settings.said (Kind.Logic settings.said.gate) settings.said.number 1)
part_of standing BlockType.DataTypeConversion settings =
    Part.Plain (block_with settings.said (Kind.Convert settings.said.flag) 1 1)
part_of standing BlockType.Mux settings =
    Part.Plain (block_with settings.said (Kind.Mux settings.sizes) settings.said.number 1)
part_of standing BlockType.Demux settings =
    Part.Plain (block_with settings.said
    (Kind.Demux (open_sizes settings.said.number settings.sizes)) 1 settings.said.number)
part_of standing BlockType.RateTransition settings =
    Part.Plain (block_with settings.said (Kind.RateTransition settings.said.rate settings.list) 1 1)
part_of standing BlockType.SubSystem settings = Part.SubSystem
part_of standing BlockType.EnablePort settings = Part.Enable settings.said.flag
part_of standing BlockType.DiscreteFir settings = Part.SubSystem

-- the filter that a block of this name stands for
abbrev pub filter_of : List ℕ → BlockType → Settings → Option Fir
filter_of name BlockType.DiscreteFir settings =
    Some (record {
      name = name;
      coefficients = settings.list;
      initial = settings.states;
      param = settings.said.coefficient;
      result = settings.said.result;
      rounding = settings.said.rounding;
      saturate = settings.said.saturate;
      period = settings.said.period;
    })
filter_of name _ settings = None
