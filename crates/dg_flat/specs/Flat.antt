-- The flat diagram of nested blocks and lines (Simulink reference, subsystems and signal lines;
-- flattening is own).
use Rattle.std.specs.Prelude.{◌≡◌, ℕ, if◌then◌else◌, Bool, false, not, List, take, count_by, AllPairs, IsPermutation, Option, Some, None, slice_get}
use Rattle.std.specs.List.{enumerate_from, filter_map}
use Rattle.std.specs.Option.{option_map}
use Rattle.fx_type.specs.declared.spec.TypeSpec.TheVariants.{Auto}
use Rattle.fx_type.specs.declared.rounding.Rounding.TheVariants.{Floor}
use Rattle.dg_model.specs.declared.diagram.Diagram.{Diagram}
use Rattle.dg_model.specs.declared.diagram.Block.{Block}
use Rattle.dg_model.specs.declared.diagram.Edge.{Edge}
use Rattle.dg_model.specs.declared.diagram.PeriodSpec.TheVariants.{Inherit}
use Rattle.dg_model.specs.declared.kind.Kind.{Kind}
use Rattle.dg_model.specs.declared.kind.Kind.TheVariants.{Inport, Outport, Constant, Ground, Sum, Gain, Product, Switch, Relational, Logic, Convert, Delay, Mux, Demux, RateTransition, Pass, EnableTest, EnOut, Terminator}
use Rattle.dg_model.specs.declared.nested.Nested.{Nested}
use Rattle.dg_model.specs.declared.nested.NestedBlock.{NestedBlock}
use Rattle.dg_model.specs.declared.nested.NestedLine.{NestedLine}
use Rattle.dg_model.specs.declared.nested.Part.{Part}
use Rattle.dg_model.specs.declared.nested.Part.TheVariants.{Plain, In, Out, SubSystem, Enable}
use Rattle.dg_model.specs.declared.nested.Target.{Target}
use Rattle.dg_model.specs.declared.nested.Target.TheVariants.{Port, Enable as ToEnable}
use Rattle.dg_model.specs.Wired.{StandsBefore}
use Rattle.dg_flat.specs.declared.edges.FlatPort.{FlatPort}
use Rattle.dg_flat.specs.Parts.{nested_path, is_subsystem, in_number, out_number, is_number, first_in, enable_port, control_of}

-- ---- blocks

-- the place in the flat list of the block at a place: subsystems are left out
abbrev pub flat_place : List NestedBlock → ℕ → ℕ
flat_place blocks place = count_by (λ block. not (is_subsystem block.part)) (take place blocks)

-- a Delay begins anew when its subsystem is enabled again
abbrev pub resetting : Bool → Kind → Kind
resetting reset (Inport number width) = Inport number width
resetting reset (Outport number) = Outport number
resetting reset (Constant value) = Constant value
resetting reset Ground = Ground
resetting reset (Sum negative accum) = Sum negative accum
resetting reset (Gain value param) = Gain value param
resetting reset Product = Product
resetting reset (Switch criterion threshold) = Switch criterion threshold
resetting reset (Relational operator) = Relational operator
resetting reset (Logic operator) = Logic operator
resetting reset (Convert stored) = Convert stored
resetting reset (Delay delay initial own) = Delay delay initial reset
resetting reset (Mux sizes) = Mux sizes
resetting reset (Demux sizes) = Demux sizes
resetting reset (RateTransition period initial) = RateTransition period initial
resetting reset (Pass width) = Pass width
resetting reset EnableTest = EnableTest
resetting reset (EnOut own initial) = EnOut own initial
resetting reset Terminator = Terminator

-- whether the states of the enabled subsystem of an EnablePort begin anew
abbrev pub resets : Option NestedBlock → Bool
resets None = false
resets (Some block) = of_part block.part where
  of_part : Part → Bool
  of_part (Enable reset) = reset
  of_part _ = false

abbrev pub resets_under : List NestedBlock → Option ℕ → Bool
resets_under blocks None = false
resets_under blocks (Some control) = resets (slice_get blocks control)

-- a block with this path, and this enable
abbrev pub placed_as : List ℕ → Bool → Option ℕ → Block → Block
placed_as path resets enable block = record block { path = path; kind = resetting resets block.kind; enable = enable }

-- a block with its path, in the enabled subsystem of this EnablePort
abbrev pub placed : List NestedBlock → ℕ → Option ℕ → Block → Block
placed blocks place control =
    placed_as (nested_path blocks place) (resets_under blocks control) (option_map (flat_place blocks) control)

-- the control of an enabled subsystem with this path
abbrev pub control_as : List ℕ → Block
control_as path = record { path = path; kind = EnableTest; inputs = 1; outputs = 1; result = Auto; rounding = Floor; saturate = false; period = Inherit; enable = None }

-- the control of an enabled subsystem
abbrev pub control_block : List NestedBlock → ℕ → Block
control_block blocks place = control_as (nested_path blocks place)

-- the block that a part becomes; a subsystem becomes none
abbrev pub flat_block : List NestedBlock → ℕ → Option ℕ → Part → Option Block
flat_block blocks place control (Plain block) = Some (placed blocks place control block)
flat_block blocks place control (In block number) = Some (placed blocks place control block)
flat_block blocks place control (Out block number) = Some (placed blocks place control block)
flat_block blocks place control SubSystem = None
flat_block blocks place control (Enable reset) = Some (control_block blocks place)

abbrev pub flat_blocks : List NestedBlock → List Block
flat_blocks blocks = filter_map (λ (place, block). flat_block blocks place (control_of blocks block.parent) block.part) (enumerate_from 0 blocks)

-- ---- edges

-- port 1 of the block at a place
abbrev pub first_port : List NestedBlock → ℕ → FlatPort
first_port blocks place = record { block = flat_place blocks place; port = 1 }

-- the port of the block at a place, where a subsystem's is that of the Inport or Outport in it
abbrev pub port_at : List NestedBlock → ℕ → ℕ → (Part → Option ℕ) → Option NestedBlock → Option FlatPort
port_at blocks place port number_of None = None
port_at blocks place port number_of (Some block) =
    if is_subsystem block.part then option_map (first_port blocks) (first_in blocks (Some place) (λ part. is_number port (number_of part)))
    else Some (record { block = flat_place blocks place; port = port })

-- where a line comes from, and where it ends
abbrev pub source_of : List NestedBlock → NestedLine → Option FlatPort
source_of blocks line = port_at blocks line.from line.from_port out_number (slice_get blocks line.from)

abbrev pub end_at : List NestedBlock → ℕ → Target → Option FlatPort
end_at blocks place (Port port) = port_at blocks place port in_number (slice_get blocks place)
end_at blocks place ToEnable = option_map (first_port blocks) (enable_port blocks (Some place))

abbrev pub joined : Option FlatPort → Option FlatPort → Option Edge
joined (Some source) (Some end) = Some (record { from = source.block; from_port = source.port; to = end.block; to_port = end.port })
joined (Some source) None = None
joined None end = None

-- the edge of a line
abbrev pub edge_of : List NestedBlock → NestedLine → Option Edge
edge_of blocks line = joined (source_of blocks line) (end_at blocks line.to line.target)

-- the diagram has the blocks in file order and the edges of the lines, ordered by destination
pub record IsFlatOf (nested : Nested) (diagram : Diagram) : Type 0 where
  pub blocks : diagram.blocks ≡ flat_blocks nested.blocks
  pub edges : IsPermutation (filter_map (edge_of nested.blocks) nested.lines) diagram.edges
  pub ordered : AllPairs StandsBefore diagram.edges
