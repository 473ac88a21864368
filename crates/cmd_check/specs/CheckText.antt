-- The text that tells what is worked out of a model by a plan (own).
use Rattle.std.specs.Prelude.{◌≡◌, ℕ, Bool, if◌then◌else◌, ℤ, List, [], ◌++◌, length, map, drop, codes, Option, None, Some, slice_get}
use Rattle.std.specs.Fmt.{decimal, signed_decimal}
use Rattle.std.specs.List.{flat_map}
use Rattle.math_list.specs.Numbers.{numbers_from}
use Rattle.fx_type.specs.declared.kind.FxType.{FxType}
use Rattle.fx_type.specs.declared.kind.FxType.TheVariants.{Num, Logical}
use Rattle.dg_model.specs.declared.diagram.Diagram.{Diagram}
use Rattle.dg_model.specs.declared.diagram.Block.{Block}
use Rattle.dg_model.specs.declared.resolved.Resolved.{Resolved}
use Rattle.dg_model.specs.Attributes.{attributes_of}
use Rattle.dg_model.specs.Faults.{path_of}
use Rattle.dg_model.specs.RootElements.{root_inputs, root_outputs}
use Rattle.cmd_model.specs.RuleLine.{quoted_path}
use Rattle.hw_arcs.specs.Latencies.{latency_at}
use Rattle.hw_latency.specs.Weight.{latency_arcs}
use Rattle.hw_names.specs.Names.{AreNames}
use Rattle.hw_sched.specs.Ready.{declared_latency}
use Rattle.hw_sched.specs.Slots.{Timing}
use Rattle.cmd_check.specs.Paths.{IsTightPath}

-- a number behind its word
unfoldable pub named : List ℕ → ℕ → List ℕ
named word number = word ++ decimal number

-- ---- blocks

-- the type of a number: 1 where it has a sign, its bits, and those behind the binary point
abbrev pub num_front : Bool → List ℕ
num_front signed = if signed then codes " fixdt(1," else codes " fixdt(0,"

abbrev pub num_text : Bool → ℕ → ℤ → List ℕ
num_text signed width frac =
    named (num_front signed) width ++ codes "," ++ signed_decimal frac ++ codes ")"

abbrev pub type_text : FxType → List ℕ
type_text (Num signed width frac) = num_text signed width frac
type_text Logical = codes " boolean"

unfoldable pub period_text : Option ℕ → List ℕ
period_text None = codes " period inf"
period_text (Some period) = named (codes " period ") period

-- the type and the width of an output port
unfoldable pub port_text : Diagram → ℕ → ℕ → List ℕ
port_text diagram place port =
    type_text ((attributes_of diagram).type_at place port)
    ++ named (codes " ") ((attributes_of diagram).width_at place port)

abbrev pub ports_text : Diagram → ℕ → ℕ → List ℕ
ports_text diagram place outputs = flat_map (port_text diagram place) (numbers_from 1 outputs)

-- its path, its period and latency in base samples
unfoldable pub begun_block : List ℕ → Option ℕ → ℕ → List ℕ
begun_block path period latency =
    codes "block " ++ quoted_path path ++ period_text period ++ named (codes " latency ") latency

-- and its output ports
abbrev pub line_if : Diagram → Timing → ℕ → Option Block → List ℕ
line_if diagram timing place None = []
line_if diagram timing place (Some block) =
    begun_block block.path ((attributes_of diagram).period_at place) (latency_at timing.lat place)
    ++ ports_text diagram place block.outputs ++ codes "\n"

unfoldable pub block_line : Diagram → Timing → ℕ → List ℕ
block_line diagram timing place = line_if diagram timing place (slice_get diagram.blocks place)

-- ---- outputs

-- an output as its line tells it: the name of its port, its block, and the blocks on a path that
-- makes it so late
pub record Output : Type 0 where
  pub name : List ℕ
  pub block : ℕ
  pub path : List ℕ

unfoldable pub step_text : Diagram → ℕ → List ℕ
step_text diagram block = codes " " ++ quoted_path (path_of diagram block)

abbrev pub steps_text : Diagram → List ℕ → List ℕ
steps_text diagram path = flat_map (step_text diagram) path

-- its name, and when its first number is shown, in clocks
unfoldable pub head_text : List ℕ → ℕ → List ℕ
head_text name clocks = codes "output " ++ name ++ named (codes " clocks ") clocks ++ codes " path"

unfoldable pub output_line : Diagram → Resolved → Timing → Output → List ℕ
output_line diagram plan timing output =
    head_text output.name
    (declared_latency diagram (attributes_of diagram) plan timing output.block)
    ++ steps_text diagram output.path ++ codes "\n"

-- ---- the text

abbrev pub front_text : Resolved → List ℕ
front_text plan =
    named (codes "accepted cycles ") plan.cycles ++ named (codes " multipliers ") plan.multipliers
    ++ codes "\n"

abbrev pub blocks_text : Diagram → Timing → List ℕ
blocks_text diagram timing =
    flat_map (block_line diagram timing) (numbers_from 0 (length diagram.blocks))

abbrev pub check_text : Diagram → Resolved → Timing → List Output → List ℕ
check_text diagram plan timing outputs =
    front_text plan ++ blocks_text diagram timing
    ++ flat_map (output_line diagram plan timing) outputs

-- these outputs have these names and blocks, and each has a path
pub record AreOutputs (diagram : Diagram) (plan : Resolved) (timing : Timing)
    (names : List (List ℕ)) (blocks : List ℕ) (outputs : List Output) : Type 0 where
  pub names_are : map (λ output. output.name) outputs ≡ names
  pub blocks_are : map (λ output. output.block) outputs ≡ blocks
  pub tight : (k : ℕ) (output : Output) → slice_get outputs k ≡ Some output
      → IsTightPath (latency_arcs diagram plan timing.fed) timing.lat output.block output.path

-- the text, with one line for each element of the root outputs; of the paths that make an output so
-- late any may stand there
pub record IsCheckText (diagram : Diagram) (plan : Resolved) (timing : Timing)
    (text : List ℕ) : Type 0 where
  pub names : List (List ℕ)
  pub named : AreNames diagram names
  pub outputs : List Output
  pub are : AreOutputs diagram plan timing
      (drop (length (root_inputs diagram (attributes_of diagram))) names)
      (map (λ e. e.block) (root_outputs diagram (attributes_of diagram))) outputs
  pub text_is : text ≡ check_text diagram plan timing outputs
