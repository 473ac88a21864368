-- When the widths of a diagram keep the rule of dimensions (Simulink reference, signal dimensions;
-- the bounds are own).
use Rattle.std.specs.Prelude.{◌≡◌, ℕ, ◌*◌, ◌≤◌, ◌==◌, ◌⊎◌, sum, if◌then◌else◌, List, [], ◌∷◌, length, map, All, slice_index_or, MatchBool, ⊤}
use Rattle.std.specs.List.{enumerate_from}
use Rattle.dg_model.specs.declared.diagram.Diagram.{Diagram}
use Rattle.dg_model.specs.declared.diagram.Block.{Block}
use Rattle.dg_model.specs.declared.fault.RuleFault.{RuleFault}
use Rattle.dg_model.specs.declared.fault.Shown.TheVariants.{Nothing}
use Rattle.dg_model.specs.declared.rule.Rule.{Rule}
use Rattle.dg_model.specs.Faults.{fault_of, AllKeep, BreaksAt}
use Rattle.dg_model.specs.KindRow.{Shape}
use Rattle.dg_model.specs.Library.{row_of}
use Rattle.dg_model.specs.Limits.{widest_signal, most_output_elements, most_input_elements, most_delay_elements}
use Rattle.dg_model.specs.Widths.{Widths, width_at, input_widths, are_open, next_widths, widths_of}

-- a width or a length of 1 is repeated
abbrev pub IsRepeated : ℕ → ℕ → Type 0
IsRepeated own width = (width ≡ 1) ⊎ (width ≡ own)

-- the inputs of a block agree with the widths at its outputs
abbrev pub Agrees : Shape → List ℕ → List ℕ → Type 0
Agrees Shape.Elementwise outputs inputs = All (IsRepeated (slice_index_or outputs 0 0)) inputs
Agrees (Shape.Joined []) outputs inputs = ⊤
Agrees (Shape.Joined (size ∷ sizes)) outputs inputs = inputs ≡ size ∷ sizes
Agrees (Shape.Parted sizes) outputs inputs =
    MatchBool (are_open sizes) ⊤ (outputs ≡ sizes) × (slice_index_or inputs 0 0 ≡ sum outputs)
Agrees Shape.Single outputs inputs = ⊤

-- a block keeps the rule
pub record KeepsDimension (diagram : Diagram) (widths : Widths) (place : ℕ)
    (block : Block) : Type 0 where
  -- one more round changes nothing
  pub settled : next_widths diagram widths place ≡ slice_index_or widths place []
  pub within : (1 ≤ block.outputs)
      → All (λ width. width ≤ widest_signal) (slice_index_or widths place [])
  pub agrees : Agrees (row_of block.kind).signal.shape (slice_index_or widths place [])
      (input_widths diagram widths place)
  pub lists : All (λ list. IsRepeated (width_at widths place 1) (length list))
      (row_of block.kind).signal.lists
  pub declared : ((row_of block.kind).signal.width ≡ 0)
      ⊎ (width_at widths place 1 ≡ (row_of block.kind).signal.width)

-- how many elements the output ports of a block have
abbrev pub elements_out : Widths → ℕ → Block → ℕ
elements_out widths place block =
    if block.outputs == 0 then 0 else sum (slice_index_or widths place [])

-- the elements of all output ports, of all input ports, and of all Delays with their lengths
abbrev pub output_elements : Diagram → Widths → ℕ
output_elements diagram widths =
    sum (map (λ (place, block). elements_out widths place block) (enumerate_from 0 diagram.blocks))

-- the elements of all input ports
abbrev pub input_elements : Diagram → Widths → ℕ
input_elements diagram widths =
    sum (map (λ edge. width_at widths edge.from edge.from_port) diagram.edges)

-- the elements of all Delays, each as often as it is long
abbrev pub delay_elements : Diagram → Widths → ℕ
delay_elements diagram widths =
    sum (map (λ (place, block). (row_of block.kind).timing.delay * width_at widths place 1)
    (enumerate_from 0 diagram.blocks))

-- there are few enough
pub record IsBounded (diagram : Diagram) (widths : Widths) : Type 0 where
  pub outputs : output_elements diagram widths ≤ most_output_elements
  pub inputs : input_elements diagram widths ≤ most_input_elements
  pub delays : delay_elements diagram widths ≤ most_delay_elements

-- the rule is kept
pub record KeepsDimensions (diagram : Diagram) : Type 0 where
  pub blocks : AllKeep diagram (KeepsDimension diagram (widths_of diagram))
  pub bounded : IsBounded diagram (widths_of diagram)

-- every block keeps the rule, and there are too many elements
pub record BreaksBounds (diagram : Diagram) (fault : RuleFault) : Type 0 where
  pub blocks : AllKeep diagram (KeepsDimension diagram (widths_of diagram))
  pub unbounded : ¬ IsBounded diagram (widths_of diagram)
  pub fault_is : fault ≡ fault_of Rule.Dimension [] Nothing

-- the rule is broken, with this fault
abbrev pub BreaksDimension : Diagram → RuleFault → Type 0
BreaksDimension diagram fault =
    BreaksAt diagram Rule.Dimension (KeepsDimension diagram (widths_of diagram))
    (λ place block. Nothing) fault ⊎ BreaksBounds diagram fault
