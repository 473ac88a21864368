-- Root elements, edges for latency, instant edges and stimuli of small diagrams.
use Rattle.fx_type.specs.declared.spec.TypeSpec.TheVariants.{Internal}
use Rattle.std.proofs.Common.{◌≡◌, ℕ, zero, suc, ◌<◌, List, [], ◌∷◌, map, None, Some, pos, get_or, true, false, ℤ, refl, arith}
use lib.Signed.{le_z_yes}
use Rattle.std.proofs.Math.Dec.{lit<}
use Rattle.fx_type.specs.declared.kind.FxType.{FxType}
use Rattle.fx_type.specs.declared.kind.FxType.TheVariants.{Num, Logical as Boolean}
use Rattle.dg_model.specs.declared.diagram.Diagram.{Diagram}
use Rattle.dg_model.specs.declared.diagram.Block.{Block}
use Rattle.dg_model.specs.declared.nested.Target.TheVariants.{Port, Enable}
use Rattle.dg_model.specs.declared.kind.Kind.TheVariants.{Inport, Outport, Constant, EnableTest, Delay, RateTransition, Sum, EnOut}
use Rattle.dg_model.specs.Signals.{Attributes, Stimulus}
use Rattle.fx_type.specs.FxType.{InRange}
use Rattle.std.specs.Prelude.{slice_get}
use Rattle.std.proofs.lemmas.Option.{none-some}
use Rattle.dg_model.specs.Hits.{Hits}
use Rattle.dg_model.specs.Solves.{IsStimulus}
use Rattle.dg_model.specs.RootElements.{RootElement, root_inputs, root_outputs, column_of_stimulus, stimulus_of_columns}
use Rattle.dg_model.specs.LatencyEdges.{LatencyEdge, latency_edges}
use Rattle.dg_model.specs.Instant.{is_instant}
use Rattle.dg_model.proofs.Examples.{int8, block_of, edge_of, decimal_of}

abbrev no_list : List Rattle.fx_type.specs.declared.decimal.Decimal.Decimal
no_list = decimal_of 0 (lit< tt) ∷ []

-- port 2 of two elements, port 1, a control with its test, and in its subsystem a Delay, a Constant, a Sum and an output port; a slow and a fast transition; the outputs 2 and 1
abbrev diagram : Diagram
diagram = record {
  blocks = block_of (Inport 2 2) 0 1 None ∷ block_of (Inport 1 0) 0 1 None ∷ block_of EnableTest 1 1 None ∷ block_of (Delay 1 no_list false) 1 1 (Some 2) ∷ block_of (Constant no_list) 0 1 (Some 2)
      ∷ block_of (Sum (false ∷ false ∷ []) Internal) 2 1 (Some 2) ∷ block_of (EnOut false no_list) 1 1 (Some 2) ∷ block_of (RateTransition (decimal_of 2 (lit< tt)) no_list) 1 1 None
      ∷ block_of (RateTransition (decimal_of 1 (lit< tt)) no_list) 1 1 None ∷ block_of (Outport 2) 1 0 None ∷ block_of (Outport 1) 1 0 None ∷ block_of (Delay 2 no_list false) 1 1 None ∷ [];
  edges = edge_of 1 1 2 1 ∷ edge_of 5 1 3 1 ∷ edge_of 3 1 5 1 ∷ edge_of 4 1 5 2 ∷ edge_of 5 1 6 1 ∷ edge_of 6 1 7 1 ∷ edge_of 7 1 8 1 ∷ edge_of 8 1 9 1 ∷ edge_of 0 1 10 1 ∷ edge_of 0 1 11 1 ∷ [];
}

abbrev unsigned : FxType
unsigned = Num false 4 (pos 0)

abbrev attributes : Attributes
attributes = record {
  width_at = λ block port. get_or (2 ∷ 1 ∷ 1 ∷ 1 ∷ 1 ∷ 1 ∷ 1 ∷ 1 ∷ 1 ∷ 0 ∷ 0 ∷ 2 ∷ []) block 0;
  type_at = λ block port. get_or (unsigned ∷ int8 ∷ Boolean ∷ int8 ∷ int8 ∷ int8 ∷ int8 ∷ int8 ∷ int8 ∷ int8 ∷ unsigned ∷ unsigned ∷ []) block int8;
  param_at = λ block. int8;
  period_at = λ block. get_or (Some 2 ∷ Some 1 ∷ Some 1 ∷ Some 1 ∷ None ∷ Some 1 ∷ Some 1 ∷ Some 2 ∷ Some 1 ∷ Some 1 ∷ Some 2 ∷ Some 2 ∷ []) block None;
}

abbrev element_of : ℕ → ℕ → ℕ → FxType → ℕ → RootElement
element_of number block element type period = record { number = number; block = block; element = element; type = type; period = Some period }

inputs : root_inputs diagram attributes ≡ element_of 1 1 0 int8 1 ∷ element_of 2 0 0 unsigned 2 ∷ element_of 2 0 1 unsigned 2 ∷ []
inputs = refl

outputs : root_outputs diagram attributes ≡ element_of 1 10 0 unsigned 2 ∷ element_of 1 10 1 unsigned 2 ∷ element_of 2 9 0 int8 1 ∷ []
outputs = refl

-- ---- edges

abbrev line : ℕ → ℕ → ℕ → ℕ → LatencyEdge
line from from_port to to_port = record { from = from; from_port = from_port; to = to; target = Port to_port }

abbrev enabling : ℕ → ℕ → LatencyEdge
enabling from to = record { from = from; from_port = 1; to = to; target = Enable }

-- the enable edges stand behind the lines: to the Delay and the output port, in file order
edges : latency_edges diagram ≡ line 1 1 2 1 ∷ line 5 1 3 1 ∷ line 3 1 5 1 ∷ line 4 1 5 2 ∷ line 5 1 6 1
    ∷ line 6 1 7 1 ∷ line 7 1 8 1 ∷ line 8 1 9 1 ∷ line 0 1 10 1 ∷ line 0 1 11 1 ∷ enabling 2 3 ∷ enabling 2 6 ∷ []
edges = refl

-- all are instant but those into the Delays, the one from slow to fast, and the enable of a Delay
instant : map (is_instant diagram attributes) (latency_edges diagram) ≡ true ∷ false ∷ true ∷ true ∷ true ∷ true ∷ false ∷ true ∷ true ∷ false ∷ false ∷ true ∷ []
instant = refl

-- ---- stimuli

-- columns of the three root input elements
abbrev columns : ℕ → ℕ → ℤ
columns place t = get_or (get_or ((pos 1 ∷ pos 2 ∷ pos 3 ∷ []) ∷ (pos 4 ∷ pos 99 ∷ pos 5 ∷ []) ∷ (pos 15 ∷ pos 99 ∷ pos 0 ∷ []) ∷ []) place []) t (pos 0)

abbrev stimulus : Stimulus
stimulus = stimulus_of_columns (root_inputs diagram attributes) columns

by_port : (stimulus 1 0 1 ≡ pos 2) × (stimulus 2 0 0 ≡ pos 4) × (stimulus 2 1 2 ≡ pos 0) × (column_of_stimulus (root_inputs diagram attributes) stimulus 2 0 ≡ pos 15)
by_port = (refl, refl, refl, refl)

-- one input of two elements at period 2
abbrev single : Diagram
single = record { blocks = block_of (Inport 1 2) 0 1 None ∷ []; edges = [] }

abbrev of_single : ℕ → ℕ → ℤ
of_single element t = get_or (get_or ((pos 15 ∷ pos 0 ∷ []) ∷ (pos 99 ∷ pos 99 ∷ []) ∷ (pos 4 ∷ pos 5 ∷ []) ∷ []) t []) element (pos 0)

in_four_bits : (element t : ℕ) → element < 2 → t < 3 → Hits (Some 2) t → InRange unsigned (of_single element t)
in_four_bits zero zero inside below hit = record { low = le_z_yes tt; high = le_z_yes tt }
in_four_bits (suc zero) zero inside below hit = record { low = le_z_yes tt; high = le_z_yes tt }
in_four_bits element (suc zero) inside below hit = absurd (omega (arith, hit))
in_four_bits zero (suc (suc zero)) inside below hit = record { low = le_z_yes tt; high = le_z_yes tt }
in_four_bits (suc zero) (suc (suc zero)) inside below hit = record { low = le_z_yes tt; high = le_z_yes tt }
in_four_bits element (suc (suc (suc t))) inside below hit = absurd (omega (arith, below))
in_four_bits (suc (suc element)) t inside below hit = absurd (omega (arith, inside))

single_given : (block : ℕ) (b : Block) (number element t : ℕ) → slice_get single.blocks block ≡ Some b
    → element < attributes.width_at block 1 → t < 3 → Hits (attributes.period_at block) t
    → InRange (attributes.type_at block 1) (of_single element t)
single_given zero b number element t at inside below hit = in_four_bits element t inside below hit
single_given (suc block) b number element t at inside below hit = absurd (none-some b at)

-- a number out of range off a hit is no fault
in_range : IsStimulus single attributes (λ number element t. of_single element t) 3
in_range = record { in_range = λ block b number element t at is inside below hit. single_given block b number element t at inside below hit }

-- at a hit it is: 16 has five bits
not_in_range : ¬ IsStimulus single attributes (λ number element t. pos 16) 1
not_in_range is = absurd (is.in_range 0 (block_of (Inport 1 2) 0 1 None) 1 1 0 refl refl (lit< tt) (lit< tt) refl).high.le
