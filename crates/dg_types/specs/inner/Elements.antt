-- The elements that the code counts (own).
use Rattle.std.specs.Prelude.{ℕ, ◌*◌, ◌==◌, sum, if◌then◌else◌, List, map, slice_index_or}
use Rattle.std.specs.List.{enumerate_from}
use Rattle.dg_model.specs.declared.diagram.Block.{Block}
use Rattle.dg_model.specs.declared.diagram.Edge.{Edge}
use Rattle.dg_model.specs.declared.kind.Kind.{Kind}
use Rattle.dg_model.specs.Library.{row_of}
use Rattle.dg_model.specs.Dimension.{elements_out}
use Rattle.dg_model.specs.Widths.{Widths, width_at}

-- how many samples a block keeps of each element
abbrev pub delay_length : Kind → ℕ
delay_length kind = (row_of kind).timing.delay

-- the elements of a block's outputs, and those that it delays, from its row of widths
abbrev pub elements_of : Block → List ℕ → ℕ
elements_of block row = if block.outputs == 0 then 0 else sum row

abbrev pub delayed : Block → List ℕ → ℕ
delayed block row = delay_length block.kind * slice_index_or row 0 0

-- these of all blocks from a place on, and those of all inputs
abbrev pub outputs_from : Widths → ℕ → List Block → ℕ
outputs_from widths place blocks =
    sum (map (λ (place, block). elements_out widths place block) (enumerate_from place blocks))

abbrev pub delays_from : Widths → ℕ → List Block → ℕ
delays_from widths place blocks =
    sum (map (λ (place, block). (row_of block.kind).timing.delay * width_at widths place 1)
    (enumerate_from place blocks))

abbrev pub inputs_of : Widths → List Edge → ℕ
inputs_of widths edges = sum (map (λ edge. width_at widths edge.from edge.from_port) edges)
