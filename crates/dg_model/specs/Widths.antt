-- How wide the signals of a diagram are, by rounds (Simulink reference, signal dimensions; the
-- rounds and the cut are own).
use Rattle.std.specs.Prelude.{ℕ, ◌+◌, ◌-◌, ◌/◌, ◌%◌, ◌==◌, min, max, nat_lt, sum, Bool, if◌then◌else◌, List, [], ◌∷◌, length, map, Option, Some, None, slice_get, slice_index_or}
use Rattle.std.specs.List.{list_all}
use Rattle.dg_waves.specs.Rounds.{after_rounds}
use Rattle.math_list.specs.Numbers.{numbers_from}
use Rattle.dg_model.specs.declared.diagram.Diagram.{Diagram}
use Rattle.dg_model.specs.declared.diagram.Block.{Block}
use Rattle.dg_model.specs.declared.kind.Kind.{Kind}
use Rattle.dg_model.specs.KindRow.{Shape}
use Rattle.dg_model.specs.Library.{row_of}
use Rattle.dg_model.specs.Wires.{edges_into}
use Rattle.math_list.specs.Numbers.{greatest}

-- the widths at the output ports of each block; a block without an output port has its own width at
-- port 1
abbrev pub Widths : Type 0
Widths = List (List ℕ)

-- the width at an output port of a block
abbrev pub width_at : Widths → ℕ → ℕ → ℕ
width_at widths block port = slice_index_or (slice_index_or widths block []) (port - 1) 0

-- the widths of a block's inputs
abbrev pub input_widths : Diagram → Widths → ℕ → List ℕ
input_widths diagram widths block =
    map (λ edge. width_at widths edge.from edge.from_port) (edges_into diagram block)

-- no size is fixed
abbrev pub are_open : List ℕ → Bool
are_open sizes = list_all (λ size. size == 0) sizes

-- the part of a width at one of n ports, each at least 1 and the first ones greater by one where it
-- can't be shared evenly
abbrev pub share : ℕ → ℕ → ℕ → ℕ
share width n k = if nat_lt k (width % n) then width / n + 1 else max 1 (width / n)

-- the greatest length of a kind's list parameters
abbrev pub list_length : Kind → ℕ
list_length kind = greatest (map length (row_of kind).signal.lists)

-- what the output ports take, from the greatest length of the block's lists, its own width and
-- those of its inputs
abbrev pub taken : Shape → ℕ → ℕ → List ℕ → List ℕ
taken Shape.Elementwise lists own inputs = max own (max (greatest inputs) lists) ∷ []
taken (Shape.Joined sizes) lists own inputs = sum inputs ∷ []
taken (Shape.Parted sizes) lists own inputs =
    if are_open sizes
    then map (share (slice_index_or inputs 0 0) (length sizes)) (numbers_from 0 (length sizes))
    else sizes
taken Shape.Single lists own inputs = 1 ∷ []

-- the most that a width counts up to
abbrev pub most_width : ℕ
most_width = 1025

-- the widths of a block in the next round
abbrev pub next_of : Option Block → ℕ → List ℕ → List ℕ
next_of None own inputs = []
next_of (Some block) own inputs =
    map (min most_width)
    (taken (row_of block.kind).signal.shape (list_length block.kind) own inputs)

-- the widths of the block at a place after one more round
abbrev pub next_widths : Diagram → Widths → ℕ → List ℕ
next_widths diagram widths place =
    next_of (slice_get diagram.blocks place) (width_at widths place 1)
    (input_widths diagram widths place)

-- the widths before the first round
abbrev pub first_of : Shape → ℕ → List ℕ
first_of Shape.Elementwise declared = max 1 declared ∷ []
first_of (Shape.Joined sizes) declared = 1 ∷ []
first_of (Shape.Parted sizes) declared = map (λ size. 1) sizes
first_of Shape.Single declared = 1 ∷ []

-- the widths of all blocks before the first round
abbrev pub first_widths : Diagram → Widths
first_widths diagram =
    map (λ block. first_of (row_of block.kind).signal.shape (row_of block.kind).signal.width)
    diagram.blocks

-- the widths after so many rounds
abbrev pub widths_after : Diagram → ℕ → Widths
widths_after diagram rounds = after_rounds (next_widths diagram) rounds (first_widths diagram)

-- the widths of a diagram: those after as many rounds as it has blocks
abbrev pub widths_of : Diagram → Widths
widths_of diagram = widths_after diagram (length diagram.blocks)
