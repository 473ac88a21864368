-- The blocks and lines of a model in which each filter is taken apart (own).
use Rattle.std.specs.Prelude.{ℕ, ◌+◌, ◌==◌, List, [], ◌∷◌, ◌++◌, length, map, flat_map, zip, Option, Some, None, option_map, slice_index_or, if◌then◌else◌}
use Rattle.fx_type.specs.declared.decimal.Decimal.{Decimal}
use Rattle.dg_model.specs.declared.diagram.Block.{Block}
use Rattle.dg_model.specs.declared.diagram.Edge.{Edge}
use Rattle.dg_model.specs.declared.nested.NestedBlock.{NestedBlock}
use Rattle.dg_model.specs.declared.nested.NestedLine.{NestedLine}
use Rattle.dg_model.specs.declared.nested.Part.{Part}
use Rattle.dg_model.specs.declared.nested.Target.{Target}
use Rattle.fir_block.specs.declared.filter.Fir.{Fir}
use Rattle.fir_block.specs.declared.filter.FirBlock.{FirBlock}
use Rattle.fir_block.specs.Expanded.{blocks_of, lines_of}
use Rattle.mdl_build.specs.declared.expanding.DrawnBlock.{DrawnBlock}

-- ---- what a filter stands for

-- the part of a block of a filter, by its number among so many of them: the first is the Inport, the
-- last the Outport
abbrev pub inner_part : ℕ → ℕ → Block → Part
inner_part count number block =
    if number == 0 then Part.In block 1
    else (if number + 1 == count then Part.Out block 1 else Part.Plain block)

-- a block of a filter, which is the subsystem of this number, by its own number among so many
abbrev pub inner_block : ℕ → ℕ → ℕ → FirBlock → NestedBlock
inner_block place count number inner = record {
  name = inner.name;
  parent = Some place;
  part = inner_part count number inner.block;
}

-- these from a number on
abbrev pub inner_blocks : ℕ → ℕ → ℕ → List FirBlock → List NestedBlock
inner_blocks place count number [] = []
inner_blocks place count number (inner ∷ more) =
    inner_block place count number inner ∷ inner_blocks place count (number + 1) more

-- a line of a filter
abbrev pub inner_line : Edge → NestedLine
inner_line edge = record {
  from = edge.from;
  from_port = edge.from_port;
  to = edge.to;
  target = Target.Port edge.to_port;
}

-- the blocks behind the subsystem of this number; what a list gives past its end is of no account
abbrev pub filling : Decimal → ℕ → Option Fir → List NestedBlock
filling other place None = []
filling other place (Some fir) =
    inner_blocks place (length (blocks_of other fir)) 0 (blocks_of other fir)

-- the lines between them
abbrev pub filling_lines : ℕ → Option Fir → List NestedLine
filling_lines place None = []
filling_lines place (Some fir) =
    map inner_line (lines_of (place + 1) (length fir.coefficients))

-- ---- the whole model

-- the number in place of that as it is drawn
abbrev pub moved : List ℕ → ℕ → ℕ
moved numbers number = slice_index_or numbers number 0

-- a block whose subsystem has its number
abbrev pub moved_block : List ℕ → NestedBlock → NestedBlock
moved_block numbers block = record block { parent = option_map (moved numbers) block.parent }

-- a block with what it stands for
abbrev pub with_filling : Decimal → List ℕ → ℕ × DrawnBlock → List NestedBlock
with_filling other numbers entry =
    moved_block numbers entry.1.block ∷ filling other entry.0 entry.1.filter

-- all blocks, each of which has its number
abbrev pub expanded_blocks : Decimal → List ℕ → List DrawnBlock → List NestedBlock
expanded_blocks other numbers drawn = flat_map (with_filling other numbers) (zip numbers drawn)

-- a line between the same blocks
abbrev pub moved_line : List ℕ → NestedLine → NestedLine
moved_line numbers line =
    record line { from = moved numbers line.from; to = moved numbers line.to }

-- all lines
abbrev pub expanded_lines : List ℕ → List DrawnBlock → List NestedLine → List NestedLine
expanded_lines numbers drawn lines =
    map (moved_line numbers) lines
    ++ flat_map (λ entry. filling_lines entry.0 entry.1.filter) (zip numbers drawn)
