-- A flat diagram of sound blocks and lines that keep both rules is wired.
use Rattle.std.proofs.Common.{◌≡◌, cond, List, sym, ap, subst, ◌∙◌, arith}
use Rattle.std.specs.Prelude.{AllPairs}
use Rattle.std.specs.List.{filter_map}
use Rattle.std.specs.List.Sorted.{IsPermutation}
use Rattle.std.proofs.lemmas.List.Sorted.{All-permutation, sum_by-IsPermutation}
use Rattle.dg_model.specs.declared.diagram.Block.{Block}
use Rattle.dg_model.specs.declared.diagram.Diagram.{Diagram}
use Rattle.dg_model.specs.declared.diagram.Edge.{Edge}
use Rattle.dg_model.specs.declared.nested.Nested.{Nested}
use Rattle.dg_model.specs.declared.nested.NestedBlock.{NestedBlock}
use Rattle.dg_model.specs.declared.nested.NestedLine.{NestedLine}
use Rattle.dg_model.specs.Sound.{IsSound}
use Rattle.dg_model.specs.Wired.{IsWired, Joins, StandsBefore}
use Rattle.dg_model.specs.Wires.{enters}
use Rattle.dg_flat.specs.Flat.{IsFlatOf, flat_blocks, edge_of}
use Rattle.dg_flat.specs.Rules.{AllNestedKeep, KeepsWiring, KeepsEnable}
use Rattle.dg_flat.proofs.PortEdges.{flat_joins, flat_driven}
use Rattle.dg_flat.proofs.RootPorts.{flat_inports, flat_outports}
use Rattle.dg_flat.proofs.Standings.{flat_stands}
use Rattle.dg_flat.proofs.FlatParts.{flat_few, flat_readable, flat_controls}

pub flat_of : (nested : Nested) (blocks : List NestedBlock) (lines : List NestedLine) (flat : List Block)
    (edges : List Edge) → blocks ≡ nested.blocks → lines ≡ nested.lines → flat ≡ flat_blocks blocks →
    IsPermutation (filter_map (edge_of blocks) lines) edges → AllPairs StandsBefore edges → IsFlatOf nested (record { blocks = flat; edges = edges })
flat_of nested blocks lines flat edges same_blocks same_lines is same ordered = record {
  blocks = is ∙ ap flat_blocks same_blocks;
  edges = subst (λ (b : List NestedBlock). IsPermutation (filter_map (edge_of b) nested.lines) edges) same_blocks
      (subst (λ (l : List NestedLine). IsPermutation (filter_map (edge_of blocks) l) edges) same_lines same);
  ordered = ordered;
}

wired_as : (nested : Nested) (edges : List Edge) → IsSound nested → AllNestedKeep nested KeepsWiring
    → AllNestedKeep nested KeepsEnable
    → IsFlatOf nested (record { blocks = flat_blocks nested.blocks; edges = edges }) →
    IsWired (record { blocks = flat_blocks nested.blocks; edges = edges })
wired_as nested edges sound keep stand flat = record {
  size = omega (arith, flat_few nested.blocks, sound.size);
  edges = All-permutation (Joins (flat_blocks nested.blocks)) (filter_map (edge_of nested.blocks) nested.lines) edges flat.edges (flat_joins nested sound keep);
  driven = λ j port block at above within.
      sum_by-IsPermutation (λ edge. cond (enters j port edge) 1 0) (filter_map (edge_of nested.blocks) nested.lines) edges flat.edges
      ∙ flat_driven nested sound keep stand j port block at above within;
  ordered = flat.ordered;
  blocks = flat_readable nested sound;
  controls = flat_controls nested.blocks;
  enables = flat_stands nested sound stand;
  inports = flat_inports nested sound keep;
  outports = flat_outports nested sound keep;
}

pub wired : (nested : Nested) (diagram : Diagram) → IsSound nested → AllNestedKeep nested KeepsWiring → AllNestedKeep nested KeepsEnable → IsFlatOf nested diagram → IsWired diagram
wired nested diagram sound keep stand flat =
    let with_blocks : List Block → Diagram = λ blocks. record { blocks = blocks; edges = diagram.edges } in
    let same : diagram ≡ with_blocks (flat_blocks nested.blocks) = ap with_blocks flat.blocks in
    subst IsWired (sym same) (wired_as nested diagram.edges sound keep stand (subst (IsFlatOf nested) same flat))
