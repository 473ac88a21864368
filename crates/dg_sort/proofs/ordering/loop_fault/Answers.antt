use Rattle.std.proofs.Common.{◌≡◌, ℕ, ◌<◌, List, Some, length, refl, ap, sym, subst, ◌∙◌}
use Rattle.std.specs.Prelude.{slice_get}
use Rattle.dg_model.specs.declared.diagram.Block.{Block}
use Rattle.dg_model.specs.declared.diagram.Diagram.{Diagram}
use Rattle.dg_model.specs.declared.fault.Shown.TheVariants.{Cycle}
use Rattle.dg_model.specs.declared.rule.Rule.{Rule}
use Rattle.dg_model.specs.Faults.{fault_of, path_of}
use Rattle.dg_sort.proofs.EdgeRows.{block_read}
use Rattle.dg_sort.proofs.ordering.loop_fault.Goals as goal

path_is : (diagram : Diagram) (place : ℕ) (block : Block) → slice_get diagram.blocks place ≡ Some block → block.path ≡ path_of diagram place
path_is diagram place block at = rw at refl

pub returns : goal.returns
returns c =
    let diagram = c.args.diagram.now in
    let block = c.index-as_slice-first.result in
    let inside = subst (λ (blocks : List Block). c.args.first < length blocks) (sym c.as_slice.ensures) c.requires in
    let at = block_read diagram c.as_slice.result.now c.args.first block c.as_slice.ensures inside c.index-as_slice-first.is in
    ap (λ (path : List ℕ). fault_of Rule.Loop path (Cycle c.args.blocks)) (c.in_ok-place.ensures ∙ path_is diagram c.args.first block at)
