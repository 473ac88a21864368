use Rattle.std.proofs.Common.{◌≡◌, ℕ, List, length, ap, ◌∙◌, arith}
use Rattle.std.specs.List.{flat_map}
use Rattle.math_list.specs.Numbers.{numbers_from}
use Rattle.dg_model.specs.declared.diagram.Block.{Block}
use Rattle.dg_model.specs.declared.diagram.Diagram.{Diagram}
use Rattle.hw_rules.specs.Times.{timing_in}
use Rattle.cmd_check.specs.CheckText.{block_line}
use Rattle.cmd_check.proofs.PieceBytes.{adds_as, both}
use Rattle.cmd_check.proofs.PieceTexts.{next_number}
use Rattle.cmd_check.proofs.writing.put_blocks.Goals as goal

pub loop-place-preserved : goal.loop-place-preserved
loop-place-preserved g c =
    adds_as (next_number (block_line c.args.checked.now.diagram (timing_in c.args.planned.now.times)) 0
    c.loop-place.place c.loop-place.place (omega arith)) (both c.loop-place.invariant c.put_block.ensures)

pub returns : goal.returns
returns g c =
    let many = ap (λ (blocks : List Block). length blocks) (c.as_slice-place-end.ensures ∙ ap (λ (d : Diagram). d.blocks) c.diagram.ensures) in
    let low = c.loop-place.auto.place-end in
    let high = c.loop-place-test.false in
    let end : c.loop-place.place ≡ length c.args.checked.now.diagram.blocks = omega (arith, many, low, high) in
    adds_as (ap (λ (n : ℕ). flat_map (block_line c.args.checked.now.diagram (timing_in c.args.planned.now.times)) (numbers_from 0 n)) end) c.loop-place.invariant
