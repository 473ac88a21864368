use Rattle.std.proofs.Common.{List, length, ap, ◌∙◌, arith}
use Rattle.dg_model.specs.declared.diagram.Block.{Block}
use Rattle.dg_model.specs.declared.diagram.Diagram.{Diagram}
use Rattle.dg_model.specs.Attributes.{attributes_of}
use Rattle.hw_sched.specs.inner.Counts.{results_at}
use Rattle.hw_sched.proofs.RegisterCounts.{blocks_all, both_more, kept_at}
use Rattle.hw_sched.proofs.block_registers.blocks_in_all.Goals as goal

pub loop-place-preserved : goal.loop-place-preserved
loop-place-preserved c =
    let diagram = c.args.checked.now.diagram in
    both_more (kept_at diagram (attributes_of diagram) c.args.plan.now)
    (results_at diagram (attributes_of diagram) c.args.plan.now) c.loop-place.all
    c.registers_at-registers.result c.from.result c.saturating_add.result c.saturating_add-all.result
    c.loop-place.place
    c.registers_at-registers.ensures (c.from.ensures ∙ c.results_at-results.ensures) c.saturating_add.ensures c.saturating_add-all.ensures c.loop-place.invariant

pub returns : goal.returns
returns c =
    let many = ap (λ (blocks : List Block). length blocks) (c.as_slice-blocks.ensures ∙ ap (λ (d : Diagram). d.blocks) c.diagram.ensures) in
    let low = c.loop-place.auto.place-end in
    let high = c.loop-place-test.false in
    blocks_all c.args.checked.now.diagram (attributes_of c.args.checked.now.diagram) c.args.plan.now c.loop-place.all c.loop-place.place (omega (arith, many, low, high)) c.loop-place.invariant
