use Rattle.std.proofs.Common.{rules, ◌≡◌, List, length, ap, sym, ◌∙◌, subst, arith}
use Rattle.dg_model.specs.declared.diagram.Diagram.{Diagram}
use Rattle.dg_model.specs.declared.diagram.Block.{Block}
use Rattle.hw_build.specs.declared.operands.Span.{Span}
use Rattle.hw_build.specs.inner.DesignTimes.{times_for}
use Rattle.hw_build.specs.inner.EndAsks.{AreEndsFor, IsSpan, controls_left}
use Rattle.hw_build.proofs.AllEnds.{control_longer, controls_more, controls_end}
use Rattle.math_list.proofs.Places.{get_some}
use Rattle.hw_build.proofs.gathering.gather_controls.Goals as goal

size_of : (slice : List Block) (same diagram : Diagram) → slice ≡ same.blocks → ◌≡◌ {A = Diagram} same diagram → length slice ≡ length diagram.blocks
size_of slice same diagram at is = ap (λ (bs : List Block). length bs) (at ∙ ap (λ (d : Diagram). d.blocks) is)

pub loop-block-init : goal.loop-block-init
loop-block-init c =
    λ lines lined are. subst (λ (xs : List Span). AreEndsFor c.args.ends.design.checked.now.diagram
    c.args.ends.design.plan.now (times_for c.args.ends.design) c.args.ends.hubs.now c.args.asks.now lines xs
    lined 0 (controls_left c.args.ends.design.checked.now.diagram 0)) (sym c.requires.controls) are

pub overflow_cast-block : goal.overflow_cast-block
overflow_cast-block c =
    let size = size_of c.as_slice-count.result.now c.diagram.result.now c.args.ends.design.checked.now.diagram c.as_slice-count.ensures c.diagram.ensures in
    record { fits = omega (arith, size, c.loop-block-test.true, c.requires.can.designed.scheduled.checked.wired.size) }

pub control_end-requires-clause-there : goal.control_end-requires-clause-there
control_end-requires-clause-there c =
    let size = size_of c.as_slice-count.result.now c.diagram.result.now c.args.ends.design.checked.now.diagram c.as_slice-count.ensures c.diagram.ensures in
    omega (arith, c.loop-block-test.true, size)

pub put_span-requires : goal.put_span-requires
put_span-requires c =
    let size = size_of c.as_slice-count.result.now c.diagram.result.now c.args.ends.design.checked.now.diagram c.as_slice-count.ensures c.diagram.ensures in
    let b = get_some c.args.ends.design.checked.now.diagram.blocks c.loop-block.block (omega (arith, c.loop-block-test.true, size)) in
    let before : c.len-first.result ≡ length c.loop-block.asks.list.items = search rules in
    let behind : c.len.result ≡ length c.control_end.new.asks.list.items = search rules in
    let longer = control_longer c.args.ends.design.checked.now.diagram c.args.ends.design.plan.now
    (times_for c.args.ends.design) c.args.ends.hubs.now c.loop-block.asks c.control_end.new.asks
    c.loop-block.block b.0 b.1 c.in_ok-control_end.ensures in
    omega (arith, before, behind, longer)

pub loop-block-preserved : goal.loop-block-preserved
loop-block-preserved c =
    let size = size_of c.as_slice-count.result.now c.diagram.result.now c.args.ends.design.checked.now.diagram c.as_slice-count.ensures c.diagram.ensures in
    let b = get_some c.args.ends.design.checked.now.diagram.blocks c.loop-block.block (omega (arith, c.loop-block-test.true, size)) in
    let before : c.len-first.result ≡ length c.loop-block.asks.list.items = search rules in
    let behind : c.len.result ≡ length c.control_end.new.asks.list.items = search rules in
    let put = c.in_ok-put_span.ensures in
    let span : IsSpan (length c.loop-block.asks.list.items) (length c.control_end.new.asks.list.items) put.0 = rw (before, behind) at put.1.0 in
    λ lines lined are.
    rw put.1.1 (controls_more c.args.ends.design.checked.now.diagram c.args.ends.design.plan.now
    (times_for c.args.ends.design) c.args.ends.hubs.now c.loop-block.asks c.control_end.new.asks lines
    c.loop-block.controls put.0 lined c.loop-block.block b.0 b.1
    (c.loop-block.invariant lines lined are) span c.in_ok-control_end.ensures)

pub returns : goal.returns
returns c =
    let size = size_of c.as_slice-count.result.now c.diagram.result.now c.args.ends.design.checked.now.diagram c.as_slice-count.ensures c.diagram.ensures in
    let here : c.loop-block.block ≡ length c.args.ends.design.checked.now.diagram.blocks =
    (let low = c.loop-block.auto.block-end in let high =
    c.loop-block-test.false in omega (arith, low, high, size)) in
    λ lines lined are. controls_end c.args.ends.design.checked.now.diagram c.args.ends.design.plan.now
    (times_for c.args.ends.design) c.args.ends.hubs.now c.loop-block.asks lines c.loop-block.controls lined
    c.loop-block.block here (c.loop-block.invariant lines lined are)
