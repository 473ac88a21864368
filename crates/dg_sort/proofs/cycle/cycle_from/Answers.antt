use Rattle.std.proofs.Common.{arith}
use Rattle.dg_sort.proofs.CycleSearch.{walk_begins, walk_lower, walk_goes, walk_ends}
use Rattle.dg_sort.proofs.cycle.cycle_from.Goals as goal

pub loop-at-init : goal.loop-at-init
loop-at-init c = record {
  met = c.in_ok-at.ensures.steps;
  walked = rw (c.in_ok-push.ensures.appended, c.new-cycle.ensures) (walk_begins c.args.rows.now c.args.first c.in_ok-at.at c.steps_back.new.steps.items c.in_ok-at.ensures.found);
}

pub index-step-requires : goal.index-step-requires
index-step-requires c =
    let inside = c.loop-at.invariant.walked.inside in
    let long = c.steps_back.new.steps.ok.0 in
    omega (arith, inside, long)

pub loop-at-smaller : goal.loop-at-smaller
loop-at-smaller c =
    walk_lower c.args.rows.now c.args.first c.loop-at.at c.index-step.result.now c.steps_back.new.steps.items
    c.loop-at.cycle c.loop-at.invariant.met c.loop-at.invariant.walked c.loop-at-test.true c.index-step.ensures

pub loop-at-preserved : goal.loop-at-preserved
loop-at-preserved c = record {
  met = c.loop-at.invariant.met;
  walked = rw c.in_ok-push-2.ensures.appended
      (walk_goes c.args.rows.now c.args.first c.loop-at.at c.index-step.result.now c.steps_back.new.steps.items
      c.loop-at.cycle c.loop-at.invariant.met c.loop-at.invariant.walked c.loop-at-test.true
      c.index-step.ensures);
}

pub returns : goal.returns
returns c = walk_ends c.args.rows.now c.args.first c.loop-at.at c.steps_back.new.steps.items c.loop-at.cycle c.loop-at.invariant.met c.loop-at.invariant.walked c.loop-at-test.false
