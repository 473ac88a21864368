use Rattle.std.proofs.Common.{arith}
use Rattle.dg_sort.specs.inner.Search.{seen}
use Rattle.dg_sort.proofs.SearchSteps.{root_state, root_kept, root_is}
use Rattle.dg_sort.proofs.search.Search.search_from.Goals as goal

pub loop-last-init : goal.loop-last-init
loop-last-init c =
    let size = c.requires.state.places.marked in
    let there = c.requires.there in
    record {
      state = root_state c.args.rows.now (seen c.args.self.now) (seen c.meet.new.self) c.args.root c.requires.state c.requires.free c.requires.there c.requires.unmet c.in_ok-meet.ensures;
      met = root_is c.args.rows.now (seen c.args.self.now) (seen c.meet.new.self) c.args.root (omega (arith, size, there)) c.in_ok-meet.ensures;
      unmet = λ block at. root_kept c.args.rows.now (seen c.args.self.now) (seen c.meet.new.self) c.args.root block c.in_ok-meet.ensures at;
    }

pub loop-last-preserved : goal.loop-last-preserved
loop-last-preserved c =
    let step = c.in_ok-step.ensures in
    record {
      state = step.state;
      met = λ at. c.loop-last.invariant.met (step.unmet c.args.root at);
      unmet = λ block at. c.loop-last.invariant.unmet block (step.unmet block at);
    }

pub loop-last-smaller : goal.loop-last-smaller
loop-last-smaller c = c.in_ok-step.ensures.less
