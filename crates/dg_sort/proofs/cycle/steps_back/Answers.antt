use Rattle.std.proofs.Common.{◌≡◌, ◌∷◌, [], false, length, replicate, ap, ◌∙◌, arith, rules}
use Rattle.std.proofs.lemmas.List.{length-append}
use Rattle.dg_sort.proofs.CycleSearch.{steps_begin_as, closed_none, few_steps, more_steps_left}
use Rattle.dg_sort.proofs.cycle.steps_back.Goals as goal

pub back-init : goal.back-init
back-init c =
    let are : c.in_ok-is_met.is_met.items ≡ replicate (length c.args.rows.now) false = search rules in
    record {
      steps = steps_begin_as c.args.rows.now c.args.first c.in_ok-is_met.is_met.items c.args.steps.now.items c.push.new.self.items c.requires.there are c.requires.none c.in_ok-push.ensures.items;
      inside =
          let size = ap length c.in_ok-push.ensures.items ∙ length-append c.args.steps.now.items (record { block = c.args.first; next = 0 } ∷ []) in
          omega (arith, size);
      closed = closed_none c.args.rows.now c.args.first c.push.new.self.items _;
    }

pub back-smaller : goal.back-smaller
back-smaller c =
    let few = few_steps c.args.rows.now c.args.first c.look.new.steps.items c.look.new.is_met.items c.in_ok-look.ensures.steps in
    let there = c.in_ok-look.ensures.there in
    omega (arith, few, there)

pub back-preserved : goal.back-preserved
back-preserved c =
    let closed = c.in_ok-look.ensures.closed c.if-branch.false in
    record {
      steps = c.in_ok-look.ensures.steps;
      inside = more_steps_left c.args.rows.now c.args.first c.back.at c.look.new.steps.items c.look.new.is_met.items c.in_ok-look.ensures.steps c.requires.on c.in_ok-look.ensures.there closed;
      closed = closed;
    }
