use Rattle.std.proofs.Common.{ap, ◌∙◌, min, arith}
use Rattle.hw_slots.proofs.Totals.{first_more, firsts_more}
use Rattle.hw_slots.proofs.firsts.firsts_of.Goals as goal

pub loop-kind-preserved : goal.loop-kind-preserved
loop-kind-preserved c = record {
  firsts = firsts_more c.args.most.now c.loop-kind.firsts c.put.new.self c.args.multipliers c.loop-kind.kind
      c.loop-kind.first c.loop-kind.invariant.first c.in_ok-put.ensures c.loop-kind.invariant.firsts;
  first = first_more c.args.most.now c.args.multipliers c.loop-kind.kind c.loop-kind.first c.min-units.result
      c.in_ok-first.first c.loop-kind.invariant.first
      (c.min-units.ensures ∙ ap (min c.args.multipliers) c.get.ensures)
      (let h = c.in_ok-first.ensures in omega (arith, h));
}
