use Rattle.hw_rules.proofs.Multipliers.{count_more}
use Rattle.hw_rules.proofs.owing.multipliers.Goals as goal

pub loop-unit-preserved : goal.loop-unit-preserved
loop-unit-preserved c =
    count_more c.args.units.now c.loop-unit.unit-index c.loop-unit.count c.in_ok-total.field-0 c.max-count.result c.in_ok-total.ensures c.max-count.ensures c.loop-unit.invariant
