use Rattle.vl_write.proofs.Puts.{none-put, puts-as, range-more, range-one}
use Rattle.vl_write.proofs.parts.put_range.Goals as goal

pub returns-then-width-eq1 : goal.returns-then-width-eq1
returns-then-width-eq1 c = puts-as (range-one c.args.width c.if-width-eq1.true) (none-put c.args.out.now)

pub returns : goal.returns
returns c = puts-as (range-more c.args.width c.saturating_sub.result c.if-width-eq1.false c.saturating_sub.ensures) c.put_between.ensures
