use Rattle.dg_tables.proofs.Runnable.{checked_in_range}
use Rattle.dg_tables.proofs.laws.solved_is_in_range.Goals as goal

pub returns : goal.returns
returns c =
    checked_in_range c.each_is_one.ensures.storing c.each_is_one.ensures.at_most c.each_is_one.ensures.exactly
    c.each_is_one.ensures.sum c.each_is_one.ensures.product c.each_is_one.ensures.union c.each_is_one.ensures.param
