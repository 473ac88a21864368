use Rattle.dg_tables.proofs.Runnable.{checked_tables_one}
use Rattle.dg_tables.proofs.laws.tables_are_one.Goals as goal

pub returns : goal.returns
returns c =
    checked_tables_one c.each_is_one.ensures.storing c.each_is_one.ensures.at_most c.each_is_one.ensures.exactly
    c.each_is_one.ensures.sum c.each_is_one.ensures.product c.each_is_one.ensures.union c.each_is_one.ensures.param
