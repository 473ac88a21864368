use Rattle.dg_tables.proofs.Runnable.{checked_prepares, checked_valid, checked_fit}
use Rattle.dg_tables.proofs.laws.operations_prepare.Goals as goal

pub returns-clause-operations : goal.returns-clause-operations
returns-clause-operations c =
    checked_prepares c.each_is_one.ensures.storing c.each_is_one.ensures.at_most c.each_is_one.ensures.exactly
    c.each_is_one.ensures.sum c.each_is_one.ensures.product c.each_is_one.ensures.union c.each_is_one.ensures.param

pub returns-clause-types : goal.returns-clause-types
returns-clause-types c =
    checked_valid c.each_is_one.ensures.storing c.each_is_one.ensures.at_most c.each_is_one.ensures.exactly
    c.each_is_one.ensures.sum c.each_is_one.ensures.product c.each_is_one.ensures.union c.each_is_one.ensures.param

pub returns-clause-fit : goal.returns-clause-fit
returns-clause-fit c =
    checked_fit c.each_is_one.ensures.storing c.each_is_one.ensures.at_most c.each_is_one.ensures.exactly
    c.each_is_one.ensures.sum c.each_is_one.ensures.product c.each_is_one.ensures.union c.each_is_one.ensures.param
