use Rattle.hw_shows.proofs.Designs.{built_is_shown, stages_are_shown, operands_are_served}
use Rattle.hw_shows.proofs.laws.built_is_shown.Goals as goal

pub returns-clause-shown : goal.returns-clause-shown
returns-clause-shown c =
    built_is_shown c.each_is_one.ensures.storing c.each_is_one.ensures.at_most c.register_is_closed.ensures c.enabled_register_is_closed.ensures
    c.each_is_one.ensures.sum c.each_is_one.ensures.product c.each_is_one.ensures.union c.each_is_one.ensures.param

pub returns-clause-stages : goal.returns-clause-stages
returns-clause-stages c =
    stages_are_shown c.each_is_one.ensures.storing c.each_is_one.ensures.at_most c.register_is_closed.ensures c.enabled_register_is_closed.ensures
    c.each_is_one.ensures.sum c.each_is_one.ensures.product c.each_is_one.ensures.union c.each_is_one.ensures.param

pub returns-clause-served : goal.returns-clause-served
returns-clause-served c =
    operands_are_served c.each_is_one.ensures.storing c.each_is_one.ensures.at_most c.register_is_closed.ensures c.enabled_register_is_closed.ensures
    c.each_is_one.ensures.sum c.each_is_one.ensures.product c.each_is_one.ensures.union c.each_is_one.ensures.param
