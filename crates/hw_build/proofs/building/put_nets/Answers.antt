use Rattle.std.proofs.Common.{refl, ◌∙◌}
use Rattle.std.proofs.lemmas.Result.{on_ok_weaker}
use Rattle.hw_build.specs.inner.BuildSteps.{empty_circuit}
use Rattle.hw_build.specs.inner.DesignTimes.{times_for}
use Rattle.hw_build.proofs.StepNeeds.{words_stand, steps_begin, steps_set, steps_fill}
use Rattle.hw_build.proofs.StepsTogether.{inputs_begin}
use Rattle.hw_build.proofs.building.put_nets.Goals as goal

pub put_lines-requires-clause-designed : goal.put_lines-requires-clause-designed
put_lines-requires-clause-designed c = c.requires.can.designed

pub put_lines-requires-clause-cycles : goal.put_lines-requires-clause-cycles
put_lines-requires-clause-cycles c = c.requires.hubs.extends.cycles

pub put_lines-requires-clause-inputs : goal.put_lines-requires-clause-inputs
put_lines-requires-clause-inputs c = inputs_begin c.args.ends.design.checked.now.diagram (empty_circuit c.args.ends.design.plan.now.cycles) c.args.net.now c.args.ends.hubs.now c.requires.hubs refl

pub put_lines-requires-clause-hubs : goal.put_lines-requires-clause-hubs
put_lines-requires-clause-hubs c = (empty_circuit c.args.ends.design.plan.now.cycles, c.requires.hubs)

pub products_of-requires-clause-can : goal.products_of-requires-clause-can
products_of-requires-clause-can c = c.requires.can

pub products_of-requires-clause-cycles : goal.products_of-requires-clause-cycles
products_of-requires-clause-cycles c = c.in_ok-operands.ensures.extends.cycles ∙ c.requires.hubs.extends.cycles

pub products_of-requires-clause-words : goal.products_of-requires-clause-words
products_of-requires-clause-words c =
    words_stand c.args.ends.design.checked.now.diagram c.args.ends.design.plan.now
    (times_for c.args.ends.design) c.args.net.now c.put_lines.new.net c.args.ends.hubs.now
    c.in_ok-operands.operands c.keeps_rules.ensures.checked c.edges_stand_by_port.ensures.widths
    c.columns_are_a_stimulus.ensures.kept c.in_ok-operands.ensures

pub put_elements-put-requires-clause-set : goal.put_elements-put-requires-clause-set
put_elements-put-requires-clause-set c = steps_set _ (empty_circuit c.args.ends.design.plan.now.cycles) c.args.net.now c.requires.can.designed c.requires.hubs c.in-Ok.ensures.which

pub put_elements-put-requires-clause-begun : goal.put_elements-put-requires-clause-begun
put_elements-put-requires-clause-begun c =
    steps_begin _ (empty_circuit c.args.ends.design.plan.now.cycles) c.args.net.now c.put_lines.new.net
    c.products_of.new.net c.keeps_rules.ensures.checked c.keeps_rules.ensures.ordered
    c.columns_are_a_stimulus.ensures.kept refl c.requires.hubs c.in_ok-operands.ensures c.in-Ok.ensures.adds

pub returns : goal.returns
returns c =
    on_ok_weaker c.put_elements-put.result
    (λ has. steps_fill _ (empty_circuit c.args.ends.design.plan.now.cycles) c.args.net.now
    c.put_elements-put.new.net has.0 (steps_set _
    (empty_circuit c.args.ends.design.plan.now.cycles) c.args.net.now c.requires.can.designed
    c.requires.hubs c.in-Ok.ensures.which)
    (record { checked = c.keeps_rules.ensures.checked; ordered = c.keeps_rules.ensures.ordered })
    c.root_elements_are_listed.ensures.inputs c.root_elements_are_listed.ensures.outputs c.requires.hubs has.1)
    c.put_elements-put.ensures
