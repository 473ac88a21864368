use Rattle.hw_module.proofs.Whole.{refined-modules}
use Rattle.hw_module.proofs.laws.refined_modules_owe_nothing.Goals as goal

pub returns : goal.returns
returns c =
    refined-modules c.columns_are_a_stimulus.ensures.given c.root_elements_are_listed.ensures.inputs
    c.root_elements_are_listed.ensures.outputs c.periods_are_above.ensures.moving
    c.operations_are_served.ensures.served
    c.operations_are_served.ensures.periods c.slots_differ.ensures.slots c.ready_fits.ensures c.one_driver.ensures
