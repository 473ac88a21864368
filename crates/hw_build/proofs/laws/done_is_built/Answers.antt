use Rattle.hw_build.proofs.Whole.{done_is_built}
use Rattle.hw_build.proofs.laws.done_is_built.Goals as goal

pub returns : goal.returns
returns c =
    done_is_built c.built_is_shown.ensures.shown c.built_is_shown.ensures.stages c.built_is_shown.ensures.served
    c.root_elements_are_listed.ensures.inputs c.operations_prepare.ensures.types
    c.edges_stand_by_port.ensures.widths
    c.schedules_are_timed.ensures c.operations_are_served.ensures.served c.ready_fits.ensures
