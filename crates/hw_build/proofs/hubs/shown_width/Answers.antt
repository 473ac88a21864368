use Rattle.std.proofs.Common.{sym, ◌∙◌}
use Rattle.hw_build.proofs.HubSteps.{width_there}
use Rattle.hw_build.proofs.hubs.shown_width.Goals as goal

pub width-requires-clause-there : goal.width-requires-clause-there
width-requires-clause-there c = width_there c.args.checked.now.diagram c.args.block c.args.port c.args.one.now
    c.keeps_rules.ensures.checked c.requires.is c.requires.from c.requires.to
    (sym c.is_output.ensures ∙ c.if-is_output.false)
