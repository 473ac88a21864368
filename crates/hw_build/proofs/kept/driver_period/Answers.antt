use Rattle.std.proofs.Common.{Option, None, sym, ap, ◌∙◌}
use Rattle.dg_model.specs.declared.diagram.Edge.{Edge}
use Rattle.dg_model.specs.Attributes.{attributes_of}
use Rattle.dg_model.specs.Wires.{at_source}
use Rattle.hw_build.specs.inner.Operands.{line_number}
use Rattle.hw_build.proofs.LineSearch.{driver_number}
use Rattle.hw_build.proofs.Parameters.{source_there}
use Rattle.hw_build.proofs.kept.driver_period.Goals as goal

pub period-requires : goal.period-requires
period-requires c =
    let wired = c.keeps_rules.ensures.checked.wired in
    let at = (driver_number c.args.checked.now.diagram c.args.block 1 c.line_into-line.result wired c.line_into-line.ensures).0 in
    source_there c.args.checked.now.diagram (line_number c.args.checked.now.diagram c.args.block 1) c.line_into-line.result c.keeps_rules.ensures.checked at

pub returns : goal.returns
returns c = c.period.ensures ∙ sym (ap (λ (o : Option Edge). at_source o None (λ from port. (attributes_of c.args.checked.now.diagram).period_at from)) c.line_into-line.ensures)
