use Rattle.std.proofs.Common.{ap, ◌∙◌}
use Rattle.std.specs.Prelude.{Option}
use Rattle.fx_type.specs.declared.kind.FxType.TheVariants.{Logical}
use Rattle.dg_model.specs.declared.diagram.Edge.{Edge}
use Rattle.dg_model.specs.Attributes.{attributes_of}
use Rattle.dg_model.specs.Wires.{at_source}
use Rattle.hw_sched.proofs.Widths.{driver_there}
use Rattle.hw_sched.proofs.drivers.type_into.Goals as goal

pub result-requires : goal.result-requires
result-requires c = driver_there c.args.checked.now.diagram c.keeps_rules.ensures.checked c.args.place c.args.port c.in-Some.line c.in-Some.ensures

pub returns-in-Some : goal.returns-in-Some
returns-in-Some c = c.result.ensures 0 ∙ ap (λ (line : Option Edge). at_source line Logical (attributes_of c.args.checked.now.diagram).type_at) c.in-Some.ensures
