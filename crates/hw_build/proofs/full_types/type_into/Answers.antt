use Rattle.std.proofs.Common.{Option, ap, sym, ◌∙◌}
use Rattle.dg_model.specs.declared.diagram.Edge.{Edge}
use Rattle.fx_type.specs.declared.kind.FxType.TheVariants.{Logical}
use Rattle.dg_model.specs.Attributes.{attributes_of}
use Rattle.dg_model.specs.Wires.{at_source}
use Rattle.hw_sched.proofs.Widths.{driver_there}
use Rattle.hw_build.proofs.full_types.type_into.Goals as goal

pub result-requires : goal.result-requires
result-requires c = driver_there c.args.checked.now.diagram c.keeps_rules.ensures.checked c.args.block c.args.port c.line_into.result (sym c.line_into.ensures)

pub returns : goal.returns
returns c = c.result.ensures c.line_into.result.from_port ∙ sym (ap (λ (o : Option Edge). at_source o Logical (attributes_of c.args.checked.now.diagram).type_at) c.line_into.ensures)
