use Rattle.std.proofs.Common.{Option, ap, sym, ◌∙◌}
use Rattle.fx_type.specs.declared.kind.FxType.TheVariants.{Logical}
use Rattle.dg_model.specs.declared.diagram.Edge.{Edge}
use Rattle.dg_model.specs.Attributes.{attributes_of}
use Rattle.dg_model.specs.Wires.{at_source}
use Rattle.dg_tables.proofs.Drivers.{source_within}
use Rattle.dg_tables.proofs.reading.type_of_input.Goals as goal

pub result-requires : goal.result-requires
result-requires c = source_within c.args.checked.now.diagram c.keeps_rules.ensures.checked c.args.block c.args.port c.in-Some.edge (sym c.in-Some.ensures)

pub returns-in-Some : goal.returns-in-Some
returns-in-Some c =
    c.result.ensures c.in-Some.edge.from_port ∙ ap (λ (o : Option Edge). at_source o Logical (attributes_of c.args.checked.now.diagram).type_at) c.in-Some.ensures
