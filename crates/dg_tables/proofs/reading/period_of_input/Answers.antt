use Rattle.std.proofs.Common.{Option, None, ℕ, ap, sym, ◌∙◌}
use Rattle.dg_model.specs.declared.diagram.Edge.{Edge}
use Rattle.dg_model.specs.Attributes.{attributes_of}
use Rattle.dg_model.specs.Wires.{at_source}
use Rattle.dg_tables.proofs.Drivers.{source_within}
use Rattle.dg_tables.proofs.reading.period_of_input.Goals as goal

pub period-requires : goal.period-requires
period-requires c = source_within c.args.checked.now.diagram c.keeps_rules.ensures.checked c.args.block c.args.port c.in-Some.edge (sym c.in-Some.ensures)

pub returns-in-Some : goal.returns-in-Some
returns-in-Some c =
    c.period.ensures ∙ ap (λ (o : Option Edge). at_source {A = Option ℕ} o None (λ from from_port. (attributes_of c.args.checked.now.diagram).period_at from)) c.in-Some.ensures
