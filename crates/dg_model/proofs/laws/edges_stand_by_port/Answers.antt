use Rattle.std.specs.Prelude.{pos}
use Rattle.fx_type.specs.declared.kind.FxType.TheVariants.{Logical}
use Rattle.dg_model.specs.Wires.{repeated}
use Rattle.dg_model.proofs.Ports.{drivers_are_edges, inputs_are_sources}
use Rattle.dg_model.proofs.laws.edges_stand_by_port.Goals as goal

pub returns-clause-drivers : goal.returns-clause-drivers
returns-clause-drivers c = drivers_are_edges

pub returns-clause-widths : goal.returns-clause-widths
returns-clause-widths c diagram attributes place block wired at = inputs_are_sources 0 attributes.width_at diagram place block wired at

pub returns-clause-types : goal.returns-clause-types
returns-clause-types c diagram attributes place block wired at = inputs_are_sources Logical attributes.type_at diagram place block wired at

pub returns-clause-values : goal.returns-clause-values
returns-clause-values c diagram attributes table place block element t wired at =
    inputs_are_sources (pos 0) (λ from from_port. table from from_port (repeated (attributes.width_at from from_port) element) t) diagram place block wired at
