use Rattle.std.proofs.Common.{◌≡◌, Some, sym, ap, subst, ◌∙◌, arith}
use Rattle.dg_model.specs.Attributes.{attributes_of}
use Rattle.dg_model.specs.RootElements.{number_in}
use Rattle.dg_tables.specs.declared.roots.Side.{Side}
use Rattle.dg_tables.specs.inner.Ports.{FindsWidths, root_on, width_on}
use Rattle.dg_tables.proofs.RootElements.{input_shows}
use Rattle.dg_tables.proofs.roots.width_on.Goals as goal

pub width_of_output-requires : goal.width_of_output-requires
width_of_output-requires c =
    let port = c.requires.port in
    let number = subst (λ (side : Side). number_in (root_on side) port.0 ≡ Some port.1) c.in-Inputs.is port.3 in
    (port.0, port.2, omega arith, input_shows c.args.checked.now.diagram c.keeps_rules.ensures.checked.wired c.args.block port.0 port.1 port.2 number)

pub width_of_input-requires : goal.width_of_input-requires
width_of_input-requires c = subst (FindsWidths c.args.checked.now.diagram) c.in-Outputs.is c.requires.widths

pub returns-in-Inputs : goal.returns-in-Inputs
returns-in-Inputs c =
    let diagram = c.args.checked.now.diagram in
    c.width_of_output.ensures ∙ sym (ap (λ (side : Side). width_on diagram (attributes_of diagram) side c.args.block) c.in-Inputs.is)

pub returns-in-Outputs : goal.returns-in-Outputs
returns-in-Outputs c =
    let diagram = c.args.checked.now.diagram in
    c.width_of_input.ensures ∙ sym (ap (λ (side : Side). width_on diagram (attributes_of diagram) side c.args.block) c.in-Outputs.is)
