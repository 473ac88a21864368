use Rattle.std.proofs.Common.{◌∙◌, ℕ}
use Rattle.dg_model.specs.Attributes.{attributes_of}
use Rattle.dg_model.specs.RootElements.{root_inputs, root_outputs}
use Rattle.dg_model.specs.Wired.{root_input, root_output}
use Rattle.dg_model.specs.Wires.{width_into}
use Rattle.dg_response.proofs.Elements.{blocks-within, columns-of-blocks}
use Rattle.dg_response.proofs.root_columns.columns.Goals as goal

pub columns_of-requires : goal.columns_of-requires
columns_of-requires c =
    let diagram = c.args.checked.now.diagram in
    let attributes = attributes_of diagram in
    blocks-within root_input (λ (block : ℕ). attributes.width_at block 1) diagram attributes (root_inputs diagram attributes)
    (c.root_elements_are_listed.ensures.inputs diagram attributes c.keeps_rules.ensures.checked.wired) c.as_slice.result.now (c.as_slice.ensures ∙ c.in_ok-read.ensures)

pub columns_of-requires-2 : goal.columns_of-requires-2
columns_of-requires-2 c =
    let diagram = c.args.checked.now.diagram in
    let attributes = attributes_of diagram in
    blocks-within root_output (λ (block : ℕ). width_into diagram attributes block 1) diagram attributes (root_outputs diagram attributes)
    (c.root_elements_are_listed.ensures.outputs diagram attributes c.keeps_rules.ensures.checked.wired) c.as_slice-2.result.now (c.as_slice-2.ensures ∙ c.in_ok-shown.ensures)

pub returns-clause-inputs : goal.returns-clause-inputs
returns-clause-inputs c =
    let diagram = c.args.checked.now.diagram in
    let attributes = attributes_of diagram in
    columns-of-blocks root_input (λ (block : ℕ). attributes.width_at block 1) diagram attributes (root_inputs diagram attributes)
    (c.root_elements_are_listed.ensures.inputs diagram attributes c.keeps_rules.ensures.checked.wired) c.as_slice.result.now (c.as_slice.ensures ∙ c.in_ok-read.ensures)
    c.in_ok-inputs.inputs c.in_ok-inputs.ensures

pub returns-clause-outputs : goal.returns-clause-outputs
returns-clause-outputs c =
    let diagram = c.args.checked.now.diagram in
    let attributes = attributes_of diagram in
    columns-of-blocks root_output (λ (block : ℕ). width_into diagram attributes block 1) diagram attributes (root_outputs diagram attributes)
    (c.root_elements_are_listed.ensures.outputs diagram attributes c.keeps_rules.ensures.checked.wired) c.as_slice-2.result.now (c.as_slice-2.ensures ∙ c.in_ok-shown.ensures)
    c.in_ok-outputs.outputs c.in_ok-outputs.ensures
