use Rattle.std.proofs.Common.{Option, ℕ, ap, ◌∙◌}
use Rattle.vl_ast.specs.declared.modules.Port.{Port}
use Rattle.vl_hier.specs.Flat.{is_some_input}
use Rattle.vl_hier.specs.inner.Index.{found_in}
use Rattle.vl_hier.specs.inner.Tables.{at_place}
use Rattle.vl_hier.proofs.LookUps.{first-named}
use Rattle.vl_hier.proofs.links.is_input.Goals as goal

pub returns : goal.returns
returns c =
    let ports = c.args.ports.now in
    let name = c.args.name.now in
    c.is_input_at.ensures
    ∙ ap (λ (place : Option ℕ). is_some_input (at_place ports place)) c.first.ensures
    ∙ ap is_some_input (first-named (λ (port : Port). port.name) ports name (found_in c.args.by_name.now name) (c.requires name))
