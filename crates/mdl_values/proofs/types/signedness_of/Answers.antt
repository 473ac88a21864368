use Rattle.std.proofs.Common.{Some, None, true, false, cond, ap, ◌∙◌}
use Rattle.std.specs.Prelude.{bytes_eq, codes}
use Rattle.mdl_values.proofs.Beside.{either}
use Rattle.mdl_values.proofs.types.signedness_of.Goals as goal

pub returns : goal.returns
returns c =
    let text = c.args.text.now in
    c.value_beside.ensures
    ∙ either (bytes_eq text (codes "1")) (bytes_eq text (codes "true")) (Some true) _
    ∙ ap (cond _ (Some true)) (either (bytes_eq text (codes "0")) (bytes_eq text (codes "false")) (Some false) None)
