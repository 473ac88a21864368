use Rattle.std.proofs.Common.{Bool, true, bytes_eq, cond, ap, ◌∙◌}
use Rattle.std.proofs.lemmas.Map.Text.{is_eq-slice_cmp}
use Rattle.vl_hier.specs.inner.Names.{is_kept, lent}
use Rattle.vl_hier.proofs.LeastName.{kept-more}
use Rattle.vl_hier.proofs.names.Names.add.Goals as goal

pub returns : goal.returns
returns c = λ names are name.
    let n = c.args.name.now in
    c.in_ok-insert.ensures.updates.0 (lent name)
    ∙ ap (λ (b : Bool). cond b true (is_kept c.args.self.now name)) (is_eq-slice_cmp n name)
    ∙ ap (cond (bytes_eq n name) true) (are name)
    ∙ kept-more names n name
