use Rattle.std.proofs.Common.{length, refl, ◌∙◌}
use Rattle.std.proofs.lemmas.Result.{IfOk-weaker}
use Rattle.std.proofs.lemmas.Simd.{splat_is_map}
use Rattle.dg_types.proofs.rows.parts_of.Goals as goal

pub returns-then-held-eq0 : goal.returns-then-held-eq0
returns-then-held-eq0 c =
    let sizes = c.args.sizes.now in
    rw c.if-held-eq0.true (IfOk-weaker c.repeated.result _ _ (λ row is. is ∙ splat_is_map sizes (length sizes) 1 refl) c.repeated.ensures)
