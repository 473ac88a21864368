use Rattle.std.proofs.Common.{ℕ, List, [], ◌∷◌, ◌++◌, sym, ap, ◌∙◌}
use Rattle.dg_model.specs.Widths.{share}
use Rattle.dg_types.proofs.Counts.{mapped_more}
use Rattle.dg_types.proofs.rows.shares.Goals as goal

pub loop-place-preserved : goal.loop-place-preserved
loop-place-preserved c =
    let f = share c.args.width c.args.parts in
    let place = c.loop-place.place in
    c.in_ok-push.ensures.appended ∙ ap (λ (row : List ℕ). row ++ c.part.result ∷ []) c.loop-place.invariant
    ∙ rw c.part.ensures (sym (mapped_more f place))
