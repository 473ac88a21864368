use Rattle.std.proofs.Common.{◌≡◌, ℕ, [], ◌∷◌, ◌++◌, replicate, ap, subst, ◌∙◌, arith}
use Rattle.std.proofs.lemmas.List.{replicate-append-replicate}
use Rattle.fx_io.proofs.rows.empty_rows.Goals as goal

pub loop-row-preserved : goal.loop-row-preserved
loop-row-preserved g c =
    c.in_ok-push.ensures.items
    ∙ ap (λ rows. rows ++ c.new.result ∷ []) c.loop-row.invariant
    ∙ ap (λ row. replicate c.loop-row._row [] ++ row ∷ []) c.new.ensures
    ∙ replicate-append-replicate c.loop-row._row 1 []

pub returns : goal.returns
returns g c =
    let all : c.loop-row._row ≡ c.args.count = omega (arith, c.loop-row-test.false, c.loop-row.auto._row-end) in
    subst (λ (n : ℕ). c.loop-row.rows.items ≡ replicate n []) all c.loop-row.invariant
