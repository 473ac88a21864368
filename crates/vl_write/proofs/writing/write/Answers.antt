use Rattle.std.proofs.Common.{List, ℕ, sym, subst, ◌∙◌}
use Rattle.std.proofs.lemmas.Result.{IfOk-weaker}
use Rattle.vl_ast.specs.Grammar.{Spells}
use Rattle.vl_write.proofs.writing.write.Goals as goal

pub returns-clause-spells : goal.returns-clause-spells
returns-clause-spells g c = λ bytes own.
    IfOk-weaker c.from_vec.result _ _
    (λ text is. subst (λ (bytes : List ℕ). Spells bytes c.args.module.now) (sym (is ∙ c.in_ok-whole_text.ensures)) (c.in_ok-parts.ensures.spells bytes own)) c.from_vec.ensures
