use Rattle.std.proofs.Common.{◌≡◌, ◌++◌, ◌∷◌, [], ◌∙◌, ℕ, List, ap, sym, subst}
use Rattle.std.proofs.lemmas.Result.{on_ok_weaker}
use Rattle.dg_model.specs.declared.kind.Kind.{Kind}
use Rattle.hw_build.specs.inner.Entries.{AreOffered}
use Rattle.hw_build.proofs.offers.put_operands.Goals as goal

pub returns-in-RateTransition : goal.returns-in-RateTransition
returns-in-RateTransition c =
    let block = c.args.to.place.block in
    let element = c.args.to.place.element in
    on_ok_weaker c.push.result
    (λ (put : c.push.new.self ≡ c.args.nets.now ++ c.at.result ∷ []).
    λ places fits. subst (λ (k : Kind). AreOffered c.args.to.setting.design.checked.now.diagram places block
    c.args.to.one.now c.args.to.place.port element k c.push.new.self) (sym c.in-RateTransition.is)
    (put ∙ ap (λ (nets : List ℕ). nets ++ c.at.result ∷ []) c.requires.none ∙ ap (λ (n : ℕ). n ∷ []) (c.at.ensures ∙ sym (fits.lines.offered block 1 element))))
    c.push.ensures.appended
