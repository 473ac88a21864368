use Rattle.std.proofs.Common.{ℕ, List, ◌++◌, ◌∷◌, [], ◌∙◌, map, ap, sym}
use Rattle.math_list.specs.Numbers.{numbers_from}
use Rattle.math_list.proofs.Numbers.{numbers_more}
use Rattle.hw_build.specs.inner.Operands.{offered_at}
use Rattle.hw_build.proofs.offers.from_first.Goals as goal

pub loop-element-init : goal.loop-element-init
loop-element-init c = c.requires.none

pub loop-element-preserved : goal.loop-element-preserved
loop-element-preserved c =
    let f : ℕ → ℕ = offered_at c.args.to.setting.design.checked.now.diagram c.args.to.setting.operands.now c.args.to.place.block 1 in
    rw c.in_ok-push.ensures.appended
    (ap (λ (xs : List ℕ). xs ++ c.at.result ∷ []) c.loop-element.invariant
    ∙ ap (λ (n : ℕ). map f (numbers_from 0 c.loop-element.element) ++ n ∷ []) c.at.ensures
    ∙ sym (numbers_more f c.loop-element.element))
