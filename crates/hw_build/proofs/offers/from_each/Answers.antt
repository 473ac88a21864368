use Rattle.std.proofs.Common.{ℕ, List, ◌++◌, ◌∷◌, [], ◌∙◌, map, ap, sym}
use Rattle.math_list.specs.Numbers.{numbers_from}
use Rattle.math_list.proofs.Numbers.{map_last}
use Rattle.hw_build.specs.inner.Operands.{offered_at}
use Rattle.hw_build.proofs.offers.from_each.Goals as goal

pub loop-input-init : goal.loop-input-init
loop-input-init c = c.requires.none

pub loop-input-preserved : goal.loop-input-preserved
loop-input-preserved c =
    let f : ℕ → ℕ = λ input. offered_at c.args.to.setting.design.checked.now.diagram c.args.to.setting.operands.now c.args.to.place.block input c.args.to.place.element in
    rw c.in_ok-push.ensures.appended (ap (λ (xs : List ℕ). xs ++ c.at-net.result ∷ []) c.loop-input.invariant
    ∙ ap (λ (n : ℕ). map f (numbers_from 1 c.loop-input.input) ++ n ∷ []) c.at-net.ensures
    ∙ sym (map_last f c.loop-input.input))
