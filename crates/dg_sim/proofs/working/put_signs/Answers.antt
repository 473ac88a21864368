use Rattle.std.proofs.Common.{Bool, List, ◌++◌, ap, ◌∙◌}
use Rattle.std.proofs.lemmas.List.{take_all}
use Rattle.dg_sim.proofs.working.put_signs.Goals as goal

pub returns : goal.returns
returns c = c.loop-sign.invariant ∙ ap (λ (signs : List Bool). c.args.signs.now ++ signs) (take_all c.loop-sign.sign-index c.args.negative.now c.loop-sign-test.false)
