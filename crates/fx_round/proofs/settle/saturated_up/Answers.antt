use Rattle.std.proofs.Common.{◌≡◌, ◌^◌, pos, ◌*ℤ◌, to_z, of_z, ap, ◌∙◌, rules}
use Rattle.std.specs.Int.{w128}
use Rattle.std.proofs.lemmas.Int.{to_z-of_z}
use Rattle.fx_round.proofs.settle.saturated_up.Goals as goal

pub returns-in-Some : goal.returns-in-Some
returns-in-Some c frac =
    let r = to_z-of_z w128 c.nearest.result (record { sfits = c.nearest.type_inv }) in
    let v = to_z-of_z w128 c.args.v c.ranges.v in
    let shifted : to_z w128 (of_z w128 c.in-Some.r) ≡ c.args.v *ℤ pos (2 ^ c.args.by) = to_z-of_z w128 c.in-Some.r (search rules) ∙ c.in-Some.ensures.1 ∙ ap (λ x. x *ℤ pos (2 ^ c.args.by)) v in
    rw r (rw shifted at (c.nearest.ensures frac))
