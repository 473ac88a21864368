use Rattle.std.proofs.Common.{◌≡◌, pos, ◌+ℤ◌, FitsSigned, to_z, of_z, arith, sym, rules}
use Rattle.std.specs.Int.{w128}
use Rattle.std.proofs.lemmas.Int.{ints, to_z-of_z}
use Rattle.fx_round.proofs.Modes.{rounds_upper, rounds_lower, odd_test, even_test}
use Rattle.fx_round.proofs.split.rounded_value.Goals as goal

pub returns-then-takes_upper : goal.returns-then-takes_upper
returns-then-takes_upper c n d s =
    let f : FitsSigned w128 c.args.split.floor = search rules in
    let k = to_z-of_z w128 c.args.split.floor f in
    let e : to_z w128 (of_z w128 (to_z w128 (of_z w128 c.args.split.floor) +ℤ pos 1)) ≡ c.args.split.floor +ℤ pos 1 = omega (arith, ints, f) in
    rw e (rounds_upper n d c.args.split.floor c.args.split.part c.args.mode s _ _
    (λ h. omega (arith, ints, h)) (λ h. omega (arith, ints, h))
    (odd_test c.args.split.floor) (even_test c.args.split.floor)
    (rw k at (sym c.if-takes_upper.ensures)))

pub returns-else-takes_upper : goal.returns-else-takes_upper
returns-else-takes_upper c n d s =
    let f : FitsSigned w128 c.args.split.floor = search rules in
    let k = to_z-of_z w128 c.args.split.floor f in
    rw k (rounds_lower n d c.args.split.floor c.args.split.part c.args.mode s _ _
    (λ h. omega (arith, ints, h)) (λ h. omega (arith, ints, h))
    (odd_test c.args.split.floor) (even_test c.args.split.floor)
    (rw k at (sym c.if-takes_upper.ensures)))
