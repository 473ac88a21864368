use Rattle.std.proofs.Common.{◌≡◌, ◌*◌, ◌%◌, ◌^◌, ◌≤◌, to_z, of_z, ap, sym, ◌∙◌, subst, arith, pow_mono, pos, ◌*ℤ◌, FitsSigned}
use Rattle.std.specs.Int.{w128}
use Rattle.std.specs.Int.Signed.{shr_z}
use Rattle.std.proofs.lemmas.Int.{to_z-of_z}
use Rattle.math_num.proofs.Shifts.{shr-fits, shl_fits, shl_exact, shl_back, shr_exact}
use Rattle.math_num.proofs.Words.{too_far}
use Rattle.fx_num.proofs.word.shift_up.Goals as goal

pub returns-then-shifted-by : goal.returns-then-shifted-by
returns-then-shifted-by c =
    let by = c.args.by in
    let x = to_z w128 (of_z w128 c.args.v * 2 ^ by % 340282366920938463463374607431768211456) in
    let fit = shl_fits w128 (of_z w128 c.args.v * 2 ^ by) in
    let most : by ≤ 128 = omega (arith, c.if-by-lt128.true) in
    let small : 2 ^ by ≤ 2 ^ 128 = pow_mono most in
    let r = to_z-of_z w128 (shr_z x (2 ^ by)) (shr-fits w128 x (2 ^ by) fit) in
    let v = to_z-of_z w128 c.args.v c.ranges.v in
    let same : shr_z x (2 ^ by) ≡ c.args.v = sym r ∙ ap (to_z w128) c.if-shifted-by.true ∙ v in
    let is : x ≡ c.args.v *ℤ pos (2 ^ by) = shl_back w128 c.args.v by c.ranges.v small same in
    (subst (FitsSigned w128) is fit, is)

pub returns-else-shifted-by : goal.returns-else-shifted-by
returns-else-shifted-by c fits =
    let by = c.args.by in
    let is = shl_exact w128 c.args.v by c.ranges.v fits in
    let v = to_z-of_z w128 c.args.v c.ranges.v in
    c.if-shifted-by.false (ap (of_z w128) (ap (λ x. shr_z x (2 ^ by)) is ∙ shr_exact c.args.v by))

pub returns-else-v-eq0 : goal.returns-else-v-eq0
returns-else-v-eq0 c fits = too_far c.args.v c.args.by c.if-by-lt128.false (λ e. c.if-v-eq0.false (ap (of_z w128) e)) fits
