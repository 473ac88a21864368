use Rattle.std.proofs.Common.{◌≡◌, ◌-ℤ◌, ℤ, pos, FitsSigned, to_z, of_z, ◌∙◌, arith}
use Rattle.std.specs.Int.{w16, w64}
use Rattle.std.proofs.lemmas.Int.{ints, to_z-of_z}
use Rattle.fx_type.specs.FxType.{aligned}
use Rattle.dg_blocks.specs.Narrow.{IsSmall}
use Rattle.dg_blocks.proofs.Ranges.{minus_is}
use Rattle.dg_blocks.proofs.short_sums.term.Goals as goal
use Rattle.dg_blocks.proofs.short_sums.term.Goals.{After-left_shift-value}

small_fits : (z : ℤ) → IsSmall z → FitsSigned w64 z
small_fits z s = omega (arith, ints, s.low, s.high)

minus_fits : (z : ℤ) → IsSmall z → FitsSigned w64 (pos 0 -ℤ z)
minus_fits z s = omega (arith, ints, s.low, s.high)

pub left_shift-value-requires : goal.left_shift-value-requires
left_shift-value-requires c =
    let f = to_z-of_z w16 c.args.frac c.ranges.frac in
    let v = to_z-of_z w64 c.args.v c.ranges.v in
    record { gap = rw (c.gap_above.ensures, f) c.requires.short.shift; fits = rw (c.gap_above.ensures, f, v) (small_fits (aligned c.args.frac c.args.kind c.args.v) c.requires.small) }

-- the number in the units of the sum, as the code has it
given : (c : After-left_shift-value) → to_z w64 (of_z w64 c.left_shift-value.result) ≡ aligned c.args.frac c.args.kind c.args.v
given c =
    let f = to_z-of_z w16 c.args.frac c.ranges.frac in
    let v = to_z-of_z w64 c.args.v c.ranges.v in
    let is : c.left_shift-value.result ≡ aligned c.args.frac c.args.kind c.args.v = rw (c.gap_above.ensures, f, v) at c.left_shift-value.ensures in
    to_z-of_z w64 c.left_shift-value.result (record { sfits = c.left_shift-value.type_inv }) ∙ is

pub overflow_sub-result : goal.overflow_sub-result
overflow_sub-result c = rw (given (goal.at.overflow_sub-result c).After-left_shift-value) (minus_fits (aligned c.args.frac c.args.kind c.args.v) c.requires.small)

pub returns-then-negative : goal.returns-then-negative
returns-then-negative c =
    let own = aligned c.args.frac c.args.kind c.args.v in
    rw (c.if-negative.true, given (goal.at.returns-then-negative c).After-left_shift-value) (to_z-of_z w64 (pos 0 -ℤ own) (minus_fits own c.requires.small) ∙ minus_is own)

pub returns-else-negative : goal.returns-else-negative
returns-else-negative c = rw c.if-negative.false (given (goal.at.returns-else-negative c).After-left_shift-value)
