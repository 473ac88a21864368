use Rattle.std.proofs.Common.{◌≡◌, ◌-◌, ◌<◌, ◌^◌, pos, ◌+ℤ◌, ◌*ℤ◌, FitsSigned, to_z, of_z, ◌∙◌, arith}
use Rattle.std.specs.Int.{w64, w128}
use Rattle.std.specs.Int.Signed.{shr_z}
use Rattle.std.proofs.lemmas.Int.{to_z-of_z}
use Rattle.math_num.specs.Word.{IsWrapped}
use Rattle.math_num.proofs.Shifts.{shr-fits, shl_exact}
use Rattle.fx_round.proofs.Congruence.{high_fits, halves_fit, wrapped_halves}
use Rattle.fx_round.proofs.settle.residue_high.Goals as goal
use Rattle.fx_round.proofs.settle.residue_high.Goals.{After-from}

-- the high half is wrapped, and the low half stays
kept : (c : After-from) → IsWrapped (shr_z c.args.r (2 ^ 64)) (c.args.width - 64) c.args.signed c.residue_low-high.result
kept c =
    let q = shr_z c.args.r (2 ^ 64) in
    rw (to_z-of_z w128 c.args.r c.ranges.r, to_z-of_z w128 q (shr-fits w128 c.args.r (2 ^ 64) c.ranges.r), to_z-of_z w64 q (high_fits c.args.r c.ranges.r)) at c.residue_low-high.ensures

low_below : (c : After-from) → c.low_half.result < 2 ^ 64
low_below c = omega (arith, c.low_half.type_inv)

low_is : (c : After-from) → to_z w128 (of_z w128 c.from.result) ≡ pos c.low_half.result
low_is c = to_z-of_z w128 c.from.result (record { sfits = c.from.type_inv }) ∙ c.from.ensures

fit : (c : After-from) → FitsSigned w128 (c.residue_low-high.result *ℤ pos (2 ^ 64)) × FitsSigned w128 (c.residue_low-high.result *ℤ pos (2 ^ 64) +ℤ pos c.low_half.result)
fit c = halves_fit (shr_z c.args.r (2 ^ 64)) c.residue_low-high.result c.low_half.result c.args.width c.args.signed c.requires.word c.requires.many (low_below c) (kept c)

pub overflow_add-result : goal.overflow_add-result
overflow_add-result c = rw (shl_exact w128 c.residue_low-high.result 64 (record { sfits = c.residue_low-high.type_inv }) (fit c).0, low_is c) (fit c).1

pub returns : goal.returns
returns c =
    let whole : c.args.r ≡ shr_z c.args.r (2 ^ 64) *ℤ pos (2 ^ 64) +ℤ pos c.low_half.result = rw (to_z-of_z w128 c.args.r c.ranges.r) at c.low_half.ensures in
    rw (shl_exact w128 c.residue_low-high.result 64 (record { sfits = c.residue_low-high.type_inv }) (fit c).0, low_is c, to_z-of_z w128 _ (fit c).1)
    (wrapped_halves c.args.r (shr_z c.args.r (2 ^ 64)) c.residue_low-high.result c.low_half.result c.args.width c.args.signed c.requires.many (low_below c) whole (kept c))
