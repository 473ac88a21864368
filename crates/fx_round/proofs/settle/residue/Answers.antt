use Rattle.std.proofs.Common.{◌≡◌, ◌<◌, ◌^◌, pos, ◌+ℤ◌, ◌*ℤ◌, subst, sym, arith}
use Rattle.std.specs.Int.{w64, w128}
use Rattle.std.specs.Int.Signed.{shr_z}
use Rattle.std.proofs.lemmas.Int.{to_z-of_z}
use Rattle.math_num.specs.Word.{IsWrapped, IsCongruent}
use Rattle.math_num.proofs.Words.{word_width}
use Rattle.fx_round.proofs.Congruence.{low_congruent, wrapped_part}
use Rattle.fx_round.proofs.settle.residue.Goals as goal

pub residue_low-requires-clause-some : goal.residue_low-requires-clause-some
residue_low-requires-clause-some c = (word_width c.args.width c.args.signed c.requires).0

pub returns-then-width-le64 : goal.returns-then-width-le64
returns-then-width-le64 c =
    let v = to_z-of_z w128 c.args.r c.ranges.r in
    let below : c.low_half.result < 2 ^ 64 = omega (arith, c.low_half.type_inv) in
    let whole : c.args.r ≡ shr_z c.args.r (2 ^ 64) *ℤ pos (2 ^ 64) +ℤ pos c.low_half.result = rw v at c.low_half.ensures in
    let number = to_z-of_z w64 c.cast_signed.result (record { sfits = c.cast_signed.type_inv }) in
    let congruent : IsCongruent c.cast_signed.result c.args.r (2 ^ 64) =
    subst (λ x. IsCongruent x c.args.r (2 ^ 64)) (sym c.cast_signed.ensures)
    (low_congruent c.args.r (shr_z c.args.r (2 ^ 64)) c.low_half.result below whole) in
    let e = to_z-of_z w128 c.residue_low.result (record { sfits = c.residue_low.type_inv }) in
    let low : IsWrapped c.cast_signed.result c.args.width c.args.signed c.residue_low.result = rw number at c.residue_low.ensures in
    rw e (wrapped_part c.args.r c.cast_signed.result c.args.width c.args.signed c.residue_low.result c.if-width-le64.true congruent low)

pub returns-else-width-le64 : goal.returns-else-width-le64
returns-else-width-le64 c =
    rw (to_z-of_z w128 c.residue_high.result (record { sfits = c.residue_high.type_inv })) (rw (to_z-of_z w128 c.args.r c.ranges.r) at c.residue_high.ensures)
