use Rattle.std.proofs.Common.{◌≡◌, ◌-◌, ◌*◌, ◌%◌, ◌^◌, to_z, of_z, ap, ◌∙◌, arith}
use Rattle.std.specs.Int.{w64, w128}
use Rattle.std.specs.Int.Signed.{shr_z}
use Rattle.std.proofs.lemmas.Int.{to_z-of_z}
use Rattle.math_num.proofs.Shifts.{shr-fits, shl_fits, wrapped_signed, wrapped_unsigned}
use Rattle.fx_round.proofs.settle.residue_low.Goals as goal

pub returns-then-signed : goal.returns-then-signed
returns-then-signed c =
    let s = 64 - c.args.width in
    let x = to_z w64 (of_z w64 c.args.r * 2 ^ s % 18446744073709551616) in
    let y = to_z-of_z w64 (shr_z x (2 ^ s)) (shr-fits w64 x (2 ^ s) (shl_fits w64 (of_z w64 c.args.r * 2 ^ s))) in
    let e = to_z-of_z w128 c.from.result (record { sfits = c.from.type_inv }) ∙ c.from.ensures ∙ y in
    rw (c.if-signed.true, e) (wrapped_signed w64 c.args.r s c.ranges.r c.args.width c.requires.some (omega (arith, c.requires.few)))

pub returns-else-signed : goal.returns-else-signed
returns-else-signed c =
    let s = 64 - c.args.width in
    let bits : c.cast_unsigned.result ≡ of_z w64 c.args.r = c.cast_unsigned.ensures ∙ ap (of_z w64) (to_z-of_z w64 c.args.r c.ranges.r) in
    let f = c.from-else-signed in
    let e = to_z-of_z w128 f.result (record { sfits = f.type_inv }) ∙ f.ensures in
    rw (c.if-signed.false, e, bits) (wrapped_unsigned w64 c.args.r s c.ranges.r c.args.width c.requires.some (omega (arith, c.requires.few)))
