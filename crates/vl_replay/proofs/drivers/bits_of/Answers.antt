use Rattle.std.proofs.Common.{◌≡◌, ◌+◌, ◌^◌, ap, ◌∙◌, of_z, arith}
use Rattle.std.specs.Int.{w128}
use Rattle.std.proofs.lemmas.Int.{to_z-of_z}
use Rattle.std.proofs.lemmas.Nat.{pow_pos}
use Rattle.vl_replay.proofs.Words.{few, number-bits}
use Rattle.vl_replay.proofs.drivers.bits_of.Goals as goal

pub mask_of-requires : goal.mask_of-requires
mask_of-requires c = few c.args.width c.requires

pub returns : goal.returns
returns c =
    let m : c.mask_of.result + 1 ≡ 2 ^ c.args.width = (let p = pow_pos c.args.width in omega (arith, p, c.mask_of.ensures)) in
    let e : c.cast_unsigned.result ≡ of_z w128 c.args.number = c.cast_unsigned.ensures ∙ ap (of_z w128) (to_z-of_z w128 c.args.number c.ranges.number) in
    rw e (number-bits c.args.number c.args.width c.mask_of.result (few c.args.width c.requires) m c.ranges.number)
