use Rattle.std.proofs.Common.{◌∙◌, ap, ◌%◌, ◌/◌, ◌^◌, ◌+◌, ℕ, of_z}
use Rattle.std.specs.Int.{w128}
use Rattle.std.proofs.lemmas.Int.{to_z-of_z}
use Rattle.math_num.proofs.Residues.{slice-congruent}
use Rattle.hw_run.proofs.operation.slice.Goals as goal

pub returns : goal.returns
returns c =
    let bits = c.cast_unsigned.ensures ∙ ap (of_z w128) (to_z-of_z w128 c.args.v c.ranges.v) in
    let part = c.bits_between.ensures ∙ ap (λ (n : ℕ). n % 2 ^ (c.args.high + 1) / 2 ^ c.args.low) bits in
    let f = to_z-of_z w128 c.cast_signed.result (record { sfits = c.cast_signed.type_inv }) in
    let h = slice-congruent c.args.v c.args.high c.args.low c.requires.within c.ranges.v c.bits_between.result part in
    rw (f, c.cast_signed.ensures) h
