use Rattle.std.proofs.Common.{◌%◌, ◌^◌, ◌∙◌, ap, bit_and}
use Rattle.std.proofs.Math.Nat.{max_comm}
use Rattle.std.proofs.lemmas.Nat.{and_mask}
use Rattle.vl_ast.specs.Value.{Bits, extended}
use Rattle.vl_eval.proofs.assigning.first_bits.Goals as goal

pub returns : goal.returns
returns c =
    let number = c.args.number.now in
    let word : Bits = record { width = number.width; signed = number.signed; bits = number.bits } in
    (λ i. bit_and (c.literal.ensures i) (c.mask_of.ensures i)) ∙ and_mask (extended word c.max-length.result) c.args.width
    ∙ ap (λ n. extended word n % 2 ^ c.args.width) (c.max-length.ensures ∙ max_comm number.width c.args.width)
