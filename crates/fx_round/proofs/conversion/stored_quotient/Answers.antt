use Rattle.std.proofs.Common.{◌≡◌, ◌≤◌, ◌^◌, to_z, of_z, ap, ◌∙◌, arith, bit_or}
use Rattle.std.specs.Int.{w64, w128}
use Rattle.std.proofs.lemmas.Int.{to_z-of_z}
use Rattle.std.proofs.lemmas.Nat.{le_or_l, le_or_r}
use Rattle.fx_type.specs.declared.kind.FxType.TheVariants.{Num}
use Rattle.fx_type.specs.Conversion.{Rounds, Settles}
use Rattle.fx_round.proofs.Bias.{word_fits, word_low}
use Rattle.fx_round.proofs.conversion.stored_quotient.Goals as goal
use Rattle.fx_round.proofs.conversion.stored_quotient.Goals.{Then-from-by-le63}

both : (c : Then-from-by-le63) → bit_or c.args.width c.args.bits ≤ 63
both c = omega (arith, c.if-from-by-le63.true, c.from.ensures, le_or_l c.from.result c.args.by)

short : (c : Then-from-by-le63) → c.args.width ≤ 63
short c = omega (arith, both c, le_or_l c.args.width c.args.bits)

few_bits : (c : Then-from-by-le63) → c.args.bits ≤ 63
few_bits c = omega (arith, both c, le_or_r c.args.width c.args.bits)

few : (c : Then-from-by-le63) → to_z w64 (of_z w64 (to_z w128 (of_z w128 c.args.v))) ≡ c.args.v
few c = ap (λ x. to_z w64 (of_z w64 x)) (to_z-of_z w128 c.args.v c.ranges.v) ∙ to_z-of_z w64 c.args.v (word_fits c.args.bits _ c.args.v (few_bits c) c.requires.number.1)

pub overflow_cast-v : goal.overflow_cast-v
overflow_cast-v c = rw (to_z-of_z w128 c.args.v c.ranges.v) (word_fits c.args.bits _ c.args.v (few_bits c) c.requires.number.1)

pub rounded_down-rounded-requires-clause-low : goal.rounded_down-rounded-requires-clause-low
rounded_down-rounded-requires-clause-low c = rw (few c) (word_low c.args.bits _ c.args.v (few_bits c) c.requires.number.1)

pub rounded_down-rounded-requires-clause-few : goal.rounded_down-rounded-requires-clause-few
rounded_down-rounded-requires-clause-few c = omega (arith, c.if-from-by-le63.true, le_or_r c.from.result c.args.by)

pub stored_number-requires-clause-few : goal.stored_number-requires-clause-few
stored_number-requires-clause-few c = short (goal.at.stored_number-requires-clause-few c).Then-from-by-le63

pub returns-then-from-by-le63 : goal.returns-then-from-by-le63
returns-then-from-by-le63 c frac =
    let n = few (goal.at.returns-then-from-by-le63 c).Then-from-by-le63 in
    let q = c.rounded_down-rounded.result in
    let e = c.from-then-from-by-le63 in
    let rounded : to_z w64 (of_z w64 q) ≡ q = to_z-of_z w64 q (record { sfits = c.rounded_down-rounded.type_inv }) in
    let rounds : Rounds c.args.mode c.args.v (2 ^ c.args.by) q = rw n at c.rounded_down-rounded.ensures in
    let r : to_z w128 (of_z w128 e.result) ≡ c.stored_number.result =
    to_z-of_z w128 e.result (record { sfits = e.type_inv }) ∙ e.ensures
    ∙ to_z-of_z w64 c.stored_number.result (record { sfits = c.stored_number.type_inv }) in
    let settled : Settles (Num c.args.signed c.args.width frac) c.args.saturate q c.stored_number.result = rw rounded at (c.stored_number.ensures frac) in
    rw r (record { rounded = q; rounds = rounds; settles = settled })

pub returns-else-from-by-le63 : goal.returns-else-from-by-le63
returns-else-from-by-le63 c frac =
    let r = to_z-of_z w128 c.lowered_far.result (record { sfits = c.lowered_far.type_inv }) in
    rw r (rw (to_z-of_z w128 c.args.v c.ranges.v) at (c.lowered_far.ensures frac))
