use Rattle.std.proofs.Common.{◌≡◌, ◌≤◌, ◌^◌, ◌+◌, pos, ◌*ℤ◌, to_z, of_z, ap, ◌∙◌, arith, true}
use Rattle.std.specs.Int.{w64, w128}
use Rattle.std.proofs.lemmas.Int.{ints, to_z-of_z}
use Rattle.std.proofs.lemmas.Nat.{le_or_l, le_or_r}
use Rattle.math_num.specs.Word.{InWord}
use Rattle.fx_type.specs.declared.kind.FxType.TheVariants.{Num}
use Rattle.fx_type.specs.Conversion.{Settles}
use Rattle.fx_round.proofs.Bias.{word_fits}
use Rattle.fx_round.proofs.UpShifts.{raised_stays, raised_stays_in, settles_itself}
use Rattle.fx_round.proofs.conversion.stored_product.Goals as goal
use Rattle.fx_round.proofs.conversion.stored_product.Goals.{Then-from-most-le63, After-shift_up-shifted}

room : (c : Then-from-most-le63) → c.args.bits + c.args.by ≤ 63
room c = omega (arith, c.if-from-most-le63.true, c.from.ensures, le_or_r c.from-2.result (c.from.result + c.args.by))

short : (c : Then-from-most-le63) → c.args.width ≤ 63
short c = omega (arith, c.if-from-most-le63.true, c.from-2.ensures, le_or_l c.from-2.result (c.from.result + c.args.by))

few : (c : Then-from-most-le63) → to_z w64 (of_z w64 (to_z w128 (of_z w128 c.args.v))) ≡ c.args.v
few c = ap (λ x. to_z w64 (of_z w64 x)) (to_z-of_z w128 c.args.v c.ranges.v) ∙ to_z-of_z w64 c.args.v (word_fits c.args.bits c.args.from_signed c.args.v (omega (arith, room c)) c.requires.number)

shifted : (c : After-shift_up-shifted) → to_z w64 (of_z w64 c.shift_up-shifted.result) ≡ c.args.v *ℤ pos (2 ^ c.args.by)
shifted c = to_z-of_z w64 c.shift_up-shifted.result (record { sfits = c.shift_up-shifted.type_inv }) ∙ c.shift_up-shifted.ensures ∙ ap (λ x. x *ℤ pos (2 ^ c.args.by)) (few c.before)

pub overflow_cast-v : goal.overflow_cast-v
overflow_cast-v c = rw (to_z-of_z w128 c.args.v c.ranges.v) (word_fits c.args.bits c.args.from_signed c.args.v (omega (arith, room c)) c.requires.number)

pub shift_up-shifted-requires-clause-few : goal.shift_up-shifted-requires-clause-few
shift_up-shifted-requires-clause-few c = omega (arith, room c)

pub shift_up-shifted-requires-clause-room : goal.shift_up-shifted-requires-clause-room
shift_up-shifted-requires-clause-room c =
    let fits = word_fits 63 c.args.from_signed (c.args.v *ℤ pos (2 ^ c.args.by)) (omega arith)
    (raised_stays c.args.from_signed c.args.v c.args.bits c.args.by 63 c.requires.some
    (room c) c.requires.number) in
    let number : InWord 64 true (c.args.v *ℤ pos (2 ^ c.args.by)) = record { low = omega (arith, ints, fits); high = omega (arith, ints, fits) } in
    rw (few c) number

pub stored_number-requires-clause-few : goal.stored_number-requires-clause-few
stored_number-requires-clause-few c = omega (arith, short (goal.at.stored_number-requires-clause-few c).Then-from-most-le63)

pub returns-then-most-from : goal.returns-then-most-from
returns-then-most-from c frac =
    let product = c.args.v *ℤ pos (2 ^ c.args.by) in
    let e = c.from-then-most-from in
    let r : to_z w128 (of_z w128 e.result) ≡ product = to_z-of_z w128 e.result (record { sfits = e.type_inv }) ∙ e.ensures ∙ shifted (goal.at.returns-then-most-from c).After-shift_up-shifted in
    let width : c.args.bits + c.args.by ≤ c.args.width = omega (arith, c.from.ensures, c.from-then-from_signed-signed.ensures, c.if-most-from.true) in
    let stays = raised_stays_in c.args.from_signed c.args.signed c.args.v c.args.bits c.args.by c.args.width c.if-from_signed-signed.true c.requires.some width c.requires.number in
    rw r (settles_itself c.args.signed c.args.width frac c.args.saturate product stays)

pub returns-else-from_signed-signed : goal.returns-else-from_signed-signed
returns-else-from_signed-signed c frac =
    let e = c.from-else-from_signed-signed in
    let r : to_z w128 (of_z w128 e.result) ≡ c.stored_number.result =
    to_z-of_z w128 e.result (record { sfits = e.type_inv }) ∙ e.ensures
    ∙ to_z-of_z w64 c.stored_number.result (record { sfits = c.stored_number.type_inv }) in
    let settled : Settles (Num c.args.signed c.args.width frac) c.args.saturate
    (c.args.v *ℤ pos (2 ^ c.args.by)) c.stored_number.result =
    rw (shifted (goal.at.returns-else-from_signed-signed c).After-shift_up-shifted) at
    (c.stored_number.ensures frac) in
    rw r settled

pub returns-else-from-most-le63 : goal.returns-else-from-most-le63
returns-else-from-most-le63 c frac =
    let r = to_z-of_z w128 c.settled_up.result (record { sfits = c.settled_up.type_inv }) in
    rw r (rw (to_z-of_z w128 c.args.v c.ranges.v) at (c.settled_up.ensures frac))
