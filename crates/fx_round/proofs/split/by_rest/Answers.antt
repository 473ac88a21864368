use Rattle.std.proofs.Common.{◌≡◌, ◌+◌, ◌-◌, ◌/◌, ◌^◌, ◌≤◌, pos, ◌+ℤ◌, FitsSigned, bit_and, to_z, of_z, ap, ◌∙◌, arith, pow_mono}
use Rattle.std.specs.Int.{w128, from_bool}
use Rattle.std.specs.Int.Signed.{shr_z}
use Rattle.std.proofs.lemmas.Int.{ints, to_z-of_z}
use Rattle.math_num.proofs.Arithmetic.{double}
use Rattle.math_num.proofs.Shifts.{shr-fits}
use Rattle.fx_round.specs.inner.Parts.{IsSplit}
use Rattle.fx_round.proofs.Exactly.{part_of}
use Rattle.fx_round.proofs.Modes.{rounds_next, flag_small, odd_test, even_test}
use Rattle.fx_round.proofs.Shifts.{near_split, near_room}
use Rattle.fx_round.proofs.split.by_rest.Goals as goal
use Rattle.fx_round.proofs.split.by_rest.Goals.{After-cast_unsigned, After-from}

half_is : (c : After-cast_unsigned) → c.args.mask / 2 + 1 ≡ 2 ^ (c.args.by - 1)
half_is c = omega (arith, double c.args.by c.requires.some, c.requires.mask)

half_small : (c : After-cast_unsigned) → 2 ^ (c.args.by - 1) ≤ 2 ^ 126
half_small c = let k : c.args.by - 1 ≤ 126 = omega (arith, c.requires.near) in pow_mono k

mask_is : (c : After-cast_unsigned) → c.args.mask ≡ 2 ^ c.args.by - 1
mask_is c = omega (arith, c.requires.mask)

pub is_upper-next-requires-clause-room : goal.is_upper-next-requires-clause-room
is_upper-next-requires-clause-room c = rw (half_is c) (half_small c)

floor_fits : (c : After-from) → FitsSigned w128 (shr_z c.args.v (2 ^ c.args.by))
floor_fits c = shr-fits w128 c.args.v (2 ^ c.args.by) c.ranges.v

next_fits : (c : After-from) → FitsSigned w128 (shr_z c.args.v (2 ^ c.args.by) +ℤ pos (from_bool c.is_upper-next.result))
next_fits c = omega (arith, ints, near_room c.args.v c.args.by c.requires.some c.ranges.v, floor_fits c, flag_small c.is_upper-next.result)

flag_is : (c : After-from) → to_z w128 (of_z w128 c.from.result) ≡ pos (from_bool c.is_upper-next.result)
flag_is c = to_z-of_z w128 c.from.result (record { sfits = c.from.type_inv }) ∙ c.from.ensures

pub overflow_add-result : goal.overflow_add-result
overflow_add-result c = rw (to_z-of_z w128 c.args.v c.ranges.v, to_z-of_z w128 _ (floor_fits c), flag_is c) (next_fits c)

pub returns : goal.returns
returns c =
    let by = c.args.by in
    let floor = shr_z c.args.v (2 ^ by) in
    let early = (goal.at.returns c).After-cast_unsigned in
    let v = to_z-of_z w128 c.args.v c.ranges.v in
    let f = to_z-of_z w128 floor (floor_fits c) in
    let bits : c.cast_unsigned.result ≡ of_z w128 c.args.v = c.cast_unsigned.ensures ∙ ap (of_z w128) v in
    let near = near_split c.args.v by c.requires.near c.ranges.v in
    let rest = bit_and (of_z w128 c.args.v) (2 ^ by - 1) in
    let part = part_of (2 ^ by) rest near.0 in
    let split : IsSplit c.args.v (2 ^ by) floor part.0 = record { rest = rest; whole = near.1; below = near.0; is_part = part.1 } in
    let upper = rw (half_is early, mask_is early, ← double by c.requires.some, bits, v, f) at c.is_upper-next.ensures in
    rw (v, f, flag_is c, to_z-of_z w128 _ (next_fits c))
    (rounds_next c.args.v (2 ^ by) floor part.0 c.args.mode split _ _ (λ h. omega (arith, ints, h))
    (λ h. omega (arith, ints, h)) (odd_test floor) (even_test floor) c.is_upper-next.result
    (upper part.0 part.1))
