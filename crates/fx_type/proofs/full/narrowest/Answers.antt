use Rattle.std.proofs.Common.{negsuc, ◌-ℤ◌, nat_abs, to_z, of_z, arith}
use Rattle.std.specs.Int.{w16, w128}
use Rattle.std.proofs.lemmas.Int.{ints, to_z-of_z}
use Rattle.fx_type.proofs.Narrow.{IsLength, signed_type, unsigned_type}
use Rattle.fx_type.proofs.full.narrowest.Goals as goal

pub returns-then-span-lt0 : goal.returns-then-span-lt0
returns-then-span-lt0 c =
    let h = nat_abs (to_z w128 (of_z w128 c.args.span.high)) in
    let l = nat_abs (to_z w128 (of_z w128 (negsuc 0 -ℤ to_z w128 (of_z w128 c.args.span.low)))) in
    let above : IsLength h c.bit_length-above.result = record { enough = c.bit_length-above.ensures.enough; least = c.bit_length-above.ensures.least; bound = c.bit_length-above.ensures.bound } in
    let below : IsLength l c.bit_length-below.result = record { enough = c.bit_length-below.ensures.enough; least = c.bit_length-below.ensures.least; bound = c.bit_length-below.ensures.bound } in
    rw (to_z-of_z w16 c.args.frac c.ranges.frac)
    (signed_type c.args.span.low c.args.span.high c.args.frac h c.bit_length-above.result (omega (arith, ints)) above c.requires.least c.requires.greatest
    l c.bit_length-below.result c.max-then-span-lt0.result (omega (arith, ints)) below (omega arith))

pub returns-else-span-lt0 : goal.returns-else-span-lt0
returns-else-span-lt0 c =
    let h = nat_abs (to_z w128 (of_z w128 c.args.span.high)) in
    let above : IsLength h c.bit_length-above.result = record { enough = c.bit_length-above.ensures.enough; least = c.bit_length-above.ensures.least; bound = c.bit_length-above.ensures.bound } in
    rw (to_z-of_z w16 c.args.frac c.ranges.frac)
    (unsigned_type c.args.span.low c.args.span.high c.args.frac h c.bit_length-above.result (omega (arith, ints)) above c.requires.least c.requires.greatest
    c.max-else-span-lt0.result (omega (arith, ints)) (omega arith))

pub overflow_add-result : goal.overflow_add-result
overflow_add-result c = omega (arith, ints)

pub overflow_cast-span : goal.overflow_cast-span
overflow_cast-span c = omega (arith, ints)

pub overflow_cast-span-then-span-lt0 : goal.overflow_cast-span-then-span-lt0
overflow_cast-span-then-span-lt0 c = omega (arith, ints)

pub overflow_sub-span : goal.overflow_sub-span
overflow_sub-span c = omega (arith, ints)
