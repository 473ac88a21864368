use Rattle.std.proofs.Common.{◌≡◌, ◌^◌, ℤ, ◌*ℤ◌, FitsSigned, to_z, of_z, arith, rules}
use Rattle.std.specs.Int.{w64}
use Rattle.std.proofs.lemmas.Int.{ints, to_z-of_z}
use Rattle.dg_blocks.specs.Narrow.{IsShifted, IsSmall, bias_for}
use Rattle.dg_blocks.proofs.NarrowWords.{narrow_converts, bias_range}
use Rattle.dg_blocks.proofs.narrow.Narrow.settled.Goals as goal

-- the scaled number, as the code has it
scaled_is : (v scale : ℤ) → FitsSigned w64 v → FitsSigned w64 scale → IsSmall (v *ℤ scale) → to_z w64 (of_z w64 (to_z w64 (of_z w64 v) *ℤ to_z w64 (of_z w64 scale))) ≡ v *ℤ scale
scaled_is v scale f g small =
    let p : FitsSigned w64 (v *ℤ scale) = omega (arith, ints, small.low, small.high) in
    rw (to_z-of_z w64 v f, to_z-of_z w64 scale g) (to_z-of_z w64 (v *ℤ scale) p)

pub biased_shift-requires-clause-small : goal.biased_shift-requires-clause-small
biased_shift-requires-clause-small c =
    let f : FitsSigned w64 c.args.self.scale = search rules in
    rw (scaled_is c.args.v c.args.self.scale c.ranges.v f c.requires.small) c.requires.small

pub biased_shift-requires-clause-bias : goal.biased_shift-requires-clause-bias
biased_shift-requires-clause-bias c =
    let n = c.requires.narrow in
    let k = to_z-of_z w64 c.bias_for.result (record { sfits = c.bias_for.type_inv }) in
    rw (k, c.bias_for.ensures) (bias_range c.args.self n.0 n.1 n.2 (to_z w64 (of_z w64 (to_z w64 (of_z w64 c.args.v) *ℤ to_z w64 (of_z w64 c.args.self.scale)))) n.4.shifts)

pub returns : goal.returns
returns c from to mode saturate is =
    let f : FitsSigned w64 c.args.self.scale = search rules in
    let p = scaled_is c.args.v c.args.self.scale c.ranges.v f c.requires.small in
    let k = to_z-of_z w64 c.bias_for.result (record { sfits = c.bias_for.type_inv }) in
    let r = to_z-of_z w64 c.biased_shift.result (record { sfits = c.biased_shift.type_inv }) in
    let t = to_z-of_z w64 c.stored_value.result (record { sfits = c.stored_value.type_inv }) in
    let q : c.bias_for.result ≡ bias_for (c.args.v *ℤ c.args.self.scale) c.args.self.bias c.args.self.below = rw p at c.bias_for.ensures in
    let shifted : IsShifted (c.args.v *ℤ c.args.self.scale)
    (bias_for (c.args.v *ℤ c.args.self.scale) c.args.self.bias c.args.self.below) c.args.self.even
    (2 ^ c.args.self.down) c.biased_shift.result = rw (p, k, q) at c.biased_shift.ensures.shifted in
    rw t (narrow_converts c.args.self from to mode saturate c.args.v c.biased_shift.result c.stored_value.result is shifted (rw r at (c.stored_value.ensures to saturate is.ends)))

pub overflow_mul-scaled : goal.overflow_mul-scaled
overflow_mul-scaled c =
    let f : FitsSigned w64 c.args.self.scale = search rules in
    let p : FitsSigned w64 (c.args.v *ℤ c.args.self.scale) = omega (arith, ints, c.requires.small.low, c.requires.small.high) in
    rw (to_z-of_z w64 c.args.v c.ranges.v, to_z-of_z w64 c.args.self.scale f) p

pub stored_value-requires-clause-ends : goal.stored_value-requires-clause-ends
stored_value-requires-clause-ends c = (c.requires.narrow.1, c.requires.narrow.3, c.requires.narrow.4.ends)

pub biased_shift-requires-clause-down : goal.biased_shift-requires-clause-down
biased_shift-requires-clause-down c = c.requires.narrow.4.shifts.down_below
