use Rattle.std.proofs.Common.{◌≡◌, ◌+◌, ◌*◌, ◌/◌, ◌%◌, ◌-◌, ◌^◌, ◌<◌, ◌≤◌, ℕ, pos, sym, subst, to_z, arith, pow_pos, pow_mono, mod-lt}
use Rattle.std.specs.Int.{w128}
use Rattle.std.proofs.lemmas.Int.{ints}
use Rattle.std.proofs.lemmas.Nat.{one_shl, and_mask, shr_le}
use Rattle.fx_round.specs.inner.Parts.{IsPart}
use Rattle.math_num.proofs.Arithmetic.{double}
use Rattle.fx_round.proofs.Sizes.{halved_whole, halved_past}
use Rattle.fx_round.proofs.stored.power_quotient.Goals as goal

unit_of : (by : ℕ) → by ≤ 126 → (1 * 2 ^ by) % 2 ^ 128 ≡ 2 ^ by
unit_of by h = let k : by < 128 = omega arith in one_shl by 128 k

pub part_of-part-requires-clause-unit : goal.part_of-part-requires-clause-unit
part_of-part-requires-clause-unit c =
    let k : c.args.by ≤ 127 = omega (arith, c.requires.few) in
    let p : 2 ^ c.args.by ≤ 2 ^ 127 = pow_mono k in
    rw (unit_of c.args.by c.requires.few) p

pub part_of-part-requires-clause-below : goal.part_of-part-requires-clause-below
part_of-part-requires-clause-below c = rw (unit_of c.args.by c.requires.few, and_mask c.args.mixed.whole c.args.by) (mod-lt c.args.mixed.whole (pow_pos c.args.by))

pub returns-then-mixed-eq0 : goal.returns-then-mixed-eq0
returns-then-mixed-eq0 c =
    let p : IsPart (2 ^ c.args.by) (c.args.mixed.whole % 2 ^ c.args.by) c.part_of-part.result =
    rw (unit_of c.args.by c.requires.few, and_mask c.args.mixed.whole c.args.by) at c.part_of-part.ensures in
    let f : to_z w128 (c.args.mixed.whole / 2 ^ c.args.by) ≡ pos (c.args.mixed.whole / 2 ^ c.args.by) = omega (arith, ints, shr_le c.args.mixed.whole c.args.by, c.requires.whole) in
    halved_whole c.args.mixed.whole c.args.mixed.rest c.args.unit c.args.by c.part_of-part.result _ c.requires.rest f c.if-mixed-eq0.true p

pub returns-else-mixed-eq0 : goal.returns-else-mixed-eq0
returns-else-mixed-eq0 c =
    let t = double c.args.by c.requires.some in
    let p : IsPart (2 * 2 ^ (c.args.by - 1)) (c.args.mixed.whole % 2 ^ c.args.by) c.part_of-part.result =
    subst (λ (u : ℕ). IsPart u (c.args.mixed.whole % 2 ^ c.args.by) c.part_of-part.result) t
    (rw (unit_of c.args.by c.requires.few, and_mask c.args.mixed.whole c.args.by) at c.part_of-part.ensures) in
    let f : to_z w128 (c.args.mixed.whole / 2 ^ c.args.by) ≡ pos (c.args.mixed.whole / 2 ^ c.args.by) = omega (arith, ints, shr_le c.args.mixed.whole c.args.by, c.requires.whole) in
    let more : 0 < c.args.mixed.rest = omega (arith, c.if-mixed-eq0.false) in
    let q : IsPart (c.args.unit * 2 ^ c.args.by) (c.args.mixed.whole % 2 ^ c.args.by * c.args.unit + c.args.mixed.rest) c.past.result =
    subst (λ (u : ℕ). IsPart (c.args.unit * u) (c.args.mixed.whole % 2 ^ c.args.by * c.args.unit + c.args.mixed.rest) c.past.result) (sym t)
    (c.past.ensures (2 ^ (c.args.by - 1)) (c.args.mixed.whole % 2 ^ c.args.by) c.args.unit c.args.mixed.rest (pow_pos (c.args.by - 1)) more c.requires.rest p) in
    halved_past c.args.mixed.whole c.args.mixed.rest c.args.unit c.args.by c.past.result _ c.requires.rest f q
