use Rattle.std.proofs.Common.{◌≡◌, ◌^◌, ◌≤◌, ◌+◌, ℕ, pos, to_z, of_z, refl, ap, sym, ◌∙◌, arith}
use Rattle.std.specs.Int.{w16, w64}
use Rattle.std.proofs.lemmas.Int.{ints, to_z-of_z}
use Rattle.dg_blocks.proofs.NarrowWords.{one_shifted, room_up, room_down, reached, bias_within, same_way}
use Rattle.dg_blocks.proofs.narrow.Narrow.new.Goals as goal

pub returns-in-Some-gap-clause-is : goal.returns-in-Some-gap-clause-is
returns-in-Some-gap-clause-is c =
    let ends = c.in-Some.ensures.ends in
    let plain = c.in-Some.ensures.plain in
    let f = to_z-of_z w16 c.args.frac c.ranges.frac in
    let t = to_z-of_z w16 c.frac.result (record { sfits = c.frac.type_inv }) in
    let g = rw (f, t, c.frac.ensures) at c.in-Some-gap.ensures in
    record {
      ends = record { valid = ends.valid; number = ends.number; width_below = ends.width_below; saturate_is = ends.saturate_is; low_is = ends.low_is; high_is = ends.high_is };
      shifts = record {
        scale = one_shifted c.in-Some-gap.up (omega (arith, g.0)) ∙ ap (λ (k : ℕ). pos (2 ^ k)) g.1;
        down = plain.1 ∙ sym g.2;
        down_below = omega (arith, plain.1);
        whole = λ _. (plain.2, plain.3, plain.4);
        parts = λ h. absurd (omega (arith, h, plain.1));
        bias_low = omega (arith, ints, plain.2);
        bias_high = omega (arith, ints, plain.2);
        below_low = omega (arith, ints, plain.3);
        below_high = omega (arith, ints, plain.3);
      };
      way = same_way _ _ _ refl refl refl refl refl refl (c.whole_way-narrow.ensures.way plain.1);
    }

pub returns-clause-is : goal.returns-clause-is
returns-clause-is c =
    let ends = c.in-Some.ensures.ends in
    let plain = c.in-Some.ensures.plain in
    let f = to_z-of_z w16 c.args.frac c.ranges.frac in
    let t = to_z-of_z w16 c.frac-2.result (record { sfits = c.frac-2.type_inv }) in
    let g = rw (f, t, c.frac-2.ensures) at c.in-Some-gap-2.ensures in
    let some : 1 ≤ c.in-Some-gap-2.down = omega (arith, c.if-down-eq0.false) in
    let b = bias_within c.args.mode c.in-Some-gap-2.down c.bias_of-bias.result.0 c.bias_of-bias.result.1 c.bias_of-bias.result.2 some g.0 c.bias_of-bias.ensures in
    let e : to_z w64 (of_z w64 c.bias_of-bias.result.0) ≡ c.bias_of-bias.result.0 = omega (arith, ints, b.0.0, b.0.1) in
    let d : to_z w64 (of_z w64 c.bias_of-bias.result.1) ≡ c.bias_of-bias.result.1 = omega (arith, ints, b.1.0, b.1.1) in
    rw (e, d) (record {
      ends = record { valid = ends.valid; number = ends.number; width_below = ends.width_below; saturate_is = ends.saturate_is; low_is = ends.low_is; high_is = ends.high_is };
      shifts = record {
        scale = plain.0 ∙ ap (λ (k : ℕ). pos (2 ^ k)) (sym g.2);
        down = g.1;
        down_below = g.0;
        whole = λ h. absurd (c.if-down-eq0.false h);
        parts = λ _. c.bias_of-bias.ensures;
        bias_low = b.0.0;
        bias_high = b.0.1;
        below_low = b.1.0;
        below_high = b.1.1;
      };
      way = same_way _ _ _ refl refl (sym e) (sym d) refl refl c.rounding_way-narrow.ensures.way;
    })

pub returns-in-Some-gap-clause-room : goal.returns-in-Some-gap-clause-room
returns-in-Some-gap-clause-room c =
    let small : c.args.bits + c.in-Some-gap.up ≤ 61 = omega (arith, c.if-bits-up-gt61.false) in
    let ends = c.in-Some.ensures.ends in
    rw (one_shifted c.in-Some-gap.up (omega (arith, c.in-Some-gap.ensures.0))) (record {
      bits_below = omega (arith, small);
      small = λ v w. room_up c.args.bits c.in-Some-gap.up v small w;
      in_range = λ exact v w. reached c.args.to c.args.bits c.in-Some-gap.up _ _ v ends.valid ends.number ends.low_is ends.high_is (c.whole_way-narrow.ensures.reaches exact) w;
    })

pub returns-clause-room : goal.returns-clause-room
returns-clause-room c =
    let small : c.args.bits ≤ 61 = omega (arith, c.if-bits-gt61.false) in
    rw c.in-Some.ensures.plain.0 (record { bits_below = small; small = λ v w. room_down c.args.bits v small w; in_range = λ exact. absurd (c.rounding_way-narrow.ensures.rounds exact) })
