use Rattle.std.proofs.Common.{◌≡◌, ◌<◌, ◌-◌, ◌/◌, ◌≤◌, ◌^◌, ℤ, pos, neg_ℤ, negsuc, ap, ◌∙◌, sym, nat_le, arith, pow_mono, to_z}
use Rattle.std.specs.Int.{w128}
use Rattle.std.proofs.lemmas.Bool.{and_parts, leb-true}
use Rattle.std.proofs.lemmas.Int.{ints}
use Rattle.std.proofs.lemmas.Nat.{pow_pos}
use Rattle.math_num.proofs.Words.{read_top}
use Rattle.vl_replay.proofs.Words.{few}
use Rattle.vl_replay.proofs.Widths.{below-zero, half-of-mask, plain-column, signed-column}
use Rattle.vl_replay.proofs.port_columns.column.Goals as goal

pub mask_of-greatest-requires : goal.mask_of-greatest-requires
mask_of-greatest-requires c = few c.args.port.now.width c.requires

pub overflow_cast-result : goal.overflow_cast-result
overflow_cast-result c =
    let h : c.args.port.now.width ≤ 127 = (let l = few c.args.port.now.width c.requires in omega (arith, l)) in
    let p : 2 ^ c.args.port.now.width ≤ 2 ^ 127 = pow_mono h in
    omega (arith, ints)

pub returns-else-width-eq128-clause-column : goal.returns-else-width-eq128-clause-column
returns-else-width-eq128-clause-column c =
    let h : c.args.port.now.width ≤ 127 = (let l = few c.args.port.now.width c.requires in omega (arith, l)) in
    let p : 2 ^ c.args.port.now.width ≤ 2 ^ 127 = pow_mono h in
    let e : to_z w128 c.mask_of-greatest.result ≡ pos (2 ^ c.args.port.now.width - 1) = omega (arith, ints) in
    ap (λ (z : ℤ). record { low = pos 0; high = z; period = c.step_of-period.result }) e
    ∙ ap (λ n. record { low = pos 0; high = pos (2 ^ c.args.port.now.width - 1); period = n }) c.step_of-period.ensures.step
    ∙ sym (plain-column c.args.port.now c.if-width-eq128.false.0 c.if-width-eq128.false.1)

pub returns-then-width-eq128-clause-column : goal.returns-then-width-eq128-clause-column
returns-then-width-eq128-clause-column c =
    let width = c.args.port.now.width in
    let some = leb-true 1 width (and_parts (nat_le 1 width) (nat_le width 128) c.requires).0 in
    let most = few width c.requires in
    let half = half-of-mask width c.mask_of-greatest.result some c.mask_of-greatest.ensures in
    let one = pow_pos (width - 1) in
    let less : width - 1 ≤ 127 = omega (arith, most) in
    let p : 2 ^ (width - 1) ≤ 2 ^ 127 = pow_mono less in
    let within : c.mask_of-greatest.result / 2 < 2 ^ 127 = omega (arith, half, one, p) in
    let low = read_top (c.mask_of-greatest.result / 2) within ∙ ap negsuc half ∙ sym (below-zero (2 ^ (width - 1)) one) in
    let high : to_z w128 (c.mask_of-greatest.result / 2) ≡ pos (2 ^ (width - 1) - 1) = omega (arith, ints, half, one, p) in
    ap (λ (z : ℤ). record { low = z; high = to_z w128 (c.mask_of-greatest.result / 2); period = c.step_of-period.result }) low
    ∙ ap (λ (z : ℤ). record { low = neg_ℤ (pos (2 ^ (width - 1))); high = z; period = c.step_of-period.result }) high
    ∙ ap (λ n. record { low = neg_ℤ (pos (2 ^ (width - 1))); high = pos (2 ^ (width - 1) - 1); period = n }) c.step_of-period.ensures.step
    ∙ sym (signed-column c.args.port.now c.if-width-eq128.either)
