use Rattle.std.proofs.Common.{SFits, of_z, to_z, ◌<◌, ◌≤◌, ◌-◌, ◌^◌, pos, ◌-ℤ◌, sym, ap, subst, ◌∙◌, arith}
use Rattle.std.specs.Int.{w128}
use Rattle.std.proofs.lemmas.Bool.{false≢true}
use Rattle.std.proofs.lemmas.Int.{to_z_pos, to_z-of_z}
use Rattle.vl_ast.specs.Value.{number_of}
use Rattle.vl_eval.proofs.Numbers.{low-half, minus-fits, minus-is, minus-one-fits, narrow-wide, negative-is, positive-is, top-low}
use Rattle.vl_eval.proofs.machine.number_in.Goals as goal
use Rattle.vl_eval.proofs.machine.number_in.Goals.{else-signed-via-then-signed+else-bits-half_of, else-signed-via-else-signed}

pub overflow_cast-result : goal.overflow_cast-result
overflow_cast-result c =
    let low = top-low c.args.width c.args.bits c.requires.most (subst (λ n. n ≤ c.args.bits) c.half_of.ensures c.if-bits-half_of.true) c.requires.fits in
    let less : c.mask_of.result - c.args.bits < 2 ^ 127 = omega (arith, low, c.mask_of.ensures) in
    record { sfits = less }

pub overflow_sub-result-then-bits-half_of : goal.overflow_sub-result-then-bits-half_of
overflow_sub-result-then-bits-half_of c =
    let low = top-low c.args.width c.args.bits c.requires.most (subst (λ n. n ≤ c.args.bits) c.half_of.ensures c.if-bits-half_of.true) c.requires.fits in
    let less : c.mask_of.result - c.args.bits < 2 ^ 127 = omega (arith, low, c.mask_of.ensures) in
    let cast = to_z_pos w128 (c.mask_of.result - c.args.bits) less in
    subst (λ z. SFits w128 (pos 0 -ℤ z)) (sym cast) (minus-fits (c.mask_of.result - c.args.bits) less)

pub overflow_sub-result-then-bits-half_of-2 : goal.overflow_sub-result-then-bits-half_of-2
overflow_sub-result-then-bits-half_of-2 c =
    let low = top-low c.args.width c.args.bits c.requires.most (subst (λ n. n ≤ c.args.bits) c.half_of.ensures c.if-bits-half_of.true) c.requires.fits in
    let n = c.mask_of.result - c.args.bits in
    let less : n < 2 ^ 127 = omega (arith, low, c.mask_of.ensures) in
    let minus = ap (λ z. to_z w128 (of_z w128 (pos 0 -ℤ z))) (to_z_pos w128 n less) ∙ to_z-of_z w128 (pos 0 -ℤ pos n) (minus-fits n less) in
    subst (λ z. SFits w128 (z -ℤ pos 1)) (sym minus) (minus-one-fits n less)

pub overflow_cast-result-else-signed : goal.overflow_cast-result-else-signed
overflow_cast-result-else-signed c = elim c.else-signed.branch [
  | else-signed-via-then-signed+else-bits-half_of w ↦ record { sfits = low-half c.args.width c.args.bits c.requires.most (subst (λ n. c.args.bits < n) w.half_of.ensures w.if-bits-half_of.false) }
  | else-signed-via-else-signed w ↦ record { sfits = narrow-wide c.args.width c.args.bits c.args.signed c.requires.most c.requires.fits c.requires.wide w.if-signed.false }
]

pub returns-then-bits-half_of : goal.returns-then-bits-half_of
returns-then-bits-half_of c =
    let high = subst (λ n. n ≤ c.args.bits) c.half_of.ensures c.if-bits-half_of.true in
    let low = top-low c.args.width c.args.bits c.requires.most high c.requires.fits in
    let n = c.mask_of.result - c.args.bits in
    let less : n < 2 ^ 127 = omega (arith, low, c.mask_of.ensures) in
    let minus = ap (λ z. to_z w128 (of_z w128 (pos 0 -ℤ z))) (to_z_pos w128 n less) ∙ to_z-of_z w128 (pos 0 -ℤ pos n) (minus-fits n less) in
    ap (λ z. to_z w128 (of_z w128 (z -ℤ pos 1))) minus ∙ to_z-of_z w128 (pos 0 -ℤ pos n -ℤ pos 1) (minus-one-fits n less)
    ∙ ap (λ k. pos 0 -ℤ pos (k - c.args.bits) -ℤ pos 1) c.mask_of.ensures ∙ minus-is c.args.width c.args.bits c.requires.fits
    ∙ sym (negative-is c.args.width c.args.bits high) ∙ ap (λ t. number_of (record { width = c.args.width; signed = t; bits = c.args.bits })) (sym c.if-signed.true)

pub returns-else-signed : goal.returns-else-signed
returns-else-signed c = elim c.else-signed.branch [
  | else-signed-via-then-signed+else-bits-half_of w ↦ (
      let low = subst (λ n. c.args.bits < n) w.half_of.ensures w.if-bits-half_of.false in
      to_z_pos w128 c.args.bits (low-half c.args.width c.args.bits c.requires.most low) ∙ sym (positive-is c.args.width c.args.bits c.args.signed (λ e. low)))
  | else-signed-via-else-signed w ↦ (
      to_z_pos w128 c.args.bits (narrow-wide c.args.width c.args.bits c.args.signed c.requires.most c.requires.fits c.requires.wide w.if-signed.false)
      ∙ sym (positive-is c.args.width c.args.bits c.args.signed (λ e. absurd (false≢true (sym w.if-signed.false ∙ e)))))
]
