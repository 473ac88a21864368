-- The ends of a word, seen before a shift up.
use Rattle.std.proofs.Common.{◌≡◌, ◌↔◌, ℕ, suc, ◌+◌, ◌-◌, ◌*◌, ◌^◌, ◌<◌, ◌≤◌, ◌<ℤ◌, ◌≤ℤ◌, Bool, true, false, ℤ, pos, negsuc, neg_ℤ, ◌*ℤ◌, ap, sym, ◌∙◌, subst, arith, pow_pos, pow_mono}
use Rattle.std.specs.Int.Signed.{shr_z}
use Rattle.std.proofs.lemmas.Int.{ints, by_lt_z}
use Rattle.std.proofs.lemmas.Nat.{pow-add}
use Rattle.math_num.specs.Word.{IsWord, IsWrapped, word_lowest, word_highest}
use Rattle.math_num.proofs.Arithmetic.{IsDivided, scaled-mono, scaled-neg, unit_apart}
use Rattle.math_num.proofs.Shifts.{shr-divided, shr_exact}
use Rattle.fx_type.specs.declared.kind.FxType.TheVariants.{Num}
use Rattle.fx_type.specs.Conversion.{Saturates}
use Rattle.hw_lower.specs.declared.plan.Word.{Word}
use Rattle.hw_lower.specs.inner.PlanSteps.{IsChosen, IsHeldBelow, IsHeldAbove}
use Rattle.hw_lower.proofs.WordRests.{less-is}
use Rattle.math_num.specs.Bits.{truth}
use Rattle.std.specs.Prelude.{int_lt}
use Rattle.math_num.proofs.Words.{wrapped-is}
use Rattle.hw_net.proofs.Words.{lowest-below}

pub up-bound : (high floor : ℤ) (d : ℕ) → IsDivided high d floor → (v : ℤ) → ((v *ℤ pos d) ≤ℤ high) ↔ (v ≤ℤ floor)
up-bound high floor d is v = (
  λ h. by_lt_z floor v (λ less. absurd (omega (arith, ints, h, is.whole, is.below, unit_apart floor v d less))) (λ more. omega (arith, ints, more)),
  λ h. omega (arith, ints, is.whole, scaled-mono v floor d h),
)

pub low-bound : (low floor : ℤ) (d : ℕ) → 0 < d → low ≡ floor *ℤ pos d → (v : ℤ) → (low ≤ℤ (v *ℤ pos d)) ↔ (floor ≤ℤ v)
low-bound low floor d some is v = (
  λ h. by_lt_z v floor (λ less. absurd (omega (arith, ints, h, is, some, unit_apart v floor d less))) (λ more. omega (arith, ints, more)),
  λ h. omega (arith, ints, is, scaled-mono floor v d h),
)

pub none-bound : (high : ℤ) (d : ℕ) → pos 0 ≤ℤ high → high <ℤ pos d → (v : ℤ) → ((v *ℤ pos d) ≤ℤ high) ↔ (v ≤ℤ pos 0)
none-bound (pos h) d least less = up-bound (pos h) (pos 0) d (record { rest = h; whole = omega (arith, ints); below = omega (arith, ints, less) })
none-bound (negsuc h) d least less = absurd (omega (arith, ints, least))

pub none-low : (low : ℤ) (d : ℕ) → low ≤ℤ pos 0 → neg_ℤ (pos d) <ℤ low → (v : ℤ) → (low ≤ℤ (v *ℤ pos d)) ↔ (pos 0 ≤ℤ v)
none-low low d most more v = (
  λ h. by_lt_z v (pos 0) (λ less. absurd (omega (arith, ints, h, more, unit_apart v (pos 0) d less))) (λ more. omega (arith, ints, more)),
  λ h. omega (arith, ints, most, scaled-mono (pos 0) v d h),
)

-- the greatest
pub highest-least : (width : ℕ) (signed : Bool) → pos 0 ≤ℤ word_highest width signed
highest-least width true = omega (arith, ints)
highest-least width false = omega (arith, ints)

pub highest-small : (width : ℕ) (signed : Bool) → IsWord width signed → word_highest width signed <ℤ pos (2 ^ 127)
highest-small width true word =
    let few : width - 1 ≤ 127 = omega (arith, word.1) in
    let most : 2 ^ (width - 1) ≤ 2 ^ 127 = pow_mono few in
    omega (arith, ints, most, pow_pos (width - 1))
highest-small width false word =
    let most : 2 ^ width ≤ 2 ^ 127 = pow_mono word.1 in
    omega (arith, ints, most, pow_pos width)

pub greatest-near : (width : ℕ) (signed : Bool) (up : ℕ) (v : ℤ) → ((v *ℤ pos (2 ^ up)) ≤ℤ word_highest width signed) ↔ (v ≤ℤ shr_z (word_highest width signed) (2 ^ up))
greatest-near width signed up = up-bound (word_highest width signed) (shr_z (word_highest width signed) (2 ^ up)) (2 ^ up) (shr-divided (word_highest width signed) up)

pub greatest-far : (width : ℕ) (signed : Bool) (up : ℕ) → IsWord width signed → 127 ≤ up → (v : ℤ) → ((v *ℤ pos (2 ^ up)) ≤ℤ word_highest width signed) ↔ (v ≤ℤ pos 0)
greatest-far width signed up word past =
    let more : 2 ^ 127 ≤ 2 ^ up = pow_mono past in
    none-bound (word_highest width signed) (2 ^ up) (highest-least width signed) (omega (arith, ints, more, highest-small width signed word))

-- the least
parted : (width up : ℕ) → up < width → 2 ^ (width - 1) ≡ 2 ^ (width - 1 - up) * 2 ^ up
parted width up less = let e : width - 1 ≡ width - 1 - up + up = omega arith in ap (λ (i : ℕ). 2 ^ i) e ∙ pow-add 2 (width - 1 - up) up

pub lowest-exact : (width : ℕ) (signed : Bool) (up : ℕ) → up < width → (floor : ℤ) × ((word_lowest width signed ≡ floor *ℤ pos (2 ^ up)) × (floor ≤ℤ pos 0))
lowest-exact width true up less =
    (neg_ℤ (pos (2 ^ (width - 1 - up))), (omega (arith, ints, parted width up less, scaled-neg (pos (2 ^ (width - 1 - up))) (2 ^ up)), omega (arith, ints)))
lowest-exact width false up less = (pos 0, (omega (arith, ints), omega (arith, ints)))

pub least-near : (width : ℕ) (signed : Bool) (up : ℕ) → up < width → (v : ℤ) → (word_lowest width signed ≤ℤ (v *ℤ pos (2 ^ up))) ↔ (shr_z (word_lowest width signed) (2 ^ up) ≤ℤ v)
least-near width signed up less v =
    let exact = lowest-exact width signed up less in
    let same : shr_z (word_lowest width signed) (2 ^ up) ≡ exact.0 = ap (λ (z : ℤ). shr_z z (2 ^ up)) exact.1.0 ∙ shr_exact exact.0 up in
    subst (λ (z : ℤ). (word_lowest width signed ≤ℤ (v *ℤ pos (2 ^ up))) ↔ (z ≤ℤ v)) (sym same) (low-bound (word_lowest width signed) exact.0 (2 ^ up) (pow_pos up) exact.1.0 v)

lowest-large : (width : ℕ) (signed : Bool) (up : ℕ) → IsWord width signed → width ≤ up → neg_ℤ (pos (2 ^ up)) <ℤ word_lowest width signed
lowest-large width true up word past =
    let few : suc (width - 1) ≤ up = omega (arith, word.0) in
    let more : 2 ^ suc (width - 1) ≤ 2 ^ up = pow_mono few in
    omega (arith, ints, more, pow_pos (width - 1))
lowest-large width false up word past = omega (arith, ints, pow_pos up)

pub least-far : (width : ℕ) (signed : Bool) (up : ℕ) → IsWord width signed → width ≤ up → (v : ℤ) → (word_lowest width signed ≤ℤ (v *ℤ pos (2 ^ up))) ↔ (pos 0 ≤ℤ v)
least-far width signed up word past = none-low (word_lowest width signed) (2 ^ up) (lowest-below width signed) (lowest-large width signed up word past)

-- both ends held
pub both-held : (word : Word) (frac exact value below made : ℤ) → IsWord word.width word.signed
    → IsWrapped exact word.width word.signed value → IsHeldBelow word exact value below
    → IsHeldAbove word exact below made
    → Saturates (Num word.signed word.width frac) exact made
both-held word frac exact value below made valid wrapped high low =
    let ends : word_lowest word.width word.signed ≤ℤ word_highest word.width word.signed = omega (arith, ints, lowest-below word.width word.signed, highest-least word.width word.signed) in
    record {
      inside = λ has.
          low.within has.low ∙ high.within has.high ∙ wrapped-is exact word.width word.signed value valid (record { low = has.low; high = has.high }) wrapped;
      below = λ h. low.below h;
      above = λ h. low.within (omega (arith, ints, ends, h)) ∙ high.above h;
    }

-- beyond the end the number is beyond the bound
pub passes : (exact high v bound : ℤ) → (v ≤ℤ bound → exact ≤ℤ high) → high <ℤ exact → bound <ℤ v
passes exact high v bound f h = by_lt_z bound v (λ less. less) (λ more. absurd (omega (arith, ints, f (omega (arith, ints, more)), h)))

pub falls : (exact low v bound : ℤ) → (bound ≤ℤ v → low ≤ℤ exact) → exact <ℤ low → v <ℤ bound
falls exact low v bound f h = by_lt_z v bound (λ less. less) (λ more. absurd (omega (arith, ints, f (omega (arith, ints, more)), h)))

-- what is held at the greatest number, and at the least
chosen-end : (test end most value made : ℤ) → IsChosen test most value made → most ≡ end → test ≡ pos 1 → made ≡ end
chosen-end test end most value made chosen is one = chosen.any (λ e. absurd (omega (arith, ints, e, one))) ∙ is

pub held-below : (word : Word) (exact v bound end most test value made : ℤ)
    → (exact ≤ℤ word_highest word.width word.signed) ↔ (v ≤ℤ bound) → end ≡ bound
    → most ≡ word_highest word.width word.signed → IsWrapped (truth (int_lt end v)) 1 false test
    → IsChosen test most value made → IsHeldBelow word exact value made
held-below word exact v bound end most test value made ends is most_is less chosen =
    let high : ℤ = word_highest word.width word.signed in
    let tells = less-is end v test less in
    record {
      within = λ h. chosen.zero (tells.1 (omega (arith, ints, ends.0 h, is)));
      above =
          λ h. chosen-end test high most value made chosen most_is
          (tells.0 (omega (arith, ints, passes exact high v bound ends.1 h, is)));
    }

pub held-above : (word : Word) (exact v bound end least test value made : ℤ)
    → (word_lowest word.width word.signed ≤ℤ exact) ↔ (bound ≤ℤ v) → end ≡ bound
    → least ≡ word_lowest word.width word.signed → IsWrapped (truth (int_lt v end)) 1 false test
    → IsChosen test least value made → IsHeldAbove word exact value made
held-above word exact v bound end least test value made ends is least_is less chosen =
    let low : ℤ = word_lowest word.width word.signed in
    let tells = less-is v end test less in
    record {
      within = λ h. chosen.zero (tells.1 (omega (arith, ints, ends.0 h, is)));
      below =
          λ h. chosen-end test low least value made chosen least_is
          (tells.0 (omega (arith, ints, falls exact low v bound ends.1 h, is)));
    }
