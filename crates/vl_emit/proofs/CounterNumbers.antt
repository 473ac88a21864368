-- A counter's numbers, and what they are of the frame.
use Rattle.std.proofs.Common.{◌≡◌, ◌≢◌, ℕ, zero, suc, ◌+◌, ◌-◌, ◌*◌, ◌<◌, ◌≤◌, ◌==◌, if◌then◌else◌, refl, ap, sym, ◌∙◌, arith, add-one, ℤ, pos, ◌+ℤ◌}
use Rattle.std.proofs.lemmas.Int.{ints}
use Rattle.std.proofs.lemmas.Bool.{cond_both, eqb-true}
use Rattle.hw_net.specs.declared.netlist.Frame.{Frame}
use Rattle.hw_net.specs.Registers.{Wave, IsCounter}
use Rattle.hw_net.specs.NetRows.{span_of}

-- the number of a frame's counter at a clock
abbrev pub count_of : ℕ → Frame → ℕ → ℕ
count_of cycles frame zero = frame.latency * cycles + (frame.period * cycles - 1)
count_of cycles frame (suc clock) =
    if count_of cycles frame clock == 0 then frame.period * cycles - 1 else count_of cycles frame clock - 1

module _ (cycles : ℕ) (frame : Frame) (some : 0 < frame.period * cycles) where
  abbrev most : ℕ
  most = frame.latency * cycles + (frame.period * cycles - 1)

  pub count-most : (clock : ℕ) → count_of cycles frame clock ≤ frame.latency * cycles + (frame.period * cycles - 1)
  count-most zero = omega arith
  count-most (suc clock) =
      let before = count-most clock in
      cond_both (count_of cycles frame clock == 0) (frame.period * cycles - 1) (count_of cycles frame clock - 1) (λ (n : ℕ). n ≤ most)
      (λ is. omega arith) (λ is. omega (arith, before))

  pub counts-down : (n : ℕ) (wave : Wave) → ((clock : ℕ) → clock < n → wave clock ≡ pos (count_of cycles frame clock)) → IsCounter n (span_of cycles frame) wave
  counts-down n wave is = record {
    begins = λ h. is 0 h ∙ ap pos (omega (arith, some));
    falls = λ c h other. falls c h (λ none. other (is c (omega (arith, h)) ∙ ap pos none));
    wraps = λ c h none. wraps c h (zero-of (count_of cycles frame c) (sym (is c (omega (arith, h))) ∙ none));
  } where
    zero-of : (k : ℕ) → pos k ≡ pos 0 → k ≡ 0
    zero-of k e = omega (arith, ints, e)

    next : (c : ℕ) → c + 1 < n → wave (c + 1) ≡ pos (count_of cycles frame (suc c))
    next c h = ap wave (add-one c) ∙ is (suc c) (omega (arith, h))

    falls : (c : ℕ) → c + 1 < n → count_of cycles frame c ≢ 0 → wave (c + 1) +ℤ pos 1 ≡ wave c
    falls c h more =
        let down : count_of cycles frame (suc c) ≡ count_of cycles frame c - 1 =
        cond_both (count_of cycles frame c == 0) (frame.period * cycles - 1) (count_of cycles frame c - 1) (λ (k : ℕ). k ≡ count_of cycles frame c - 1)
        (λ yes. absurd (more (eqb-true (count_of cycles frame c) 0 yes))) (λ no. refl) in
        let back : count_of cycles frame (suc c) + 1 ≡ count_of cycles frame c = omega (arith, down, more) in
        ap (λ (z : ℤ). z +ℤ pos 1) (next c h) ∙ ap pos back ∙ sym (is c (omega (arith, h)))

    wraps : (c : ℕ) → c + 1 < n → count_of cycles frame c ≡ 0 → wave (c + 1) ≡ pos (frame.period * cycles - 1)
    wraps c h none = next c h ∙ ap (λ (k : ℕ). pos (if k == 0 then frame.period * cycles - 1 else k - 1)) none
