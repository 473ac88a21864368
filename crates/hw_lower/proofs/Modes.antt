-- The whole number below a quotient, and a carry of one bit: what each mode gives.
use Rattle.std.proofs.Common.{◌≡◌, ◌↔◌, ◌⊎◌, inl, inr, ℕ, zero, suc, ◌+◌, ◌-◌, ◌*◌, ◌/◌, ◌^◌, ◌<◌, ◌≤◌, ◌<ℤ◌, ◌≤ℤ◌, Bool, true, false, ℤ, pos, negsuc, neg_ℤ, ◌+ℤ◌, ◌*ℤ◌, ap, sym, ◌∙◌, subst, arith}
use Rattle.std.proofs.Common.{refl, pow_pos, pow_mono, div-add-mod'}
use Rattle.std.proofs.Math.Nat.{mul-le-mul_left}
use Rattle.std.proofs.lemmas.Int.{ints}
use Rattle.math_num.specs.Word.{IsWord, InWord}
use Rattle.math_num.proofs.Arithmetic.{double, next-scaled}
use Rattle.fx_type.specs.declared.rounding.Rounding.{Rounding}
use Rattle.fx_type.specs.declared.rounding.Rounding.TheVariants.{Floor, Ceiling, Zero, Nearest, Round, Convergent}
use Rattle.fx_type.specs.Conversion.{IsEven, RoundsDown, RoundsUp, RoundsTiesUp, RoundsTiesDown, RoundsTiesEven, Rounds, IsTruthOf}
use Rattle.math_num.specs.Bits.{low_bits, shifted_down}
use Rattle.hw_lower.specs.inner.PlanSteps.{bit_of, IsChosen, IsPastTie}
use Rattle.math_num.proofs.Words.{size-half}
use Rattle.hw_net.proofs.Words.{only-sign}
use Rattle.hw_lower.proofs.LowBits.{low-below, whole-is, bit-small}
use Rattle.hw_net.proofs.Words.{split-low}

-- 0 or 1
pub two-cases : (n : ℕ) → n < 2 → (n ≡ 0) ⊎ (n ≡ 1)
two-cases zero h = inl refl
two-cases (suc zero) h = inr refl
two-cases (suc (suc n)) h = absurd (omega arith)

pub bit-cases : (z : ℤ) → InWord 1 false z → (z ≡ pos 0) ⊎ (z ≡ pos 1)
bit-cases (pos n) has =
    elim (two-cases n (omega (arith, ints, has.high))) [
      | inl e ↦ inl (ap pos e)
      | inr e ↦ inr (ap pos e)
    ]
bit-cases (negsuc n) has = absurd (omega (arith, ints, has.low))

none-or-some : (n : ℕ) → (n ≡ 0) ⊎ (0 < n)
none-or-some zero = inl refl
none-or-some (suc n) = inr (omega arith)

module _ (n : ℤ) (d : ℕ) (floor : ℤ) (rest : ℕ) (whole : n ≡ floor *ℤ pos d +ℤ pos rest) (below : rest < d) where
  down-low : RoundsDown n d floor
  down-low = record { at_most = omega (arith, ints, whole); next_above = omega (arith, ints, whole) }

  up-low : rest ≡ 0 → RoundsUp n d floor
  up-low h = record { at_least = omega (arith, ints, whole); previous_below = omega (arith, ints, whole) }

  up-high : 0 < rest → RoundsUp n d (floor +ℤ pos 1)
  up-high h = let e = next-scaled floor d in record { at_least = omega (arith, ints, whole, e); previous_below = omega (arith, ints, whole, e) }

  ties-up-low : 2 * rest < d → RoundsTiesUp n d floor
  ties-up-low h = record { above = omega (arith, ints, whole); at_most = omega (arith, ints, whole) }

  ties-up-high : d ≤ 2 * rest → RoundsTiesUp n d (floor +ℤ pos 1)
  ties-up-high h = let e = next-scaled floor d in record { above = omega (arith, ints, whole, e); at_most = omega (arith, ints, whole, e) }

  ties-down-low : 2 * rest ≤ d → RoundsTiesDown n d floor
  ties-down-low h = record { at_least = omega (arith, ints, whole); below = omega (arith, ints, whole) }

  ties-down-high : d < 2 * rest → RoundsTiesDown n d (floor +ℤ pos 1)
  ties-down-high h = let e = next-scaled floor d in record { at_least = omega (arith, ints, whole, e); below = omega (arith, ints, whole, e) }

  even-low : 2 * rest < d → RoundsTiesEven n d floor
  even-low h = record {
    at_least = omega (arith, ints, whole);
    at_most = omega (arith, ints, whole);
    even_below = λ t. absurd (omega (arith, ints, whole, t));
    even_above = λ t. absurd (omega (arith, ints, whole, t));
  }

  even-high : d < 2 * rest → RoundsTiesEven n d (floor +ℤ pos 1)
  even-high h = let e = next-scaled floor d in record {
    at_least = omega (arith, ints, whole, e);
    at_most = omega (arith, ints, whole, e);
    even_below = λ t. absurd (omega (arith, ints, whole, t, e));
    even_above = λ t. absurd (omega (arith, ints, whole, t, e));
  }

  tie-low : 2 * rest ≡ d → IsEven floor → RoundsTiesEven n d floor
  tie-low h even = record {
    at_least = omega (arith, ints, whole, h);
    at_most = omega (arith, ints, whole, h);
    even_below = λ t. even;
    even_above = λ t. absurd (omega (arith, ints, whole, t, h, below));
  }

  tie-high : 2 * rest ≡ d → IsEven (floor +ℤ pos 1) → RoundsTiesEven n d (floor +ℤ pos 1)
  tie-high h even = let e = next-scaled floor d in record {
    at_least = omega (arith, ints, whole, h, e);
    at_most = omega (arith, ints, whole, h, e);
    even_below = λ t. absurd (omega (arith, ints, whole, t, h, e, below));
    even_above = λ t. even;
  }

-- an even or an odd number, by its last bit
even-low-bit : (z : ℤ) → low_bits 1 z ≡ 0 → IsEven z
even-low-bit (pos n) e = (pos (n / 2), omega (arith, ints, e))
even-low-bit (negsuc n) e = (negsuc (n / 2), omega (arith, ints, e))

odd-low-bit : (z : ℤ) → low_bits 1 z ≡ 1 → IsEven (z +ℤ pos 1)
odd-low-bit (pos n) e = (pos (n / 2 + 1), omega (arith, ints, e))
odd-low-bit (negsuc n) e = (neg_ℤ (pos (n / 2)), omega (arith, ints, e))

-- the sign of a number of a signed word is its highest bit
pub sign-bit : (width : ℕ) (v : ℤ) → InWord width true v → (pos 0 ≤ℤ v → bit_of v (width - 1) ≡ 0) × (v <ℤ pos 0 → bit_of v (width - 1) ≡ 1)
sign-bit width (pos n) has = (λ h. ap (low_bits 1) (only-sign (pos n) (width - 1) (size-half width (pos n) has)) ∙ omega arith, λ h. absurd (omega (arith, ints, h)))
sign-bit width (negsuc n) has = (λ h. absurd (omega (arith, ints, h)), λ h. ap (low_bits 1) (only-sign (negsuc n) (width - 1) (size-half width (negsuc n) has)) ∙ omega arith)

module _ (v : ℤ) (k : ℕ) where
  -- the highest of the lost bits, and those below it
  lost : 1 ≤ k → low_bits k v ≡ bit_of v (k - 1) * 2 ^ (k - 1) + low_bits (k - 1) v
  lost some = let e : k ≡ 1 + (k - 1) = omega arith in ap (λ (i : ℕ). low_bits i v) e ∙ split-low 1 (k - 1) v

  pub floor-rounds : (result : ℤ) → result ≡ shifted_down v k → Rounds Floor v (2 ^ k) result
  floor-rounds result is = subst (Rounds Floor v (2 ^ k)) (sym is) (down-low v (2 ^ k) (shifted_down v k) (low_bits k v) (whole-is k v) (low-below k v))

  pub ceiling-rounds : (low carry result : ℤ) → (low ≡ pos 0) ↔ (low_bits k v ≡ 0) → IsTruthOf low carry → result ≡ shifted_down v k +ℤ carry → Rounds Ceiling v (2 ^ k) result
  ceiling-rounds low carry result lows truth is =
      let whole = whole-is k v in
      let below = low-below k v in
      elim (none-or-some (low_bits k v)) [
        | inl none ↦
            let same : result ≡ shifted_down v k = omega (arith, ints, is, truth.zero (lows.1 none)) in
            subst (Rounds Ceiling v (2 ^ k)) (sym same) (up-low v (2 ^ k) (shifted_down v k) (low_bits k v) whole below none)
        | inr some ↦
            let one : carry ≡ pos 1 = truth.one (λ e. absurd (omega (arith, lows.0 e, some))) in
            let same : result ≡ shifted_down v k +ℤ pos 1 = is ∙ ap (λ (z : ℤ). shifted_down v k +ℤ z) one in
            subst (Rounds Ceiling v (2 ^ k)) (sym same) (up-high v (2 ^ k) (shifted_down v k) (low_bits k v) whole below some)
      ]

  -- of a signed word
  pub zero-rounds : (width : ℕ) (low sign carry result : ℤ) → InWord width true v → (low ≡ pos 0) ↔ (low_bits k v ≡ 0) → sign ≡ pos (bit_of v (width - 1)) → IsChosen low sign (pos 0) carry
      → result ≡ shifted_down v k +ℤ carry → Rounds Zero v (2 ^ k) result
  zero-rounds width low sign carry result has lows signs chosen is = record {
    not_negative = λ h.
        let none : sign ≡ pos 0 = signs ∙ ap pos ((sign-bit width v has).0 h) in
        let zero_carry : carry ≡ pos 0 =
        elim (none-or-some (low_bits k v)) [
          | inl e ↦ chosen.zero (lows.1 e)
          | inr some ↦ chosen.any (λ e. absurd (omega (arith, lows.0 e, some))) ∙ none
        ] in
        floor-rounds result (is ∙ omega (arith, ints, zero_carry));
    negative = λ h.
        let one : sign ≡ pos 1 = signs ∙ ap pos ((sign-bit width v has).1 h) in
        ceiling-rounds low carry result lows (record { zero = chosen.zero; one = λ e. chosen.any e ∙ one }) is;
  }

  -- of an unsigned word
  pub zero-down : (width : ℕ) (result : ℤ) → InWord width false v → result ≡ shifted_down v k → Rounds Zero v (2 ^ k) result
  zero-down width result has is = record { not_negative = λ h. floor-rounds result is; negative = λ h. absurd (omega (arith, ints, has.low, h)) }

  -- ties away from 0, of a number that isn't negative
  pub nearest-round : (result : ℤ) → pos 0 ≤ℤ v → Rounds Nearest v (2 ^ k) result → Rounds Round v (2 ^ k) result
  nearest-round result least nearest = record { not_negative = λ h. nearest; negative = λ h. absurd (omega (arith, ints, least, h)) }

  module _ (some : 1 ≤ k) where
    twice : 2 ^ k ≡ 2 * 2 ^ (k - 1)
    twice = double k some

    pub nearest-rounds : (half result : ℤ) → half ≡ pos (bit_of v (k - 1)) → result ≡ shifted_down v k +ℤ half → Rounds Nearest v (2 ^ k) result
    nearest-rounds half result halves is =
        let whole = whole-is k v in
        let below = low-below k v in
        let less = low-below (k - 1) v in
        elim (two-cases (bit_of v (k - 1)) (bit-small v (k - 1))) [
          | inl e ↦
              let same : result ≡ shifted_down v k = omega (arith, ints, is, halves, e) in
              let rest : low_bits k v ≡ low_bits (k - 1) v = lost some ∙ ap (λ (i : ℕ). i * 2 ^ (k - 1) + low_bits (k - 1) v) e ∙ omega arith in
              subst (Rounds Nearest v (2 ^ k)) (sym same) (ties-up-low v (2 ^ k) (shifted_down v k) (low_bits k v) whole below (omega (arith, rest, less, twice)))
          | inr e ↦
              let same : result ≡ shifted_down v k +ℤ pos 1 = is ∙ ap (λ (z : ℤ). shifted_down v k +ℤ z) (halves ∙ ap pos e) in
              let rest : low_bits k v ≡ 1 * 2 ^ (k - 1) + low_bits (k - 1) v = lost some ∙ ap (λ (i : ℕ). i * 2 ^ (k - 1) + low_bits (k - 1) v) e in
              subst (Rounds Nearest v (2 ^ k)) (sym same) (ties-up-high v (2 ^ k) (shifted_down v k) (low_bits k v) whole below (omega (arith, rest, twice)))
        ]

    pub round-rounds : (width : ℕ) (half sign tie carry result : ℤ) → InWord width true v → half ≡ pos (bit_of v (k - 1)) → sign ≡ pos (bit_of v (width - 1)) → IsChosen sign (pos 0) half tie
        → IsPastTie (low_bits (k - 1) v) half tie carry → result ≡ shifted_down v k +ℤ carry → Rounds Round v (2 ^ k) result
    round-rounds width half sign tie carry result has halves signs ties past is = record {
      not_negative = λ h.
          let none : sign ≡ pos 0 = signs ∙ ap pos ((sign-bit width v has).0 h) in
          let same : carry ≡ half =
          elim (none-or-some (low_bits (k - 1) v)) [
            | inl e ↦ past.none e ∙ ties.zero none
            | inr more ↦ past.some more
          ] in
          nearest-rounds half result halves (is ∙ ap (λ (z : ℤ). shifted_down v k +ℤ z) same);
      negative = λ h.
          let one : sign ≡ pos 1 = signs ∙ ap pos ((sign-bit width v has).1 h) in
          let no_tie : tie ≡ pos 0 = ties.any (λ e. absurd (omega (arith, ints, e, one))) in
          let whole = whole-is k v in
          let below = low-below k v in
          let less = low-below (k - 1) v in
          elim (two-cases (bit_of v (k - 1)) (bit-small v (k - 1))) [
            | inl e ↦
                let none : carry ≡ pos 0 =
                elim (none-or-some (low_bits (k - 1) v)) [
                  | inl z ↦ past.none z ∙ no_tie
                  | inr more ↦ past.some more ∙ halves ∙ ap pos e
                ] in
                let same : result ≡ shifted_down v k = omega (arith, ints, is, none) in
                let rest : low_bits k v ≡ low_bits (k - 1) v = lost some ∙ ap (λ (i : ℕ). i * 2 ^ (k - 1) + low_bits (k - 1) v) e ∙ omega arith in
                subst (RoundsTiesDown v (2 ^ k)) (sym same) (ties-down-low v (2 ^ k) (shifted_down v k) (low_bits k v) whole below (omega (arith, rest, less, twice)))
            | inr e ↦
                let rest : low_bits k v ≡ 1 * 2 ^ (k - 1) + low_bits (k - 1) v = lost some ∙ ap (λ (i : ℕ). i * 2 ^ (k - 1) + low_bits (k - 1) v) e in
                elim (none-or-some (low_bits (k - 1) v)) [
                  | inl z ↦
                      let same : result ≡ shifted_down v k = omega (arith, ints, is, past.none z, no_tie) in
                      subst (RoundsTiesDown v (2 ^ k)) (sym same) (ties-down-low v (2 ^ k) (shifted_down v k) (low_bits k v) whole below (omega (arith, rest, z, twice)))
                  | inr more ↦
                      let same : result ≡ shifted_down v k +ℤ pos 1 = is ∙ ap (λ (z : ℤ). shifted_down v k +ℤ z) (past.some more ∙ halves ∙ ap pos e) in
                      subst (RoundsTiesDown v (2 ^ k)) (sym same) (ties-down-high v (2 ^ k) (shifted_down v k) (low_bits k v) whole below (omega (arith, rest, more, twice)))
                ]
          ];
    }

    pub convergent-rounds : (half odd tie carry result : ℤ) → half ≡ pos (bit_of v (k - 1)) → odd ≡ pos (bit_of v k) → IsChosen half odd (pos 0) tie
        → IsPastTie (low_bits (k - 1) v) half tie carry → result ≡ shifted_down v k +ℤ carry → Rounds Convergent v (2 ^ k) result
    convergent-rounds half odd tie carry result halves odds ties past is =
        let whole = whole-is k v in
        let below = low-below k v in
        let less = low-below (k - 1) v in
        elim (two-cases (bit_of v (k - 1)) (bit-small v (k - 1))) [
          | inl e ↦
              let no_half : half ≡ pos 0 = halves ∙ ap pos e in
              let none : carry ≡ pos 0 =
              elim (none-or-some (low_bits (k - 1) v)) [
                | inl z ↦ past.none z ∙ ties.zero no_half
                | inr more ↦ past.some more ∙ no_half
              ] in
              let same : result ≡ shifted_down v k = omega (arith, ints, is, none) in
              let rest : low_bits k v ≡ low_bits (k - 1) v = lost some ∙ ap (λ (i : ℕ). i * 2 ^ (k - 1) + low_bits (k - 1) v) e ∙ omega arith in
              subst (Rounds Convergent v (2 ^ k)) (sym same) (even-low v (2 ^ k) (shifted_down v k) (low_bits k v) whole below (omega (arith, rest, less, twice)))
          | inr e ↦
              let one : half ≡ pos 1 = halves ∙ ap pos e in
              let rest : low_bits k v ≡ 1 * 2 ^ (k - 1) + low_bits (k - 1) v = lost some ∙ ap (λ (i : ℕ). i * 2 ^ (k - 1) + low_bits (k - 1) v) e in
              elim (none-or-some (low_bits (k - 1) v)) [
                | inl z ↦
                    let at_tie : 2 * low_bits k v ≡ 2 ^ k = omega (arith, rest, z, twice) in
                    let last : carry ≡ odd = past.none z ∙ ties.any (λ f. absurd (omega (arith, ints, f, one))) in
                    elim (two-cases (bit_of v k) (bit-small v k)) [
                      | inl even ↦
                          let same : result ≡ shifted_down v k = omega (arith, ints, is, last, odds, even) in
                          subst (Rounds Convergent v (2 ^ k)) (sym same) (tie-low v (2 ^ k) (shifted_down v k) (low_bits k v) whole below at_tie (even-low-bit (shifted_down v k) even))
                      | inr odd_one ↦
                          let same : result ≡ shifted_down v k +ℤ pos 1 = is ∙ ap (λ (z : ℤ). shifted_down v k +ℤ z) (last ∙ odds ∙ ap pos odd_one) in
                          subst (Rounds Convergent v (2 ^ k)) (sym same) (tie-high v (2 ^ k) (shifted_down v k) (low_bits k v) whole below at_tie (odd-low-bit (shifted_down v k) odd_one))
                    ]
                | inr more ↦
                    let same : result ≡ shifted_down v k +ℤ pos 1 = is ∙ ap (λ (z : ℤ). shifted_down v k +ℤ z) (past.some more ∙ one) in
                    subst (Rounds Convergent v (2 ^ k)) (sym same) (even-high v (2 ^ k) (shifted_down v k) (low_bits k v) whole below (omega (arith, rest, more, twice)))
              ]
        ]

bit-low : (carry : ℤ) → (carry ≡ pos 0) ⊎ (carry ≡ pos 1) → pos 0 ≤ℤ carry
bit-low carry (inl e) = omega (arith, ints, e)
bit-low carry (inr e) = omega (arith, ints, e)

bit-high : (carry : ℤ) → (carry ≡ pos 0) ⊎ (carry ≡ pos 1) → carry ≤ℤ pos 1
bit-high carry (inl e) = omega (arith, ints, e)
bit-high carry (inr e) = omega (arith, ints, e)

halved : (n k : ℕ) → 1 ≤ k → n / 2 ^ k * 2 ≤ n
halved n k some =
    let two : 2 ^ 1 ≤ 2 ^ k = pow_mono some in
    omega (arith, mul-le-mul_left (n / 2 ^ k) two, div-add-mod' n (2 ^ k))

-- the number below and a carry are in the word
pub carried-in-word : (width : ℕ) (signed : Bool) (v : ℤ) (k : ℕ) (carry : ℤ) → IsWord width signed → InWord width signed v → 1 ≤ k → (carry ≡ pos 0) ⊎ (carry ≡ pos 1)
    → InWord width signed (shifted_down v k +ℤ carry)
carried-in-word width true (pos n) k carry word has some bit =
    let one : 1 ≤ width - 1 = omega (arith, word.0) in
    let two : 2 ^ 1 ≤ 2 ^ (width - 1) = pow_mono one in
    record {
      low = omega (arith, ints, bit-low carry bit, two);
      high = omega (arith, ints, bit-high carry bit, halved n k some, has.high, two);
    }
carried-in-word width true (negsuc n) k carry word has some bit = record {
  low = omega (arith, ints, bit-low carry bit, halved n k some, has.low, pow_pos (width - 1));
  high = omega (arith, ints, bit-high carry bit, pow_pos (width - 1));
}
carried-in-word width false (pos n) k carry word has some bit =
    let two : 2 ^ 1 ≤ 2 ^ width = pow_mono word.0 in
    record {
      low = omega (arith, ints, bit-low carry bit);
      high = omega (arith, ints, bit-high carry bit, halved n k some, has.high, two);
    }
carried-in-word width false (negsuc n) k carry word has some bit = absurd (omega (arith, ints, has.low))

-- a bit is its own truth
pub bit-truth : (z : ℤ) → InWord 1 false z → IsTruthOf z z
bit-truth z has = record {
  zero = λ e. e;
  one = λ e. elim (bit-cases z has) [
    | inl none ↦ absurd (e none)
    | inr one ↦ one
  ];
}

-- no bit stands below the first
no-low : (k : ℕ) (z : ℤ) → k ≡ 0 → low_bits k z ≡ 0
no-low zero (pos n) e = omega arith
no-low zero (negsuc n) e = omega arith
no-low (suc k) z e = absurd (omega (arith, e))

pub no-rest : (k : ℕ) (z half tie : ℤ) → k ≡ 0 → IsPastTie (low_bits k z) half tie tie
no-rest k z half tie e = record { none = λ _. refl; some = λ more. absurd (omega (arith, more, no-low k z e)) }

-- a whole number is rounded to itself
whole-down : (n : ℤ) → RoundsDown n 1 n
whole-down n = record { at_most = omega (arith, ints); next_above = omega (arith, ints) }

whole-up : (n : ℤ) → RoundsUp n 1 n
whole-up n = record { at_least = omega (arith, ints); previous_below = omega (arith, ints) }

whole-ties : (n : ℤ) → RoundsTiesUp n 1 n
whole-ties n = record { above = omega (arith, ints); at_most = omega (arith, ints) }

pub rounds-whole : (mode : Rounding) (n : ℤ) → Rounds mode n 1 n
rounds-whole Floor n = whole-down n
rounds-whole Ceiling n = whole-up n
rounds-whole Zero n = record { not_negative = λ _. whole-down n; negative = λ _. whole-up n }
rounds-whole Nearest n = whole-ties n
rounds-whole Round n = record { not_negative = λ _. whole-ties n; negative = λ _. record { at_least = omega (arith, ints); below = omega (arith, ints) } }
rounds-whole Convergent n = record {
  at_least = omega (arith, ints);
  at_most = omega (arith, ints);
  even_below = λ t. absurd (omega (arith, ints, t));
  even_above = λ t. absurd (omega (arith, ints, t));
}
