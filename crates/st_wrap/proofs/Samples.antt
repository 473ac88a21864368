-- The clocks of samples as quotients and remainders.
use Rattle.std.proofs.Common.{◌≡◌, ◌≢◌, ℕ, ◌+◌, ◌-◌, ◌*◌, ◌/◌, ◌%◌, ◌<◌, ◌≤◌, ◌⊎◌, inl, inr, ⊎_elim, nat_le, true, false, ◌==◌, ◌&&◌, sym, ap, ◌∙◌, arith}
use Rattle.std.proofs.lemmas.Bool.{cases_Bool, cases_lt, eq-eqb, eqb-true, ne_eqb, leb-true, leb-false}
use Rattle.std.proofs.lemmas.Nat.{div-add-mod', div-mul-add, mod-mul-add, mod_below, mul-le}

module _ (cycles : ℕ) (some : 1 ≤ cycles) where
  below : (clock : ℕ) → clock % cycles < cycles
  below clock = mod_below clock cycles (omega (arith, some))

  whole : (clock : ℕ) → clock / cycles * cycles + clock % cycles ≡ clock
  whole clock = div-add-mod' clock cycles

  -- a clock within a sample
  within : (clock : ℕ) → clock % cycles ≢ cycles - 1 → clock + 1 ≡ clock / cycles * cycles + (clock % cycles + 1)
  within clock more = let w = whole clock in omega (arith, w)

  room : (clock : ℕ) → clock % cycles ≢ cycles - 1 → clock % cycles + 1 < cycles
  room clock more = let b = below clock in omega (arith, b, more, some)

  pub next-phase : (clock : ℕ) → clock % cycles ≢ cycles - 1 → (clock + 1) % cycles ≡ clock % cycles + 1
  next-phase clock more = ap (λ c. c % cycles) (within clock more) ∙ mod-mul-add (clock / cycles) cycles (clock % cycles + 1) (room clock more)

  pub next-same : (clock : ℕ) → clock % cycles ≢ cycles - 1 → (clock + 1) / cycles ≡ clock / cycles
  next-same clock more = ap (λ c. c / cycles) (within clock more) ∙ div-mul-add (clock / cycles) cycles (clock % cycles + 1) (room clock more)

  -- the last clock of a sample
  after : (clock : ℕ) → clock % cycles ≡ cycles - 1 → clock + 1 ≡ (clock / cycles + 1) * cycles + 0
  after clock last = let w = whole clock in omega (arith, w, last, some)

  pub next-first : (clock : ℕ) → clock % cycles ≡ cycles - 1 → (clock + 1) % cycles ≡ 0
  next-first clock last = ap (λ c. c % cycles) (after clock last) ∙ mod-mul-add (clock / cycles + 1) cycles 0 (omega (arith, some))

  pub next-sample : (clock : ℕ) → clock % cycles ≡ cycles - 1 → (clock + 1) / cycles ≡ clock / cycles + 1
  next-sample clock last = ap (λ c. c / cycles) (after clock last) ∙ div-mul-add (clock / cycles + 1) cycles 0 (omega (arith, some))

  pub zero-phase : 0 % cycles ≡ 0
  zero-phase = let e : 0 ≡ 0 * cycles + 0 = omega arith in ap (λ n. n % cycles) e ∙ mod-mul-add 0 cycles 0 (omega (arith, some))

  pub zero-sample : 0 / cycles ≡ 0
  zero-sample = let e : 0 ≡ 0 * cycles + 0 = omega arith in ap (λ n. n / cycles) e ∙ div-mul-add 0 cycles 0 (omega (arith, some))

  -- nothing is left to wait for exactly where the latest output has come
  pub waited : (latest clock : ℕ) → clock % cycles ≡ cycles - 1
      → (latest - clock / cycles == 0) ≡ nat_le ((latest + 1) * cycles - 1) clock
  waited latest clock last = by (cases_Bool (nat_le ((latest + 1) * cycles - 1) clock)) where
    clocks : clock + 1 ≡ (clock / cycles) * cycles + cycles
    clocks = let w = whole clock in omega (arith, w, last, some)

    split : (latest + 1) * cycles ≡ latest * cycles + cycles
    split = omega arith

    split-now : (clock / cycles + 1) * cycles ≡ (clock / cycles) * cycles + cycles
    split-now = omega arith

    -- the latest has come
    come : (latest + 1) * cycles - 1 ≤ clock → latest ≤ (clock / cycles)
    come h = ⊎_elim (λ more.
        let m : (clock / cycles + 1) * cycles ≤ latest * cycles = mul-le (clock / cycles + 1) cycles latest cycles (omega (arith, more)) (omega arith) in
        absurd (omega (arith, h, m, clocks, split, split-now, some)))
        (λ l. l)
        (cases_lt (clock / cycles) latest)

    -- it has not come
    open-yet : clock < (latest + 1) * cycles - 1 → (clock / cycles) < latest
    open-yet h = ⊎_elim (λ more. more) (λ fewer.
        let m : latest * cycles ≤ (clock / cycles) * cycles = mul-le latest cycles (clock / cycles) cycles fewer (omega arith) in
        absurd (omega (arith, h, m, clocks, split, some)))
        (cases_lt (clock / cycles) latest)

    by : (nat_le ((latest + 1) * cycles - 1) clock ≡ true) ⊎ (nat_le ((latest + 1) * cycles - 1) clock ≡ false)
        → (latest - clock / cycles == 0) ≡ nat_le ((latest + 1) * cycles - 1) clock
    by (inl t) = let c : latest ≤ clock / cycles = come (leb-true ((latest + 1) * cycles - 1) clock t) in
        eq-eqb (latest - clock / cycles) 0 (omega (arith, c)) ∙ sym t
    by (inr f) = let c : clock / cycles < latest = open-yet (leb-false ((latest + 1) * cycles - 1) clock f) in
        ne_eqb (latest - clock / cycles) 0 (λ e. omega (arith, c, e)) ∙ sym f

  pub due-is : (latest clock : ℕ)
      → (clock % cycles == cycles - 1 && latest - clock / cycles == 0) ≡ (clock % cycles == cycles - 1 && nat_le ((latest + 1) * cycles - 1) clock)
  due-is latest clock = ⊎_elim
      (λ t. let last : clock % cycles ≡ cycles - 1 = eqb-true (clock % cycles) (cycles - 1) t in ap (λ b. clock % cycles == cycles - 1 && b) (waited latest clock last))
      (λ f. ap (λ b. b && latest - clock / cycles == 0) f ∙ sym (ap (λ b. b && nat_le ((latest + 1) * cycles - 1) clock) f))
      (cases_Bool (clock % cycles == cycles - 1))
