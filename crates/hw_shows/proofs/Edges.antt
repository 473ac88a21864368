-- What a line shows of the entries at its source.
use Rattle.std.proofs.Common.{◌≡◌, ℕ, suc, ◌+◌, ◌-◌, ◌*◌, ◌%◌, ◌<◌, ◌≤◌, ℤ, min, Some, ◌∙◌, arith, mul-le-mul_right}
use Rattle.hw_net.specs.Registers.{Wave}
use Rattle.hw_lines.specs.Line.{Line, IsLine, IsRegistered}
use Rattle.hw_shows.specs.Shows.{Shows}
use Rattle.hw_shows.proofs.Hits.{multiple_of}
use Rattle.hw_lines.proofs.LineEnds.{part-below}

-- the line of a source of period p and latency m to a reader of period q and latency l
abbrev pub line_of : ℕ → ℕ → ℕ → ℕ → ℕ → Line
line_of cycles p m q l = record { cycles = cycles; own = record { period = p; latency = m }; reader = record { period = q; latency = l } }

module _ (clocks k n cycles p m q l r : ℕ) (entry : ℕ → ℤ) (source wave : Wave) (within : k ≤ clocks) (divides : q % p ≡ 0) (ready : r < p * cycles)
    (shows : Shows k n cycles (Some p) m r entry source) (line : IsLine clocks (line_of cycles p m q l) source wave)
  where
    -- what the source shows up to the end of its frame
    at_source : (t c : ℕ) → t < n → c < k → t % q ≡ 0 → (t + m) * cycles + r ≤ c → source (min c ((t + m + p) * cycles - 1)) ≡ entry t
    at_source t c below early hit from =
        shows.at t (min c ((t + m + p) * cycles - 1)) below (omega arith)
        (record { is_hit = multiple_of t p q hit divides; from = omega arith; until = omega arith })

    -- a plain line shows the source's entry, from where the source has shown it
    pub plain_shows : (x : ℕ) → m * cycles + r ≤ l * cycles + x → Shows k n cycles (Some q) l x entry wave
    plain_shows x later = record {
      at = λ t c below early seen.
          let from : (t + l) * cycles + x ≤ c = seen.from in
          let until : c < (t + l + q) * cycles = seen.until in
          line.shows t c (record { is_hit = seen.is_hit; below = omega arith; from = omega arith; until = omega arith })
          ∙ at_source t c below early seen.is_hit (omega arith);
    }

    -- and at the last clock of the reader's frame whatever comes between
    pub plain_ends : m ≤ l → 0 < q → (t : ℕ) → t < n → t % q ≡ 0 → (t + l + q) * cycles - 1 < k → wave ((t + l + q) * cycles - 1) ≡ entry t
    plain_ends behind some t below hit early =
        let longer : p ≤ q = part-below q p divides some in
        let c : ℕ = (t + l + q) * cycles - 1 in
        let later : m * cycles ≤ l * cycles = mul-le-mul_right cycles behind in
        let long : p * cycles ≤ q * cycles = mul-le-mul_right cycles longer in
        line.shows t c (record { is_hit = hit; below = omega arith; from = omega arith; until = omega arith })
        ∙ at_source t c below early hit (omega arith)

module _ (clocks k n cycles p m l r : ℕ) (first : ℤ) (entry : ℕ → ℤ) (source wave : Wave) (within : suc k ≤ clocks) (ready : r < p * cycles)
    (shows : Shows k n cycles (Some p) m r entry source) (line : IsRegistered clocks (line_of cycles p m p l) first source wave) (later : m * cycles + r < l * cycles)
  where
    -- a registered line shows a clock later what the source has shown
    pub registered_shows : (t c : ℕ) → t < n → c < suc k → t % p ≡ 0 → (t + l) * cycles ≤ c → c < (t + l + p) * cycles → wave c ≡ entry t
    registered_shows t c below early hit from until =
        line.shows t c (record { is_hit = hit; below = omega arith; from = from; until = omega arith })
        ∙ shows.at t (min ((t + l) * cycles - 1) ((t + m + p) * cycles - 1)) below (omega arith)
        (record { is_hit = hit; from = omega arith; until = omega arith })

    -- and its first number before
    pub registered_begins : (c : ℕ) → c < suc k → c < l * cycles → wave c ≡ first
    registered_begins c early before = line.begins c (omega arith) (omega arith)
