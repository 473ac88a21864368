-- Hits, and clocks of samples.
use Rattle.std.proofs.Common.{◌≡◌, ◌<◌, ◌≤◌, ◌+◌, ◌-◌, ◌*◌, ◌/◌, ◌%◌, ◌⊎◌, inl, inr, ℕ, sym, ap, ◌∙◌, arith}
use Rattle.std.proofs.lemmas.Bool.{cases_lt}
use Rattle.std.proofs.lemmas.Nat.{mod-mul-add, mod_below, div-add-mod', div-mul-add}
use Rattle.std.proofs.Math.Nat.{mul-le-mul_right}
use Rattle.vl_replay.specs.Sampled.{hit_at}

-- two such numbers are the same where they are told by the same
pub same-told : (t n p u q : ℕ) → p < n → q < n → t * n + p ≡ u * n + q → (t ≡ u) × (p ≡ q)
same-told t n p u q pl ql e = (
  sym (div-mul-add t n p pl) ∙ ap (λ k. k / n) e ∙ div-mul-add u n q ql,
  sym (mod-mul-add t n p pl) ∙ ap (λ k. k % n) e ∙ mod-mul-add u n q ql,
)

pub hit-below : (period t : ℕ) → hit_at period t ≤ t
hit-below period t = omega arith

-- the last hit is a hit
pub last-is-hit : (period t : ℕ) → 0 < period → hit_at period t % period ≡ 0
last-is-hit period t some =
    let e : t - t % period ≡ t / period * period + 0 = let d = div-add-mod' t period in omega (arith, d) in
    ap (λ n. n % period) e ∙ mod-mul-add (t / period) period 0 some

-- between hits the last hit is that of the sample before
pub hit-before : (period t : ℕ) → 0 < period → (hit_at period t ≡ t → ⊥) → hit_at period (t - 1) ≡ hit_at period t
hit-before period t some other =
    let d = div-add-mod' t period in
    let low : t % period < period = mod_below t period some in
    let rest : 0 < t % period = omega (arith, other) in
    let e : t - 1 ≡ t / period * period + (t % period - 1) = omega (arith, d, rest) in
    let less : (t - 1) % period ≡ t % period - 1 = ap (λ n. n % period) e ∙ mod-mul-add (t / period) period (t % period - 1) (omega (arith, low, rest)) in
    omega (arith, less, d, rest)

pub next-times : (a b : ℕ) → (a + 1) * b ≡ a * b + b
next-times a b = grind arith

-- samples that are less than a ring's rows apart have other rows of it
pub apart : (window t u : ℕ) → t < u → u < t + window → t % window ≡ u % window → ⊥
apart window t u less near same = by (cases_lt (t / window) (u / window)) where
  by : (t / window < u / window) ⊎ (u / window ≤ t / window) → ⊥
  by (inl up) =
      let d = div-add-mod' t window in
      let e = div-add-mod' u window in
      let le : (t / window + 1) * window ≤ u / window * window = mul-le-mul_right window (omega (arith, up)) in
      let n = next-times (t / window) window in
      omega (arith, d, e, le, n, same, near)
  by (inr down) =
      let d = div-add-mod' t window in
      let e = div-add-mod' u window in
      let le : u / window * window ≤ t / window * window = mul-le-mul_right window down in
      omega (arith, d, e, le, same, less)

-- the fewer of two products with one factor has the lesser other one
pub below-of : (a b c : ℕ) → a * c < b * c → a < b
below-of a b c less = by (cases_lt a b) where
  by : (a < b) ⊎ (b ≤ a) → a < b
  by (inl up) = up
  by (inr down) = let le : b * c ≤ a * c = mul-le-mul_right c down in absurd (omega (arith, le, less))

-- a row of a ring is within it
pub row-room : (window n row : ℕ) → row < window → row * n + n ≤ window * n
row-room window n row low =
    let le : (row + 1) * n ≤ window * n = mul-le-mul_right n (omega (arith, low)) in
    let e = next-times row n in
    omega (arith, le, e)

-- one sample more, behind so many that outputs are late
pub more-clocks : (t late clocks : ℕ) → (t + late) * clocks + clocks ≡ (t + 1 + late) * clocks
more-clocks t late clocks = grind arith
