-- The numbers that a clock puts into the cells.
use Rattle.std.proofs.Common.{◌≡◌, ◌≢◌, ◌<◌, ◌≤◌, ◌+◌, ◌-◌, ◌*◌, ◌/◌, ◌%◌, ◌==◌, ◌⊎◌, inl, inr, ℕ, zero, suc, Bool, true, false, if◌then◌else◌, List, [], ◌∷◌, length, map, slice_get, slice_index_or}
use Rattle.std.proofs.Common.{Some, ℤ, pos, refl, sym, ap, subst, ◌∙◌, arith}
use Rattle.std.proofs.lemmas.Bool.{cases_lt, eqb-true, eqb-false, false≢true}
use Rattle.std.proofs.lemmas.Nat.{mod_below, div-add-mod'}
use Rattle.std.proofs.lemmas.List.{length-map}
use Rattle.std.proofs.Math.Nat.{mul-le-mul_right}
use Rattle.vl_ast.specs.declared.modules.Port.{Port}
use Rattle.vl_ast.specs.declared.modules.Module.{Module}
use Rattle.vl_ast.specs.Driven.{output_ports, port_number}
use Rattle.vl_ast.specs.Runs.{Row, Rows}
use Rattle.vl_replay.specs.declared.samplers.Sampler.{Sampler}
use Rattle.vl_replay.specs.Sampled.{hit_at}
use Rattle.vl_replay.specs.inner.Samplers.{ArePut, cell_of, number_at, number_or_zero, sampler_of}
use Rattle.vl_replay.specs.inner.Play.{HaveCells}
use Rattle.vl_ast.proofs.Ranges.{clocks-some, step-some}
use Rattle.vl_ast.specs.Attributes.{clocks_of, lateness_of, step_of}
use Rattle.vl_replay.proofs.Times.{apart, below-of, hit-before, hit-below, next-times, same-told}
use Rattle.math_list.proofs.Places.{there_within, there_map}

pub port-at : (xs : List Port) (i : ℕ) → i < length xs → (port : Port) × (slice_get xs i ≡ Some port)
port-at [] i below = absurd (omega (arith, below))
port-at (x ∷ xs) zero below = (x, refl)
port-at (x ∷ xs) (suc i) below = port-at xs i (omega (arith, below))

pub eqb-refl : (n : ℕ) → (n == n) ≡ true
eqb-refl n = by (n == n) refl where
  by : (t : Bool) → (n == n) ≡ t → t ≡ true
  by true e = refl
  by false e = absurd (eqb-false n n e refl)

regroup : (t q f r : ℕ) → t * f + (q * f + r) ≡ (t + q) * f + r
regroup t q f r = grind arith

-- a sample's clock by its sampler
pub clock-of : (f late t : ℕ) → t * f + late ≡ (t + late / f) * f + late % f
clock-of f late t =
    let whole = div-add-mod' late f in
    ap (λ n. t * f + n) (sym whole) ∙ regroup t (late / f) f (late % f)

module _ (m : Module) (samples window sample phase : ℕ) (rows later : Rows) (row : Row) (samplers : List Sampler) (before after : List ℤ) (phase-below : phase < clocks_of m) (some-window : 0 < window)
    (samplers-are : samplers ≡ map (sampler_of (clocks_of m)) (output_ports m))
    (have : HaveCells m samples window (sample * clocks_of m + phase) rows before)
    (same : (k : ℕ) → k < 2 + (sample * clocks_of m + phase) → later k ≡ rows k)
    (next : later (2 + (sample * clocks_of m + phase)) ≡ row)
    (put : ArePut (number_at m row) samplers samples window sample phase (length samplers) before after) where
  abbrev outputs : List Port
  outputs = output_ports m

  abbrev f : ℕ
  f = clocks_of m

  abbrev now : ℕ
  now = sample * f + phase

  many : length samplers ≡ length outputs
  many = ap length samplers-are ∙ length-map outputs (sampler_of (clocks_of m))

  module _ (place : ℕ) (port : Port) (there : slice_get outputs place ≡ Some port) where
    abbrev period : ℕ
    period = step_of port

    abbrev late : ℕ
    late = lateness_of port

    abbrev cell : List ℤ → ℕ → ℤ
    cell cells t = slice_index_or cells (cell_of window (length outputs) place t) (pos 0)

    wanted : ℕ → ℤ
    wanted t = port_number port (later (2 + (hit_at period t * f + late)) port.name)

    sampled : slice_get samplers place ≡ Some (sampler_of f port)
    sampled = ap (λ (xs : List Sampler). slice_get xs place) samplers-are ∙ there_map (sampler_of f) outputs place port there

    earlier : (t : ℕ) → t < samples → t * f + late < now → (t + window < samples → now ≤ (t + window) * f + late) → cell before t ≡ wanted t
    unfolding wanted
    earlier t below past held =
        let h = hit-below period t in
        let le : hit_at period t * f ≤ t * f = mul-le-mul_right f h in
        have.at place port there t below past held ∙ ap (λ (r : Row). port_number port (r port.name)) (sym (same (2 + (hit_at period t * f + late)) (omega (arith, le, past))))

    clock-due : (t : ℕ) → late % f ≡ phase → t + late / f ≡ sample → t * f + late ≡ now
    clock-due t p q = clock-of f late t ∙ ap (λ n. n * f + late % f) q ∙ ap (λ n. sample * f + n) p

    due : (t : ℕ) → t < samples → late % f ≡ phase → t + late / f ≡ sample
        → (hit : Bool) → (hit_at period t == t) ≡ hit → (if hit then number_at m row place else cell before (t - 1)) ≡ wanted t
    unfolding wanted
    due t below p q true e =
        let own = eqb-true (hit_at period t) t e in
        ap (number_or_zero row) there
        ∙ ap (λ (r : Row). port_number port (r port.name)) (sym next)
        ∙ ap (λ n. port_number port (later (2 + n) port.name)) (sym (ap (λ h. h * f + late) own ∙ clock-due t p q))
    due t below p q false e =
        let other : hit_at period t ≢ t = λ s. absurd (false≢true (sym e ∙ ap (λ h. h == t) s ∙ eqb-refl t)) in
        let clock = clock-due t p q in
        let h = hit-below period t in
        let some : 0 < t = omega (arith, h, other) in
        let clocks = (clocks-some m).0 in
        let step : t * f ≡ (t - 1) * f + f = ap (λ n. n * f) (again t some) ∙ next-times (t - 1) f in
        let wide : t * f ≤ (t - 1 + window) * f = mul-le-mul_right f (omega (arith, some, some-window)) in
        earlier (t - 1) (omega (arith, below, some)) (omega (arith, step, clock, clocks)) (λ l. omega (arith, wide, clock))
        ∙ ap (λ h. port_number port (later (2 + (h * f + late)) port.name)) (hit-before period t (step-some port).0 other)
      where
        again : (t : ℕ) → 0 < t → t ≡ t - 1 + 1
        again t some = omega (arith, some)

    -- no other sample's number is put into its cell
    undue : (t : ℕ) → t < samples → t * f + late < now → (t + window < samples → now + 1 ≤ (t + window) * f + late)
        → (u : ℕ) → u < samples → late % f ≡ phase → u + late / f ≡ sample → u % window ≡ t % window → ⊥
    undue t below past held u u-below p q same-row =
        let clock = clock-due u p q in
        apart window t u (below-of t u f (omega (arith, clock, past))) (near (cases_lt (t + window) samples)) (sym same-row)
      where
        near : (t + window < samples) ⊎ (samples ≤ t + window) → u < t + window
        near (inl l) = let clock = clock-due u p q in let h = held l in below-of u (t + window) f (omega (arith, clock, h))
        near (inr g) = omega (arith, g, u-below)

    kept-is : (t : ℕ) → t < samples → t * f + late < now → (t + window < samples → now + 1 ≤ (t + window) * f + late) → cell after t ≡ wanted t
    kept-is t below past held =
        subst (λ (n : ℕ). slice_index_or after (t % window * n + place) (pos 0) ≡ wanted t) many
        (put.kept place (sampler_of f port) (t % window) sampled (λ u u-below low p q same-row. undue t below past held u u-below p q same-row)
        ∙ subst (λ (n : ℕ). slice_index_or before (t % window * n + place) (pos 0) ≡ wanted t) (sym many) (earlier t below past (λ l. let h = held l in omega (arith, h))))

    now-is : (t : ℕ) → t < samples → late % f ≡ phase → t + late / f ≡ sample → cell after t ≡ wanted t
    now-is t below p q =
        subst (λ (n : ℕ). slice_index_or after (t % window * n + place) (pos 0) ≡ wanted t) many
        (put.put place (sampler_of f port) t sampled (subst (λ n. place < n) (sym many) (there_within outputs place port there)) below p q
        ∙ subst (λ (n : ℕ). (if hit_at period t == t then number_at m row place else slice_index_or before
        ((t - 1) % window * n + place) (pos 0)) ≡ wanted t) (sym many)
        (due t below p q (hit_at period t == t) refl))

    after-is : (t : ℕ) → t < samples → t * f + late < now + 1 → (t + window < samples → now + 1 ≤ (t + window) * f + late) → cell after t ≡ wanted t
    after-is t below past held = by (cases_lt (t * f + late) now) where
      by : (t * f + late < now) ⊎ (now ≤ t * f + late) → cell after t ≡ wanted t
      by (inl less) = kept-is t below less held
      by (inr most) =
          let some = (clocks-some m).0 in
          let told = same-told (t + late / f) f (late % f) sample phase (mod_below late f (omega (arith, some))) phase-below (sym (clock-of f late t) ∙ omega (arith, most, past)) in
          now-is t below told.1 told.0

  pub cells-more : HaveCells m samples window (sample * clocks_of m + phase + 1) later after
  unfolding wanted
  cells-more = record {
    long = put.long ∙ have.long;
    at = λ place port there t below past held. after-is place port there t below past held;
  }
