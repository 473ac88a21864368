-- A Gain of 1 with two pipeline registers before a Delay of one sample in an enabled subsystem with held states,
-- worked out by hand: one clock a base sample, the input 5, 6, 7, the control 1, 0, 1, the initial value 9.
use Rattle.std.proofs.Common.{◌≡◌, ℕ, zero, suc, ◌<◌, ℤ, pos, false, [], ◌∷◌, Some, refl, arith}
use Rattle.std.proofs.lemmas.Int.{ints}
use Rattle.hw_net.specs.Registers.{Wave, Span, IsReg, IsEnReg}
use Rattle.hw_shows.specs.Shows.{Shows}
use Rattle.hw_shows.specs.Series.{IsSeries, IsEnabledSeries}
use Rattle.hw_shows.proofs.WaveTests.{wave_of, tried_shows, tried_reg, tried_en}

-- the entries of the Gain, of the control and of the Delay
abbrev pub gains : ℕ → ℤ
gains = wave_of (pos 5 ∷ pos 6 ∷ pos 7 ∷ [])

abbrev pub controls : ℕ → ℤ
controls = wave_of (pos 1 ∷ pos 0 ∷ pos 1 ∷ [])

abbrev pub delays : ℕ → ℤ
delays = wave_of (pos 9 ∷ pos 5 ∷ pos 5 ∷ [])

-- the Gain's pipeline by its number; after the third clock the input is any
abbrev pub stage : ℕ → Wave
stage zero = wave_of (pos 5 ∷ pos 6 ∷ pos 7 ∷ pos 1 ∷ pos 2 ∷ pos 3 ∷ [])
stage (suc zero) = wave_of (pos 0 ∷ pos 5 ∷ pos 6 ∷ pos 7 ∷ pos 1 ∷ pos 2 ∷ [])
stage (suc (suc k)) = wave_of (pos 0 ∷ pos 0 ∷ pos 5 ∷ pos 6 ∷ pos 7 ∷ pos 1 ∷ [])

-- the control, and as late as the Gain's pipeline
abbrev pub control : Wave
control = wave_of (pos 1 ∷ pos 0 ∷ pos 1 ∷ pos 1 ∷ pos 0 ∷ pos 0 ∷ [])

abbrev pub enable : Wave
enable = wave_of (pos 0 ∷ pos 0 ∷ pos 1 ∷ pos 0 ∷ pos 1 ∷ pos 1 ∷ [])

-- what the Delay's register takes, and the register
abbrev pub state : ℕ → Wave
state zero = stage 2
state (suc k) = wave_of (pos 9 ∷ pos 9 ∷ pos 9 ∷ pos 5 ∷ pos 5 ∷ pos 7 ∷ [])

abbrev span : ℕ → Span
span latency = record { start = latency; length = 1 }

register : (k : ℕ) → k < 2 → IsReg 6 (span 0) 0 (pos 0) (stage k) (stage (suc k))
register zero below = tried_reg 5 (span 0) 0 (pos 0) (stage 0) (stage 1) refl
register (suc zero) below = tried_reg 5 (span 0) 0 (pos 0) (stage 1) (stage 2) refl
register (suc (suc k)) below = absurd (omega arith)

pub pipeline : IsSeries 6 (span 0) 2 (pos 0) (stage 0) stage
pipeline = record { begins = record { at = λ c below. refl }; takes = register }

held : (k : ℕ) → k < 1 → IsEnReg 6 (span 2) false (pos 9) enable (state k) (state (suc k))
held zero below = tried_en 5 (span 2) false (pos 9) enable (state 0) (state 1) refl
held (suc k) below = absurd (omega arith)

pub states : IsEnabledSeries 6 (span 2) 1 false (pos 9) enable (stage 2) state
states = record { begins = record { at = λ c below. refl }; takes = held }

-- what they show: the Gain at once, behind its pipeline two base samples later, and the Delay then
pub gain_shows : Shows 6 3 1 (Some 1) 0 0 gains (stage 0)
gain_shows = tried_shows 6 3 1 1 0 0 gains (stage 0) refl

pub pipeline_shows : Shows 6 3 1 (Some 1) 2 0 gains (stage 2)
pipeline_shows = tried_shows 6 3 1 1 2 0 gains (stage 2) refl

pub control_shows : Shows 6 3 1 (Some 1) 2 0 controls enable
control_shows = tried_shows 6 3 1 1 2 0 controls enable refl

pub delay_shows : Shows 6 3 1 (Some 1) 2 0 delays (state 1)
delay_shows = tried_shows 6 3 1 1 2 0 delays (state 1) refl

-- a register that moved on at the disabled hit shows 6 at clock 4, which is neither the register nor the entry
abbrev pub moved : ℕ → Wave
moved zero = stage 2
moved (suc k) = wave_of (pos 9 ∷ pos 9 ∷ pos 9 ∷ pos 5 ∷ pos 6 ∷ pos 7 ∷ [])

pub not_states : ¬ IsEnabledSeries 6 (span 2) 1 false (pos 9) enable (stage 2) moved
not_states s =
    let stays : pos 6 ≡ pos 5 = (s.takes 0 (omega arith)).stays 3 (omega arith) (record { begun = omega arith; at_slot = refl }) refl refl in
    absurd (omega (arith, ints, stays))

pub not_shown : ¬ Shows 6 3 1 (Some 1) 2 0 delays (moved 1)
not_shown s =
    let shown : pos 6 ≡ pos 5 = s.at 2 4 (omega arith) (omega arith) (record { is_hit = refl; from = omega arith; until = omega arith }) in
    absurd (omega (arith, ints, shown))

-- nor does the Gain show its entries a base sample too early
pub not_early : ¬ Shows 6 3 1 (Some 1) 1 0 gains (stage 2)
not_early s =
    let shown : pos 0 ≡ pos 5 = s.at 0 1 (omega arith) (omega arith) (record { is_hit = refl; from = omega arith; until = omega arith }) in
    absurd (omega (arith, ints, shown))
