-- Declared periods in one unit, and as whole multiples of the base period (own).
use Rattle.std.specs.Prelude.{◌≡◌, ℕ, ◌*◌, ◌^◌, ◌<◌, ◌≤◌, ◌⊎◌, Option, Some, None}
use Rattle.dg_model.specs.Limits.{most_times}
use Rattle.dg_rates.specs.declared.units.Aligned.{Aligned}

-- so many times the second, at most 4096 times
pub record IsTimes (units base times : ℕ) : Type 0 where
  pub few : times ≤ most_times
  pub whole : units ≡ times * base

-- the number, or none where it has no room in 128 bits
abbrev pub Shows : ℕ → Option ℕ → Type 0
Shows number (Some value) = value ≡ number
Shows number None = 2 ^ 128 ≤ number

-- two numbers of units as numbers of one greater unit, one of which has few digits
pub record IsAligned (first second : ℕ) (aligned : Aligned) : Type 0 where
  pub unit : ℕ
  pub left : ℕ
  pub right : ℕ
  pub some : 0 < unit
  pub some_left : 0 < left
  pub some_right : 0 < right
  pub first_is : first ≡ left * unit
  pub second_is : second ≡ right * unit
  pub left_shown : Shows left aligned.first
  pub right_shown : Shows right aligned.second
  pub small : (left < 10 ^ 18) ⊎ (right < 10 ^ 18)
