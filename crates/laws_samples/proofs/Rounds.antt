-- Values by rounds, at a place.
use Rattle.std.proofs.Common.{◌≡◌, ℕ, zero, suc, ◌+◌, ◌<◌, List, length, Some, slice_get, ap, ◌∙◌, refl, arith}
use Rattle.math_list.proofs.Numbers.{length_mapped, mapped_at}
use Rattle.dg_waves.specs.Rounds.{round, after_rounds}

pub length_round : {A : Type 0} (next : List A → ℕ → A) (values : List A) → length (round next values) ≡ length values
length_round next values = length_mapped (next values) 0 (length values)

pub length_after : {A : Type 0} (next : List A → ℕ → A) (n : ℕ) (start : List A) → length (after_rounds next n start) ≡ length start
length_after next zero start = refl
length_after next (suc n) start = length_round next (after_rounds next n start) ∙ length_after next n start

pub round_at : {A : Type 0} (next : List A → ℕ → A) (values : List A) (place : ℕ) → place < length values → slice_get (round next values) place ≡ Some (next values place)
round_at next values place below =
    let same : 0 + place ≡ place = omega arith in
    mapped_at (next values) 0 (length values) place below ∙ ap (λ p. Some (next values p)) same
