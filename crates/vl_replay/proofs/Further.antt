-- The least and the greatest delay of some samplers up to a place, one further.
use Rattle.std.proofs.Common.{◌≡◌, ◌<◌, ◌≤◌, ◌+◌, ⊎_elim, ℕ, List, length, max, min, slice_get, slice_index_or, Some, subst, arith}
use Rattle.std.proofs.lemmas.Bool.{cases_lt}
use Rattle.std.proofs.lemmas.Option.{get_or_from_slice_get, slice_get-get_or}
use Rattle.vl_ast.specs.Attributes.{most_latency}
use Rattle.vl_replay.specs.declared.samplers.Sampler.{Sampler}
use Rattle.vl_replay.specs.inner.Play.{AreNear, HasDelay}

module _ (items : List Sampler) (i : ℕ) (d : Sampler) where
  abbrev here : Sampler
  here = slice_index_or items i d

  further : (P : Sampler → Type 0) → P here → ((place : ℕ) (sampler : Sampler) → slice_get items place ≡ Some sampler → place < i → P sampler)
      → (place : ℕ) (sampler : Sampler) → slice_get items place ≡ Some sampler → place < i + 1 → P sampler
  further P now before place sampler at below = ⊎_elim
      (λ (less : place < i). before place sampler at less)
      (λ (most : i ≤ place).
      let e : place ≡ i = omega (arith, most, below) in
      let found = get_or_from_slice_get items i sampler d (subst (λ k. slice_get items k ≡ Some sampler) e at) in
      subst P found now)
      (cases_lt place i)

  pub least-further : (old new : ℕ) → new ≡ min here.delay old → ((place : ℕ) (sampler : Sampler) → slice_get items place ≡ Some sampler → place < i → old ≤ sampler.delay)
      → (place : ℕ) (sampler : Sampler) → slice_get items place ≡ Some sampler → place < i + 1 → new ≤ sampler.delay
  least-further old new is before =
      further (λ sampler. new ≤ sampler.delay) (omega (arith, is)) (λ place sampler at below. let least = before place sampler at below in omega (arith, is, least))

  pub most-further : (old new : ℕ) → new ≡ max here.delay old → ((place : ℕ) (sampler : Sampler) → slice_get items place ≡ Some sampler → place < i → sampler.delay ≤ old)
      → (place : ℕ) (sampler : Sampler) → slice_get items place ≡ Some sampler → place < i + 1 → sampler.delay ≤ new
  most-further old new is before =
      further (λ sampler. sampler.delay ≤ new) (omega (arith, is)) (λ place sampler at below. let most = before place sampler at below in omega (arith, is, most))

  pub few-further : (old new : ℕ) → new ≡ max here.delay old → i < length items → AreNear items → old ≤ most_latency → new ≤ most_latency
  few-further old new is low near few =
      let late = near.delay i here (slice_get-get_or items i d low) in
      omega (arith, is, late, few)

  has-here : i < length items → (new : ℕ) → here.delay ≡ new → HasDelay items new
  has-here low new is = record { place = i; sampler = here; there = slice_get-get_or items i d low; is = is }

  pub met-most : (old new : ℕ) → new ≡ max here.delay old → i < length items → (0 < old → HasDelay items old) → 0 < new → HasDelay items new
  met-most old new is low before some = ⊎_elim
      (λ (less : old < here.delay). has-here low new (omega (arith, is, less)))
      (λ (most : here.delay ≤ old). subst (λ delay. HasDelay items delay) (omega (arith, is, most)) (before (omega (arith, is, most, some))))
      (cases_lt old here.delay)

  pub met-least : (delay old new : ℕ) → new ≡ min here.delay old → i < length items → (old < delay → HasDelay items old) → new < delay → HasDelay items new
  met-least delay old new is low before some = ⊎_elim
      (λ (less : here.delay < old). has-here low new (omega (arith, is, less)))
      (λ (most : old ≤ here.delay). subst (λ delay. HasDelay items delay) (omega (arith, is, most)) (before (omega (arith, is, most, some))))
      (cases_lt here.delay old)
