-- Captures one after another, and bits put in one after another.
use Rattle.std.proofs.Common.{◌≡◌, ◌≢◌, ◌<◌, ◌≤◌, ◌+◌, inl, inr, ◌⊎◌, ⊎_elim, ℕ, List, [], ◌∷◌, ◌++◌, length, set, slice_index, slice_index_or, Contains, refl, sym, ap, ◌∙◌, arith}
use Rattle.std.proofs.lemmas.Bool.{cases_eq, cases_lt}
use Rattle.std.proofs.lemmas.List.{get_or-set_same, get_or-set_other, get_or_append_left, get_or_at, get_or_default, length-append, length-set}
use Rattle.std.proofs.lemmas.List.Elements.{Contains-append_cases, Contains-append_left, Contains-push}
use Rattle.math_list.proofs.Elements.{cons-cases, none-in}
use Rattle.vl_eval.specs.declared.plan.Capture.{Capture}
use Rattle.vl_eval.specs.inner.Edges.{IsFree, IsPut, IsTaken}

pub taken-none : (values : List ℕ) → IsTaken [] values values
taken-none values = record { long = refl; each = λ place. inl (λ c h. absurd (none-in c h), refl) }

-- what is captured hasn't changed yet
pub still-there : (captures : List Capture) (before now : List ℕ) (from : ℕ) → IsTaken captures before now
    → ((c : Capture) → Contains captures c → c.to ≢ from) → slice_index now from ≡ slice_index before from
still-there captures before now from t apart = ⊎_elim (λ free. free.1) (λ moved. absurd (apart moved.0 moved.1 moved.2)) (t.each from)

module _ (captures : List Capture) (c : Capture) (before now : List ℕ) (within : c.to < length now)
    (apart : (d : Capture) → Contains captures d → d.to ≢ c.from) (t : IsTaken captures before now) where
  abbrev after : List ℕ
  after = set now c.to (slice_index now c.from)

  abbrev Each : ℕ → Type 0
  Each place = (IsFree (captures ++ c ∷ []) place × (slice_index after place ≡ slice_index before place))
      ⊎ ((d : Capture) × Contains (captures ++ c ∷ []) d × (d.to ≡ place) × (slice_index after place ≡ slice_index before d.from))

  here : (place : ℕ) → place ≡ c.to → Each place
  here place e = inr (
    c,
    Contains-push captures c,
    sym e,
    ap (λ k. slice_index after k) e ∙ get_or-set_same now c.to (slice_index now c.from) 0 within ∙ still-there captures before now c.from t apart,
  )

  elsewhere : (place : ℕ) → place ≢ c.to → Each place
  elsewhere place ne = by (t.each place) where
    same : slice_index after place ≡ slice_index now place
    same = get_or-set_other now c.to place (slice_index now c.from) 0 ne

    by : (IsFree captures place × (slice_index now place ≡ slice_index before place))
        ⊎ ((d : Capture) × Contains captures d × (d.to ≡ place)
        × (slice_index now place ≡ slice_index before d.from)) → Each place
    by (inl old) = inl (
      (λ d h. ⊎_elim (λ i. old.0 d i) (λ last. ⊎_elim (λ is to. ne (sym (ap (λ (x : Capture). x.to) is ∙ to)))
          (λ none. absurd (none-in d none)) (cons-cases c d [] last))
          (Contains-append_cases captures (c ∷ []) d h)),
      same ∙ old.1,
    )
    by (inr old) = inr (old.0, Contains-append_left captures (c ∷ []) old.0 old.1, old.2, same ∙ old.3)

  pub taken-more : IsTaken (captures ++ c ∷ []) before after
  taken-more = record {
    long = length-set now c.to (slice_index now c.from) ∙ t.long;
    each = λ place. ⊎_elim (here place) (elsewhere place) (cases_eq place c.to);
  }

pub put-none : (bits values : List ℕ) → IsPut [] bits values values
put-none bits values = record { long = refl; each = λ k low. absurd (omega (arith, low)); others = λ place free. refl }

module _ (places : List ℕ) (place : ℕ) (bits before now : List ℕ) (within : place < length now)
    (apart : (k : ℕ) → k < length places → slice_index places k ≢ place) (p : IsPut places bits before now) where
  abbrev new : ℕ
  new = slice_index bits (length places)

  longer : length (places ++ place ∷ []) ≡ length places + 1
  longer = length-append places (place ∷ [])

  at-left : (k : ℕ) → k < length places → slice_index (places ++ place ∷ []) k ≡ slice_index places k
  at-left k low = get_or_append_left places (place ∷ []) 0 k low

  at-end : slice_index (places ++ place ∷ []) (length places) ≡ place
  at-end = get_or_at places place [] 0 (length places) refl

  old : (k : ℕ) → k < length places → slice_index (set now place new) (slice_index (places ++ place ∷ []) k) ≡ slice_index bits k
  old k low =
      ap (λ j. slice_index (set now place new) j) (at-left k low) ∙ get_or-set_other now place (slice_index places k) new 0 (apart k low) ∙ p.each k low

  last : (k : ℕ) → k < length (places ++ place ∷ []) → length places ≤ k → slice_index (set now place new) (slice_index (places ++ place ∷ []) k) ≡ slice_index bits k
  last k low above =
      let l = longer in
      let e : k ≡ length places = omega (arith, l, low, above) in
      ap (λ j. slice_index (set now place new) j) (ap (λ j. slice_index (places ++ place ∷ []) j) e ∙ at-end)
      ∙ get_or-set_same now place new 0 within ∙ ap (λ j. slice_index bits j) (sym e)

  pub put-more : IsPut (places ++ place ∷ []) bits before (set now place new)
  put-more = record {
    long = length-set now place new ∙ p.long;
    each = λ k low. ⊎_elim (old k) (last k low) (cases_lt k (length places));
    others = λ other free.
        get_or-set_other now place other new 0 (λ e. free (length places) (let l = longer in omega (arith, l)) (at-end ∙ sym e))
        ∙ p.others other (λ k low same. free k (let l = longer in omega (arith, l, low)) (at-left k low ∙ same));
  }

pub capture-in : (captures : List Capture) (i : ℕ) → i < length captures → Contains captures (slice_index_or captures i (record { from = 0; to = 0 }))
capture-in captures i below = (i, below, get_or_default captures i _ (record { from = 0; to = 0 }) below)
