-- The stages of numbers when one of them is changed.
use Rattle.std.proofs.Common.{◌≡◌, ◌≢◌, ◌<◌, ◌≤◌, ◌+◌, ⊎_elim, ℕ, List, length, set, slice_index, sym, subst, ◌∙◌, arith}
use Rattle.std.proofs.lemmas.List.{get_or-set_same, get_or-set_other}
use Rattle.std.proofs.lemmas.List.Sums.{sum_by-set}
use Rattle.std.proofs.lemmas.Bool.{cases_eq}
use Rattle.vl_check.specs.inner.Walks.{size, Done, total}

-- where one that isn't placed takes another stage, each placed one stays so
pub still-done : (reads : List (List ℕ)) (stage : List ℕ) (v y u : ℕ) → slice_index stage v ≢ size reads v + 2 → Done reads stage u → Done reads (set stage v y) u
still-done reads stage v y u not_yet d = record {
  within = d.within;
  last =
      get_or-set_other stage v u y 0 (λ e. not_yet (subst (λ w. slice_index stage w ≡ size reads w + 2) e d.last)) ∙ d.last;
}

-- and no other one becomes so
pub was-done : (reads : List (List ℕ)) (stage : List ℕ) (v y u : ℕ) → u ≢ v → Done reads (set stage v y) u → Done reads stage u
was-done reads stage v y u other d = record { within = d.within; last = sym (get_or-set_other stage v u y 0 other) ∙ d.last }

pub other-stage : (stage : List ℕ) (v y u : ℕ) → u ≢ v → slice_index (set stage v y) u ≡ slice_index stage u
other-stage stage v y u other = get_or-set_other stage v u y 0 other

pub own-stage : (stage : List ℕ) (v y : ℕ) → v < length stage → slice_index (set stage v y) v ≡ y
own-stage stage v y below = get_or-set_same stage v y 0 below

pub total-set : (stage : List ℕ) (v : ℕ) → v < length stage → total (set stage v (slice_index stage v + 1)) ≡ total stage + 1
total-set stage v below = let e = sum_by-set (λ x. x) stage v (slice_index stage v + 1) 0 below in omega (arith, e)

-- a stage that goes up by one
pub higher-by-one : (stage : List ℕ) (v u : ℕ) → v < length stage → slice_index stage u ≤ slice_index (set stage v (slice_index stage v + 1)) u
higher-by-one stage v u below = ⊎_elim
    (λ (e : u ≡ v). subst (λ w. slice_index stage w ≤ slice_index (set stage v (slice_index stage v + 1)) w) (sym e) (let o = own-stage stage v (slice_index stage v + 1) below in omega (arith, o)))
    (λ (o : u ≡ v → ⊥). let e = other-stage stage v (slice_index stage v + 1) u o in omega (arith, e))
    (cases_eq u v)

pub most-by-one : (reads : List (List ℕ)) (stage : List ℕ) (v : ℕ) → v < length stage → slice_index stage v ≤ size reads v + 1 → ((u : ℕ) → u < length reads → slice_index stage u ≤ size reads u + 2)
    → (u : ℕ) → u < length reads → slice_index (set stage v (slice_index stage v + 1)) u ≤ size reads u + 2
most-by-one reads stage v below room most u low = ⊎_elim
    (λ (e : u ≡ v). subst (λ w. slice_index (set stage v (slice_index stage v + 1)) w ≤ size reads w + 2) (sym e) (let o = own-stage stage v (slice_index stage v + 1) below in omega (arith, o, room)))
    (λ (o : u ≡ v → ⊥). let e = other-stage stage v (slice_index stage v + 1) u o in let m = most u low in omega (arith, e, m))
    (cases_eq u v)

pub met-before : (stage : List ℕ) (v u : ℕ) → u ≢ v → 1 ≤ slice_index (set stage v (slice_index stage v + 1)) u → 1 ≤ slice_index stage u
met-before stage v u o h = let e = other-stage stage v (slice_index stage v + 1) u o in omega (arith, e, h)
