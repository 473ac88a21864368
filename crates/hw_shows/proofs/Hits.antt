-- The hits of a period, one after another.
use Rattle.std.proofs.Common.{◌≡◌, ℕ, zero, suc, ◌+◌, ◌-◌, ◌*◌, ◌/◌, ◌%◌, ◌<◌, ◌≤◌, inl, inr, if◌then◌else◌, Bool, true, false, List, [], ◌∷◌, filter, slice_get, Some, None, ap, sym, ◌∙◌, subst, refl}
use Rattle.std.proofs.Common.{arith, eqb-true, eq-eqb}
use Rattle.std.proofs.Math.Nat.{mul-mod_left}
use Rattle.std.proofs.lemmas.Nat.{mod-mul-add}
use Rattle.std.proofs.lemmas.Bool.{cases_lt}
use Rattle.dg_model.specs.Signals.{Table}
use Rattle.dg_model.specs.Hits.{is_hit, hits_before, is_enabled_at, hits_since_enabled, counted_hits}
use Rattle.dg_tables.specs.State.{Move}
use Rattle.hw_lines.proofs.Hits.{hit-number}

-- a multiple of a multiple
pub multiple_of : (t p q : ℕ) → t % q ≡ 0 → q % p ≡ 0 → t % p ≡ 0
multiple_of t p q e f =
    let a : t ≡ t / q * q = hit-number t q e in
    let b : q ≡ q / p * p = hit-number q p f in
    let c : t ≡ t / q * (q / p) * p = a ∙ ap (λ (x : ℕ). t / q * x) b ∙ omega arith in
    subst (λ (x : ℕ). x % p ≡ 0) (sym c) (mul-mod_left (t / q * (q / p)) p)

module _ (p : ℕ) (f g : ℕ → List ℕ) (steps : (t : ℕ) → f (suc t) ≡ (if is_hit (Some p) t then g t else f t)) where
  at_hit : (m : ℕ) → m % p ≡ 0 → f (suc m) ≡ g m
  at_hit m e = steps m ∙ ap (λ (b : Bool). if b then g m else f m) (eq-eqb (m % p) 0 e)

  off_hit : (m x : ℕ) → m % p ≡ 0 → m < x → x < m + p → f (suc x) ≡ f x
  off_hit m x e low high = steps x ∙ go (is_hit (Some p) x) refl
    where
      rest : x % p ≡ x - m
      rest =
          let j : ℕ = x - m in
          let a : x ≡ m / p * p + j = omega (arith, hit-number m p e) in
          ap (λ (z : ℕ). z % p) a ∙ mod-mul-add (m / p) p j (omega arith)

      go : (b : Bool) → is_hit (Some p) x ≡ b → (if b then g x else f x) ≡ f x
      go true h = let zero_rest : x % p ≡ 0 = eqb-true (x % p) 0 h in absurd (omega (arith, rest, zero_rest))
      go false h = refl

  -- after a hit, up to the next
  pub after_hit : (m x : ℕ) → m % p ≡ 0 → m ≤ x → x < m + p → f (suc x) ≡ g m
  after_hit m zero e low high = let same : m ≡ 0 = omega arith in subst (λ (z : ℕ). f (suc z) ≡ g m) same (at_hit m e)
  after_hit m (suc x) e low high =
      elim (cases_lt m (suc x)) [
        | inl less ↦ off_hit m (suc x) e less high ∙ after_hit m x e (omega arith) (omega arith)
        | inr until ↦ let same : m ≡ suc x = omega arith in subst (λ (z : ℕ). f (suc z) ≡ g m) same (at_hit m e)
      ]

  pub next_hit : (i : ℕ) → 0 < p → f (suc i * p) ≡ g (i * p)
  next_hit i some =
      let last : suc (i * p + p - 1) ≡ suc i * p = omega arith in
      subst (λ (z : ℕ). f z ≡ g (i * p)) last (after_hit (i * p) (i * p + p - 1) (mul-mod_left i p) (omega arith) (omega arith))

pub hits_after : (p m x : ℕ) → m % p ≡ 0 → m ≤ x → x < m + p → hits_before (Some p) (suc x) ≡ m ∷ hits_before (Some p) m
hits_after p m x e low high = after_hit p (hits_before (Some p)) (λ t. t ∷ hits_before (Some p) t) (λ t. refl) m x e low high

pub hits_next : (p i : ℕ) → 0 < p → hits_before (Some p) (suc i * p) ≡ i * p ∷ hits_before (Some p) (i * p)
hits_next p i some = next_hit p (hits_before (Some p)) (λ t. t ∷ hits_before (Some p) t) (λ t. refl) i some

-- the hit so many before
pub hit_at : (p i j : ℕ) → 0 < p → j < i → slice_get (hits_before (Some p) (i * p)) j ≡ Some ((i - 1 - j) * p)
hit_at p zero j some below = absurd (omega arith)
hit_at p (suc i) zero some below =
    let e : i * p ≡ (suc i - 1 - 0) * p = ap (λ (x : ℕ). x * p) (omega arith) in
    ap (λ (hits : List ℕ). slice_get hits 0) (hits_next p i some) ∙ ap (λ (x : ℕ). Some x) e
hit_at p (suc i) (suc j) some below =
    let e : (i - 1 - j) * p ≡ (suc i - 1 - suc j) * p = ap (λ (x : ℕ). x * p) (omega arith) in
    ap (λ (hits : List ℕ). slice_get hits (suc j)) (hits_next p i some) ∙ hit_at p i j some (omega arith) ∙ ap (λ (x : ℕ). Some x) e

pub no_hit_at : (p i j : ℕ) → 0 < p → i ≤ j → slice_get (hits_before (Some p) (i * p)) j ≡ None
no_hit_at p zero j some below = let e : 0 ≡ 0 * p = omega arith in subst (λ (x : ℕ). slice_get (hits_before (Some p) x) j ≡ None) e refl
no_hit_at p (suc i) zero some below = absurd (omega arith)
no_hit_at p (suc i) (suc j) some below = ap (λ (hits : List ℕ). slice_get hits (suc j)) (hits_next p i some) ∙ no_hit_at p i j some (omega arith)

-- ---- what a Delay counts

-- what a hit does to the hits that are counted: one in a subsystem that isn't enabled leaves them, or empties them
abbrev pub move_of : Bool → Bool → Move
move_of reset true = Move.Count
move_of false false = Move.Stay
move_of true false = Move.Forget

abbrev pub moved_hits : Move → ℕ → List ℕ → List ℕ
moved_hits Move.Stay t hits = hits
moved_hits Move.Count t hits = t ∷ hits
moved_hits Move.Forget t hits = []

module _ (table : Table) (control p : ℕ) where
  pub since_next : (i : ℕ) → 0 < p → hits_since_enabled table control (Some p) (suc i * p)
      ≡ (if is_enabled_at table control (i * p) then i * p ∷ hits_since_enabled table control (Some p) (i * p) else [])
  since_next i some = next_hit p (hits_since_enabled table control (Some p)) (λ t. if is_enabled_at table control t then t ∷ hits_since_enabled table control (Some p) t else []) (λ t. refl) i some

  pub counted_next : (reset : Bool) (i : ℕ) → 0 < p → counted_hits table (Some control) reset (Some p) (suc i * p)
      ≡ moved_hits (move_of reset (is_enabled_at table control (i * p))) (i * p) (counted_hits table (Some control) reset (Some p) (i * p))
  counted_next false i some = ap (λ (hits : List ℕ). filter (is_enabled_at table control) hits) (hits_next p i some) ∙ go (is_enabled_at table control (i * p))
    where
      go : (b : Bool) → (if b then i * p ∷ filter (is_enabled_at table control) (hits_before (Some p) (i * p)) else filter (is_enabled_at table control) (hits_before (Some p) (i * p)))
          ≡ moved_hits (move_of false b) (i * p) (filter (is_enabled_at table control) (hits_before (Some p) (i * p)))
      go true = refl
      go false = refl
  counted_next true i some = since_next i some ∙ go (is_enabled_at table control (i * p))
    where
      go : (b : Bool) → (if b then i * p ∷ hits_since_enabled table control (Some p) (i * p) else []) ≡ moved_hits (move_of true b) (i * p) (hits_since_enabled table control (Some p) (i * p))
      go true = refl
      go false = refl
