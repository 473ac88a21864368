-- One sample moves what is kept, and the equations read what is kept.
use Rattle.std.proofs.Common.{◌≡◌, ℕ, zero, suc, ◌<◌, ◌&&◌, Bool, true, false, cond, if◌then◌else◌, ℤ, List, [], ◌∷◌, take, map, filter, Option, Some, None, slice_get, MatchOption, ap, sym, ◌∙◌, refl}
use Rattle.std.proofs.Common.{arith}
use Rattle.fx_type.specs.declared.decimal.Decimal.{Decimal}
use Rattle.dg_model.specs.declared.diagram.Diagram.{Diagram}
use Rattle.dg_model.specs.declared.kind.Kind.{Kind}
use Rattle.dg_model.specs.declared.kind.Kind.TheVariants.{Delay, RateTransition, EnOut}
use Rattle.dg_model.specs.Signals.{Attributes, Stimulus, Table}
use Rattle.dg_model.specs.Hits.{is_hit, hits_before, is_enabled_at, hits_since_enabled, counted_hits}
use Rattle.dg_model.specs.Wires.{period_into, value_into}
use Rattle.dg_model.specs.Equation.{StoresEntry, IsInputAt, is_enabled}
use Rattle.dg_tables.specs.Steps.{StepsStand}
use Rattle.dg_tables.specs.State.{Move, Stay, Count, Forget, count_if, count_or_forget, delay_move, move_at, moved, kept_hits, kept_count, kept_values}

-- the list of samples after a move
abbrev hits_moved : Move → ℕ → List ℕ → List ℕ
hits_moved Stay t hits = hits
hits_moved Count t hits = t ∷ hits
hits_moved Forget t hits = []

take_again : {A : Type 0} (n : ℕ) (x : A) (xs : List A) → take n (x ∷ xs) ≡ take n (x ∷ take n xs)
take_again zero x xs = refl
take_again (suc n) x xs = ap (λ ys. x ∷ ys) (shorter n xs)
  where
    shorter : {A : Type 0} (n : ℕ) (xs : List A) → take n xs ≡ take n (take (suc n) xs)
    shorter zero xs = refl
    shorter (suc n) [] = refl
    shorter (suc n) (x ∷ xs) = ap (λ ys. x ∷ ys) (shorter n xs)

values_moved : (f : ℕ → ℤ) (move : Move) (count t : ℕ) (hits : List ℕ) → take count (map f (hits_moved move t hits)) ≡ moved move count (f t) (take count (map f hits))
values_moved f Stay count t hits = refl
values_moved f Count count t hits = take_again count (f t) (map f hits)
values_moved f Forget zero t hits = refl
values_moved f Forget (suc count) t hits = refl

hits_counted : (period : Option ℕ) (t : ℕ) → hits_before period (suc t) ≡ hits_moved (count_if (is_hit period t)) t (hits_before period t)
hits_counted period t = go (is_hit period t)
  where
    go : (hit : Bool) → (if hit then t ∷ hits_before period t else hits_before period t) ≡ hits_moved (count_if hit) t (hits_before period t)
    go true = refl
    go false = refl

filter_counted : (test : ℕ → Bool) (period : Option ℕ) (t : ℕ) → filter test (hits_before period (suc t)) ≡ hits_moved (count_if (is_hit period t && test t)) t (filter test (hits_before period t))
filter_counted test period t = go (is_hit period t) (test t) refl
  where
    go : (hit enabled : Bool) → test t ≡ enabled
        → filter test (if hit then t ∷ hits_before period t else hits_before period t)
        ≡ hits_moved (count_if (hit && enabled)) t (filter test (hits_before period t))
    go false enabled e = refl
    go true true e = ap (λ (b : Bool). cond b (t ∷ filter test (hits_before period t)) (filter test (hits_before period t))) e
    go true false e = ap (λ (b : Bool). cond b (t ∷ filter test (hits_before period t)) (filter test (hits_before period t))) e

since_counted : (table : Table) (control : ℕ) (period : Option ℕ) (t : ℕ) → hits_since_enabled table control period (suc t)
    ≡ hits_moved (count_or_forget (is_hit period t) (is_enabled_at table control t)) t (hits_since_enabled table control period t)
since_counted table control period t = go (is_hit period t) (is_enabled_at table control t)
  where
    go : (hit enabled : Bool) → (if hit then (if enabled then t ∷ hits_since_enabled table control period t else []) else hits_since_enabled table control period t)
        ≡ hits_moved (count_or_forget hit enabled) t (hits_since_enabled table control period t)
    go false enabled = refl
    go true true = refl
    go true false = refl

module _ (diagram : Diagram) (attributes : Attributes) (table : Table) (block : ℕ) (enable : Option ℕ) where
  delay_hits : (o : Option ℕ) (reset : Bool) (t : ℕ)
      → counted_hits table o reset (attributes.period_at block) (suc t)
      ≡ hits_moved (delay_move table o reset (is_hit (attributes.period_at block) t) t) t
      (counted_hits table o reset (attributes.period_at block) t)
  delay_hits None reset t = hits_counted (attributes.period_at block) t
  delay_hits (Some control) false t = filter_counted (is_enabled_at table control) (attributes.period_at block) t
  delay_hits (Some control) true t = since_counted table control (attributes.period_at block) t

  hits_step : (kind : Kind) (t : ℕ) → kept_hits diagram attributes table block enable kind (suc t)
      ≡ hits_moved (move_at diagram attributes table block enable kind t) t
      (kept_hits diagram attributes table block enable kind t)
  hits_step (Delay delay initial reset) t = delay_hits enable reset t
  hits_step (RateTransition period initial) t = hits_counted (period_into diagram attributes block 1) t
  hits_step (EnOut reset initial) t = filter_counted (is_enabled table enable) (attributes.period_at block) t
  hits_step _ t = refl

  -- what is kept after a sample is what was kept, moved by the sample's input
  pub kept_step : (kind : Kind) (element t : ℕ) → kept_values diagram attributes table block enable kind element (suc t)
      ≡ moved (move_at diagram attributes table block enable kind t) (kept_count kind)
      (value_into diagram attributes table block 1 element t)
      (kept_values diagram attributes table block enable kind element t)
  kept_step kind element t =
      ap (λ (hits : List ℕ). take (kept_count kind) (map (value_into diagram attributes table block 1 element) hits)) (hits_step kind t)
      ∙ values_moved (value_into diagram attributes table block 1 element)
      (move_at diagram attributes table block enable kind t) (kept_count kind) t
      (kept_hits diagram attributes table block enable kind t)

  -- what a block reads of what is kept is what its equation asks for
  pub kept_read : (stimulus : Stimulus) (initial : List Decimal) (element : ℕ) (v : ℤ) (hits : List ℕ) (count k : ℕ) → k < count
      → MatchOption (slice_get (take count (map (value_into diagram attributes table block 1 element) hits)) k) (StoresEntry initial element (attributes.type_at block 1) v) (λ w. v ≡ w)
      → IsInputAt diagram attributes stimulus table block initial element (slice_get hits k) v
  kept_read stimulus initial element v hits zero k below h = absurd (omega (arith, below))
  kept_read stimulus initial element v [] (suc count) k below h = h
  kept_read stimulus initial element v (hit ∷ hits) (suc count) zero below h = h
  kept_read stimulus initial element v (hit ∷ hits) (suc count) (suc k) below h = kept_read stimulus initial element v hits count k (omega (arith, below)) h

pub steps_stand : StepsStand
steps_stand diagram attributes table state later t stands step = record {
  row = λ block b port element s shown e. step.row block b port element shown ∙ ap (λ (k : ℕ). table block port element k) (omega (arith, e));
  kept = λ block b element block_is below.
      step.kept block b element block_is below
      ∙ ap (λ (kept : List ℤ). moved (move_at diagram attributes table block b.enable b.kind t) (kept_count b.kind)
      (value_into diagram attributes table block 1 element t) kept) (stands.kept block b element block_is below)
      ∙ sym (kept_step diagram attributes table block b.enable b.kind element t);
}
