-- Lists of numbers, hits, and what a search finds.
use Rattle.std.proofs.Common.{◌≡◌, ℕ, zero, suc, ◌+◌, ◌-◌, ◌%◌, ◌<◌, ◌≤◌, ◌⊎◌, cond, Bool, true, false, List, [], ◌∷◌, map, take, sum, filter, slice_get, slice_index, All, Option, Some, None}
use Rattle.std.proofs.Common.{if◌then◌else◌, ◌==◌, inl, inr, ap, ap₂, sym, ◌∙◌, subst, refl, arith, lit<}
use Rattle.std.proofs.Math.Nat.{mod-le}
use Rattle.std.proofs.lemmas.List.Elements.{All-nil, All-cons, All-weaker, All-filter}
use Rattle.std.proofs.lemmas.Bool.{cases_lt}
use Rattle.std.proofs.lemmas.Option.{none-some}
use Rattle.dg_model.specs.Signals.{Table}
use Rattle.dg_model.specs.Hits.{Hits, is_hit, last_hit, hits_before, is_enabled_at, hits_since_enabled, counted_hits}
use Rattle.math_list.specs.Numbers.{numbers_from}
use Rattle.dg_model.specs.Wires.{repeated}
use Rattle.dg_model.specs.Equation.{IsPart}
use Rattle.math_list.proofs.Places.{held, sum-cons}
use Rattle.math_list.proofs.Numbers.{take_numbers}
use Rattle.math_list.proofs.Numbers.{get_number, length_mapped as length_numbers}

-- ---- hits
is_zero : (n : ℕ) → (n ≡ 0) ⊎ ¬ (n ≡ 0)
is_zero zero = inl refl
is_zero (suc n) = inr (λ e. absurd (omega (arith, e)))

pub hit_or_not : (period : Option ℕ) (t : ℕ) → Hits period t ⊎ ¬ Hits period t
hit_or_not None t = is_zero t
hit_or_not (Some period) t = is_zero (t % period)

pub last_before : (period : Option ℕ) (t : ℕ) → ¬ Hits period t → last_hit period t < t
last_before None t miss = above (is_zero t)
  where
    above : (t ≡ 0) ⊎ ¬ (t ≡ 0) → 0 < t
    above (inl e) = absurd (miss e)
    above (inr h) = omega arith
last_before (Some period) t miss = above (is_zero (t % period))
  where
    above : (t % period ≡ 0) ⊎ ¬ (t % period ≡ 0) → t - t % period < t
    above (inl e) = absurd (miss e)
    above (inr h) = below_self (t % period) (mod-le t period) h
      where
        below_self : (r : ℕ) → r ≤ t → ¬ (r ≡ 0) → t - r < t
        below_self r l k = omega arith

pub hits_all : (period : Option ℕ) (t : ℕ) → All (λ h. h < t) (hits_before period t)
hits_all period zero = All-nil (λ h. h < 0)
hits_all period (suc t) = go (All-weaker (λ h. h < t) (λ h. h < suc t) (λ h l. omega arith) (hits_before period t) (hits_all period t)) (is_hit period t)
  where
    go : All (λ h. h < suc t) (hits_before period t) → (b : Bool) → All (λ h. h < suc t) (if b then t ∷ hits_before period t else hits_before period t)
    go rest true = All-cons (λ h. h < suc t) t (hits_before period t) (omega arith) rest
    go rest false = rest

pub second_hit : (period : Option ℕ) (t k h : ℕ) → slice_get (hits_before period t) (suc k) ≡ Some h → suc h < t
second_hit period zero k h e = absurd (none-some h e)
second_hit period (suc t) k h e = go (is_hit period t) e (second_hit period t k h)
  where
    go : (b : Bool) → slice_get (if b then t ∷ hits_before period t else hits_before period t) (suc k) ≡ Some h → (slice_get (hits_before period t) (suc k) ≡ Some h → suc h < t) → suc h < suc t
    go true e rest = let l : h < t = held (λ h. h < t) (hits_before period t) k h (hits_all period t) e in omega (arith, l)
    go false e rest = let l : suc h < t = rest e in omega (arith, l)

pub filter_same : (f g : ℕ → Bool) (period : Option ℕ) (t : ℕ) → ((s : ℕ) → s < t → f s ≡ g s) → filter f (hits_before period t) ≡ filter g (hits_before period t)
filter_same f g period zero h = refl
filter_same f g period (suc t) h = go (is_hit period t) (filter_same f g period t (λ s l. h s (omega arith)))
  where
    go : (b : Bool) → filter f (hits_before period t) ≡ filter g (hits_before period t)
        → filter f (if b then t ∷ hits_before period t else hits_before period t)
        ≡ filter g (if b then t ∷ hits_before period t else hits_before period t)
    go true r = ap₂ (λ (b : Bool) (xs : List ℕ). cond b (t ∷ xs) xs) (h t (omega arith)) r
    go false r = r

pub since_same : (table other : Table) (enable : ℕ) (period : Option ℕ) (t : ℕ) → ((s : ℕ) → s < t → is_enabled_at table enable s ≡ is_enabled_at other enable s)
    → hits_since_enabled table enable period t ≡ hits_since_enabled other enable period t
since_same table other enable period zero h = refl
since_same table other enable period (suc t) h = go (is_hit period t) (h t (omega arith)) (since_same table other enable period t (λ s l. h s (omega arith)))
  where
    go : (hit : Bool) → is_enabled_at table enable t ≡ is_enabled_at other enable t → hits_since_enabled table enable period t ≡ hits_since_enabled other enable period t
        → (if hit then (if is_enabled_at table enable t then t ∷ hits_since_enabled table enable period t else []) else hits_since_enabled table enable period t)
        ≡ (if hit then (if is_enabled_at other enable t then t ∷ hits_since_enabled other enable period t else []) else hits_since_enabled other enable period t)
    go true now rest = ap₂ (λ (b : Bool) (xs : List ℕ). if b then t ∷ xs else []) now rest
    go false now rest = rest

pub since_below : (table : Table) (enable : ℕ) (period : Option ℕ) (t : ℕ) → All (λ h. h < t) (hits_since_enabled table enable period t)
since_below table enable period zero = All-nil (λ h. h < 0)
since_below table enable period (suc t) =
    go (All-weaker (λ h. h < t) (λ h. h < suc t) (λ h l. omega arith) (hits_since_enabled table enable period t) (since_below table enable period t)) (is_hit period t) (is_enabled_at table enable t)
  where
    go : All (λ h. h < suc t) (hits_since_enabled table enable period t) → (hit enabled : Bool)
        → All (λ h. h < suc t) (if hit then (if enabled then t ∷ hits_since_enabled table enable period t else []) else hits_since_enabled table enable period t)
    go rest true true = All-cons (λ h. h < suc t) t (hits_since_enabled table enable period t) (omega arith) rest
    go rest true false = All-nil (λ h. h < suc t)
    go rest false enabled = rest

-- the counted hits lie before
pub counted_below : (table : Table) (enable : Option ℕ) (reset : Bool) (period : Option ℕ) (t : ℕ) → All (λ h. h < t) (counted_hits table enable reset period t)
counted_below table None reset period t = hits_all period t
counted_below table (Some control) false period t = All-filter (is_enabled_at table control) (λ h. h < t) (hits_before period t) (hits_all period t)
counted_below table (Some control) true period t = since_below table control period t

-- ---- one signal serves all elements of a block
pub below_repeated : (width element : ℕ) → (width ≡ 1) ⊎ (element < width) → repeated width element < width
below_repeated width element (inl e) = subst (λ (w : ℕ). repeated w element < w) (sym e) (lit< tt)
below_repeated width element (inr h) = go (width == 1) refl
  where
    go : (b : Bool) → (width == 1) ≡ b → (if b then 0 else element) < width
    go true e = omega (arith, h)
    go false e = h

-- an element of the sum of all widths is an element of one
pub part_some : (widths : List ℕ) (element : ℕ) → element < sum widths → (signal : ℕ) × (k : ℕ) × IsPart widths element signal k
part_some [] element h = absurd (omega (arith, h))
part_some (w ∷ ws) element h = go (cases_lt element w) (λ l. part_some ws (element - w) l)
  where
    go : (element < w) ⊎ (w ≤ element) → (element - w < sum ws → (signal : ℕ) × (k : ℕ) × IsPart ws (element - w) signal k) → (signal : ℕ) × (k : ℕ) × IsPart (w ∷ ws) element signal k
    go (inl l) rest = (0, element, record { signal_is = omega arith; within = l; place = omega arith })
    go (inr g) rest =
        let r = rest (omega (arith, h, g, sum-cons w ws)) in
        (suc r.0, r.1, record { signal_is = omega (arith, r.2.signal_is); within = r.2.within; place = omega (arith, g, r.2.place, sum-cons w (take r.0 ws)) })

-- the signal in which the elements before end has the element
pub part_here : (f : ℕ → ℕ) (inputs signal left width element : ℕ) → signal < inputs → width ≡ f (signal + 1) → left < width → element ≡ sum (map f (numbers_from 1 signal)) + left
    → IsPart (map f (numbers_from 1 inputs)) element signal left
part_here f inputs signal left width element below width_is within at =
    let next : 1 + signal ≡ signal + 1 = omega arith in
    let read : slice_index (map f (numbers_from 1 inputs)) signal ≡ f (signal + 1) = get_number f 1 inputs signal below ∙ ap f next in
    record {
      signal_is = subst (λ (n : ℕ). signal < n) (sym (length_numbers f 1 inputs)) below;
      within = subst (λ (n : ℕ). left < n) (width_is ∙ sym read) within;
      place = at ∙ ap (λ (xs : List ℕ). sum xs + left) (sym (take_numbers f 1 inputs signal (omega (arith, below))));
    }
