-- Where a multiplier stands among the multipliers of a netlist.
use Rattle.std.proofs.Common.{◌≡◌, ℕ, zero, suc, ◌+◌, ◌<◌, ◌≤◌, List, [], ◌∷◌, ◌++◌, take, length, Some, ap, sym, ◌∙◌, refl, arith, length-append}
use Rattle.std.specs.Prelude.{slice_get}
use Rattle.std.specs.List.{flat_map}
use Rattle.std.proofs.lemmas.Option.{none-some, same_Some}
use Rattle.hw_net.specs.declared.netlist.Net.{Net}
use Rattle.hw_net.specs.declared.netlist.NetKind.TheVariants.{Unit}
use Rattle.hw_build.specs.Serving.{Factors, unit_factors}
use Rattle.math_list.proofs.Places.{get_right}

module _ {A B : Type 0} (f : A → List B) where
  -- an element with one stands behind those of the elements before it
  pub listed_at : (xs : List A) (k : ℕ) (x : A) (y : B) → slice_get xs k ≡ Some x → f x ≡ y ∷ [] → slice_get (flat_map f xs) (length (flat_map f (take k xs))) ≡ Some y
  listed_at [] k x y at is = absurd (none-some x at)
  listed_at (z ∷ xs) zero x y at is = ap (λ (ys : List B). slice_get (ys ++ flat_map f xs) 0) (ap f (same_Some z x at) ∙ is)
  listed_at (z ∷ xs) (suc k) x y at is =
      let size : length (f z ++ flat_map f (take k xs)) ≡ length (f z) + length (flat_map f (take k xs)) = length-append (f z) (flat_map f (take k xs)) in
      ap (slice_get (f z ++ flat_map f xs)) size ∙ get_right (f z) (flat_map f xs) (length (flat_map f (take k xs))) ∙ listed_at xs k x y at is

  -- none have any
  pub none_before : (xs : List A) (k : ℕ) → ((j : ℕ) (x : A) → j < k → slice_get xs j ≡ Some x → f x ≡ []) → length (flat_map f (take k xs)) ≡ 0
  none_before [] zero none = refl
  none_before [] (suc k) none = refl
  none_before (x ∷ xs) zero none = refl
  none_before (x ∷ xs) (suc k) none =
      ap (λ (ys : List B). length (ys ++ flat_map f (take k xs))) (none 0 x (omega arith) refl) ∙ none_before xs k (λ j y below at. none (suc j) y (omega (arith, below)) at)

  no_first : (xs : List A) → length (flat_map f (take 0 xs)) ≡ 0
  no_first [] = refl
  no_first (x ∷ xs) = refl

  -- one each from a place on
  pub one_each : (xs : List A) (first j : ℕ) → first + j ≤ length xs
      → ((i : ℕ) (x : A) → i < first → slice_get xs i ≡ Some x → f x ≡ [])
      → ((i : ℕ) (x : A) → first ≤ i → i < first + j → slice_get xs i ≡ Some x → (y : B) × (f x ≡ y ∷ []))
      → length (flat_map f (take (first + j) xs)) ≡ j
  one_each xs zero zero room none one = let e : 0 + 0 ≡ 0 = omega arith in ap (λ (n : ℕ). length (flat_map f (take n xs))) e ∙ no_first xs
  one_each [] zero (suc j) room none one = absurd (omega (arith, room))
  one_each (x ∷ xs) zero (suc j) room none one =
      let here = one 0 x (omega arith) (omega arith) refl in
      let rest = one_each xs zero j (omega (arith, room)) (λ i y below at. absurd (omega (arith, below))) (λ i y low high at. one (suc i) y (omega arith) (omega (arith, high)) at) in
      let e : 0 + suc j ≡ suc (0 + j) = omega arith in
      ap (λ (n : ℕ). length (flat_map f (take n (x ∷ xs)))) e ∙ ap (λ (ys : List B). length (ys ++ flat_map f (take (0 + j) xs))) here.1 ∙ ap suc rest
  one_each [] (suc first) j room none one = absurd (omega (arith, room))
  one_each (x ∷ xs) (suc first) j room none one =
      let rest = one_each xs first j (omega (arith, room))
      (λ i y below at. none (suc i) y (omega (arith, below)) at)
      (λ i y low high at. one (suc i) y (omega (arith, low)) (omega (arith, high)) at) in
      let e : suc first + j ≡ suc (first + j) = omega arith in
      ap (λ (n : ℕ). length (flat_map f (take n (x ∷ xs)))) e ∙ ap (λ (ys : List B). length (ys ++ flat_map f (take (first + j) xs))) (none 0 x (omega arith) refl) ∙ rest

-- ---- the multipliers of a netlist

-- the Unit nets of a netlist are so many, one behind the other from a number on
pub record AreUnitsFrom (nets : List Net) (first count : ℕ) : Type 0 where
  pub room : first + count ≤ length nets
  pub before : (k : ℕ) (net : Net) → k < first → slice_get nets k ≡ Some net → unit_factors net.kind ≡ []
  pub there : (k : ℕ) (net : Net) → first ≤ k → k < first + count → slice_get nets k ≡ Some net → (factors : Factors) × (unit_factors net.kind ≡ factors ∷ [])

-- each has the number that its place among them is
pub multiplier_at : (nets : List Net) (first count unit left right : ℕ) (net : Net) → AreUnitsFrom nets first count
    → unit < count → slice_get nets (first + unit) ≡ Some net → net.kind ≡ Unit left right
    → slice_get (flat_map (λ (n : Net). unit_factors n.kind) nets) unit ≡ Some (record { left = left; right = right })
multiplier_at nets first count unit left right net are below at kind =
    let room = are.room in
    let behind : length (flat_map (λ (n : Net). unit_factors n.kind) (take (first + unit) nets)) ≡ unit =
    one_each (λ (n : Net). unit_factors n.kind) nets first unit (omega (arith, room, below)) are.before (λ k n low high there. are.there k n low (omega (arith, high, below)) there) in
    ap (slice_get (flat_map (λ (n : Net). unit_factors n.kind) nets)) (sym behind)
    ∙ listed_at (λ (n : Net). unit_factors n.kind) nets (first + unit) net (record { left = left; right = right }) at (ap unit_factors kind)

-- none have any from a place on
none_past : (xs : List Net) (k : ℕ) → ((j : ℕ) (x : Net) → k ≤ j → slice_get xs j ≡ Some x
    → unit_factors x.kind ≡ []) → length (flat_map (λ (n : Net). unit_factors n.kind) xs)
    ≡ length (flat_map (λ (n : Net). unit_factors n.kind) (take k xs))
none_past [] zero none = refl
none_past [] (suc k) none = refl
none_past (x ∷ xs) zero none =
    ap (λ (ys : List Factors). length (ys ++ flat_map (λ (n : Net). unit_factors n.kind) xs)) (none 0 x (omega arith) refl)
    ∙ none_past xs zero (λ j y past at. none (suc j) y (omega arith) at) ∙ no_first (λ (n : Net). unit_factors n.kind) xs
none_past (x ∷ xs) (suc k) none =
    length-append (unit_factors x.kind) (flat_map (λ (n : Net). unit_factors n.kind) xs)
    ∙ ap (λ (n : ℕ). length (unit_factors x.kind) + n) (none_past xs k (λ j y past at. none (suc j) y (omega (arith, past)) at))
    ∙ sym (length-append (unit_factors x.kind) (flat_map (λ (n : Net). unit_factors n.kind) (take k xs)))

-- so a netlist has as many multipliers as Unit nets
pub counted_units : (nets : List Net) (first count : ℕ) → AreUnitsFrom nets first count
    → ((k : ℕ) (net : Net) → first + count ≤ k → slice_get nets k ≡ Some net → unit_factors net.kind ≡ [])
    → length (flat_map (λ (n : Net). unit_factors n.kind) nets) ≡ count
counted_units nets first count are none = none_past nets (first + count) none ∙ one_each (λ (n : Net). unit_factors n.kind) nets first count are.room are.before are.there
