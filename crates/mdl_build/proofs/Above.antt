-- The last item before a place that is less deep, found by leaps.
use Rattle.std.proofs.Common.{◌≡◌, ℕ, zero, suc, ◌+◌, ◌-◌, ◌<◌, ◌≤◌, Bool, true, false, cond, List, length, get_or, map, Option, Some, None, sym, ◌∙◌, ap, refl, arith}
use Rattle.std.specs.Prelude.{nat_lt}
use Rattle.std.specs.List.{range_with_len}
use Rattle.std.proofs.lemmas.List.FromFn.{get_or-map-range_with_len, length-map-range_with_len}
use Rattle.mdl_text.specs.declared.tree.Item.{Item}
use Rattle.mdl_build.proofs.Ends.{depth_is}
use Rattle.mdl_build.specs.Sections.{depth_at, last_above, holder_of}
use Rattle.mdl_build.proofs.SoundTree.{same_Some}

-- where none is less deep than a depth, none is less deep than a lesser one
none_above : (items : List Item) (low high k : ℕ) → low ≤ high → last_above items high k ≡ None → last_above items low k ≡ None
none_above items low high zero h none = refl
none_above items low high (suc k) h none = by_test (none_above items low high k h) (nat_lt (depth_at items k) high) refl
  where
    by_test : (last_above items high k ≡ None → last_above items low k ≡ None) → (b : Bool) → nat_lt (depth_at items k) high ≡ b → last_above items low (suc k) ≡ None
    by_test before true e = let bad : ◌≡◌ {A = Option ℕ} (Some k) None = sym (ap (λ (b : Bool). cond b (Some k) (last_above items high k)) e) ∙ none in cc
    by_test before false e =
        let not_low : nat_lt (depth_at items k) low ≡ false = grind (arith, e, h) in
        ap (λ (b : Bool). cond b (Some k) (last_above items low k)) not_low
        ∙ before (sym (ap (λ (b : Bool). cond b (Some k) (last_above items high k)) e) ∙ none)

-- where one is, all behind it can be passed over
some_above : (items : List Item) (low high k holder : ℕ) → low ≤ high → last_above items high k ≡ Some holder → last_above items low k ≡ last_above items low (suc holder)
some_above items low high zero holder h some = let bad : ◌≡◌ {A = Option ℕ} None (Some holder) = some in cc
some_above items low high (suc k) holder h some = by_test (some_above items low high k holder h) (nat_lt (depth_at items k) high) refl
  where
    by_test : (last_above items high k ≡ Some holder → last_above items low k ≡ last_above items low (suc holder))
        → (b : Bool) → nat_lt (depth_at items k) high ≡ b
        → last_above items low (suc k) ≡ last_above items low (suc holder)
    by_test before true e =
        let same : k ≡ holder = same_Some k holder (sym (ap (λ (b : Bool). cond b (Some k) (last_above items high k)) e) ∙ some) in
        ap (λ (n : ℕ). last_above items low (suc n)) same
    by_test before false e =
        let not_low : nat_lt (depth_at items k) low ≡ false = grind (arith, e, h) in
        ap (λ (b : Bool). cond b (Some k) (last_above items low k)) not_low
        ∙ before (sym (ap (λ (b : Bool). cond b (Some k) (last_above items high k)) e) ∙ some)

-- the place behind an item that is found, else the first
abbrev pub behind : Option ℕ → ℕ
behind None = 0
behind (Some holder) = holder + 1

-- an item that isn't less deep, and all to its holder, can be passed over
pub leap : (items : List Item) (depth last : ℕ) (holder : Option ℕ) → depth ≤ depth_at items last
    → holder ≡ holder_of items last → last_above items depth (last + 1) ≡ last_above items depth (behind holder)
leap items depth last holder h is = step ∙ by_holder holder is
  where
    not_less : nat_lt (depth_at items last) depth ≡ false
    not_less = grind (arith, h)

    step : last_above items depth (last + 1) ≡ last_above items depth last
    step = let plus : last + 1 ≡ suc last = omega arith in ap (last_above items depth) plus ∙ ap (λ (b : Bool). cond b (Some last) (last_above items depth last)) not_less

    by_holder : (found : Option ℕ) → found ≡ holder_of items last → last_above items depth last ≡ last_above items depth (behind found)
    by_holder None e = none_above items depth (depth_at items last) last h (sym e)
    by_holder (Some k) e =
        let plus : suc k ≡ k + 1 = omega arith in
        some_above items depth (depth_at items last) last k h (sym e) ∙ ap (last_above items depth) plus

-- what is written of the holders
pub holder_known : (items : List Item) (holders : List (Option ℕ)) (count place : ℕ)
    → holders ≡ map (holder_of items) (range_with_len 0 count) → place < count → (other : Option ℕ)
    → get_or holders place other ≡ holder_of items place
holder_known items holders count place is within other = rw is (get_or-map-range_with_len (holder_of items) 0 count place place other within (omega arith))

pub holders_length : (items : List Item) (holders : List (Option ℕ)) (count : ℕ) → holders ≡ map (holder_of items) (range_with_len 0 count) → length holders ≡ count
holders_length items holders count is = rw is (length-map-range_with_len (holder_of items) 0 count)

-- a leap from a place to behind the holder of the item before it
pub leap_from : (items : List Item) (depth from place : ℕ) (other : Item) (holder : Option ℕ) → 0 < from
    → from ≤ length items → depth ≤ (get_or items (from - 1) other).depth → holder ≡ holder_of items (from - 1)
    → last_above items depth from ≡ last_above items depth place
    → last_above items depth (behind holder) ≡ last_above items depth place
leap_from items depth from place other holder some within deep there same =
    let inside : from - 1 < length items = omega arith in
    let at_least : depth ≤ depth_at items (from - 1) = omega (arith, depth_is items (from - 1) other inside) in
    let plus : from - 1 + 1 ≡ from = omega arith in
    sym (leap items depth (from - 1) holder at_least there) ∙ ap (last_above items depth) plus ∙ same
