-- How many Systems stand in each section, with one more item.
use Rattle.std.proofs.Common.{◌≡◌, ◌≢◌, ℕ, ◌+◌, ◌<◌, ◌≤◌, Bool, true, false, cond, List, [], ◌∷◌, length, drop, set, Option, Some, None, get_or, refl, sym, ap, ◌∙◌, ⊎_elim, eq-eqb, ne_eqb, true≢false}
use Rattle.std.proofs.Common.{arith}
use Rattle.std.specs.Prelude.{◌==◌, ◌&&◌, count_by, is_some}
use Rattle.std.specs.Option.{option_map_or}
use Rattle.std.specs.List.{range_with_len}
use Rattle.std.proofs.lemmas.Bool.{cases_eq}
use Rattle.std.specs.Int.{from_bool}
use Rattle.std.proofs.lemmas.List.{at_drop_all, get_or-set_same, get_or-set_other, length-set}
use Rattle.std.proofs.lemmas.List.FromFn.{length-range_with_len}
use Rattle.std.proofs.lemmas.List.Sums.{sum_by-append, sum_by-drop_more, count_by-le-length}
use Rattle.mdl_text.specs.declared.tree.Item.{Item}
use Rattle.mdl_build.specs.declared.roles.Role.{Role}
use Rattle.mdl_build.specs.Blocks.{at}
use Rattle.mdl_build.specs.Roles.{role_of}
use Rattle.mdl_build.specs.Rules.{is_system, is_system_in}
use Rattle.mdl_build.specs.Sections.{holder_of}
use Rattle.mdl_build.specs.inner.Structure.{AreCounts}
use Rattle.mdl_build.proofs.Ranges.{range_next}

count_next : (p : ℕ → Bool) (n : ℕ) → count_by p (range_with_len 0 (n + 1)) ≡ count_by p (range_with_len 0 n) + (0 + cond (p n) 1 0)
count_next p n = ap (count_by p) (range_next n) ∙ sum_by-append (λ (x : ℕ). cond (p x) 1 0) (range_with_len 0 n) (n ∷ [])

count_yes : (p : ℕ → Bool) (n : ℕ) → p n ≡ true → count_by p (range_with_len 0 (n + 1)) ≡ count_by p (range_with_len 0 n) + 1
count_yes p n e = count_next p n ∙ ap (λ (b : Bool). count_by p (range_with_len 0 n) + (0 + cond b 1 0)) e

count_no : (p : ℕ → Bool) (n : ℕ) → p n ≡ false → count_by p (range_with_len 0 (n + 1)) ≡ count_by p (range_with_len 0 n)
count_no p n e =
    let f : count_by p (range_with_len 0 n) + 0 ≡ count_by p (range_with_len 0 n) = omega arith in
    count_next p n ∙ ap (λ (b : Bool). count_by p (range_with_len 0 n) + (0 + cond b 1 0)) e ∙ f

-- no more than there are items
pub count_bound : (p : ℕ → Bool) (n : ℕ) → count_by p (range_with_len 0 n) ≤ n
count_bound p n = omega (arith, count_by-le-length p (range_with_len 0 n), length-range_with_len 0 n)

module _ (items : List Item) (counts : List ℕ) (place : ℕ) (before : AreCounts items counts place) where
  -- an item that is no System changes nothing
  pub no_system : is_system (λ level. true) (role_of items place) ≡ false → AreCounts items counts (place + 1)
  no_system other = record {
    long = before.long;
    each = λ holder below. before.each holder below ∙ sym (count_no (is_system_in items holder) place (ap (λ (b : Bool). b && at false (λ found. found == holder) (holder_of items place)) other));
  }

  and_false : (b : Bool) → (b && false) ≡ false
  and_false true = refl
  and_false false = refl

  -- nor one that stands in no section
  pub no_holder : holder_of items place ≡ None → AreCounts items counts (place + 1)
  no_holder none = record {
    long = before.long;
    each = λ holder below.
        before.each holder below
        ∙ sym (count_no (is_system_in items holder) place
        (ap (λ (found : Option ℕ). is_system (λ level. true) (role_of items place)
        && at false (λ other. other == holder) found) none
        ∙ and_false (is_system (λ level. true) (role_of items place))));
  }

  -- a System is counted where it stands
  pub one_system : (own new : ℕ) → is_system (λ level. true) (role_of items place) ≡ true
      → holder_of items place ≡ Some own → own < length items → new ≡ get_or counts own 0 + 1
      → AreCounts items (set counts own new) (place + 1)
  one_system own new is there inside value = record {
    long = length-set counts own new ∙ before.long;
    each = λ holder below. ⊎_elim
        (λ (same : holder ≡ own).
        let in_list : own < length counts = omega (arith, inside, before.long) in
        ap (λ (k : ℕ). get_or (set counts own new) k 0) same
        ∙ get_or-set_same counts own new 0 in_list
        ∙ value
        ∙ ap (λ (k : ℕ). k + 1) (before.each own inside)
        ∙ sym (count_yes (is_system_in items own) place (counted own ∙ eq-eqb own own refl))
        ∙ ap (λ (k : ℕ). count_by (is_system_in items k) (range_with_len 0 (place + 1))) (sym same))
        (λ (other : holder ≢ own).
        let apart : own ≢ holder = λ e. other (sym e) in
        get_or-set_other counts own holder new 0 other
        ∙ before.each holder below
        ∙ sym (count_no (is_system_in items holder) place (counted holder ∙ ne_eqb own holder apart)))
        (cases_eq holder own);
  }
    where
      counted : (holder : ℕ) → is_system_in items holder place ≡ (own == holder)
      counted holder =
          ap (λ (b : Bool). b && at false (λ other. other == holder) (holder_of items place)) is
          ∙ ap (at false (λ other. other == holder)) there

-- ---- levels

pub none_level : (level : Option ℕ) → is_some level ≡ false → option_map_or (λ (l : ℕ). true) level false ≡ false
none_level None e = refl
none_level (Some l) e = absurd (true≢false e)

pub some_level : (level : Option ℕ) → is_some level ≡ true → option_map_or (λ (l : ℕ). true) level false ≡ true
some_level None e = absurd (true≢false (sym e))
some_level (Some l) e = refl

-- ---- what is counted of all roles

pub and_true : (b : Bool) → (b && true) ≡ b
and_true true = refl
and_true false = refl

abbrev one_if : Bool → ℕ
one_if b = cond b 1 0

pub few_more : (b : Bool) (n m i : ℕ) → n ≡ from_bool b → m ≤ i → m + n ≤ i + 1
few_more true n m i is few = omega (arith, is, few)
few_more false n m i is few = omega (arith, is, few)

module _ (p : Role → Bool) (roles : List Role) (i : ℕ) where
  pub counted : (d : Role) (b : Bool) (n m total : ℕ) → i < length roles → b ≡ p (get_or roles i d)
      → n ≡ from_bool b → m + count_by p (drop i roles) ≡ total → m + n + count_by p (drop (i + 1) roles) ≡ total
  counted d b n m total inside is one before = by b is one
    where
      here : count_by p (drop i roles) ≡ one_if (p (get_or roles i d)) + count_by p (drop (i + 1) roles)
      here = sum_by-drop_more (λ (role : Role). cond (p role) 1 0) roles i d inside

      by : (b : Bool) → b ≡ p (get_or roles i d) → n ≡ from_bool b → m + n + count_by p (drop (i + 1) roles) ≡ total
      by true e f = let g : 1 ≡ one_if (p (get_or roles i d)) = ap one_if e in omega (arith, here, f, g, before)
      by false e f = let g : 0 ≡ one_if (p (get_or roles i d)) = ap one_if e in omega (arith, here, f, g, before)

  pub all_counted : (m total : ℕ) → length roles ≤ i → m + count_by p (drop i roles) ≡ total → m ≡ total
  all_counted m total past before = let none : count_by p (drop i roles) ≡ 0 = at_drop_all (count_by p) roles i past in omega (arith, none, before)
