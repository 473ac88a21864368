-- What a tree that keeps the rule of structure has.
use Rattle.std.proofs.Common.{◌≡◌, ℕ, zero, suc, ◌+◌, ◌<◌, ◌≤◌, Bool, true, false, cond, not, List, [], ◌∷◌, length, map, Option, Some, None, refl, sym, ◌∙◌, ap, inl, inr, arith}
use Rattle.std.specs.Prelude.{◌==◌, ◌&&◌, ◌⊎◌, nat_le, nat_lt, count_by, slice_get, option_map, is_some, codes}
use Rattle.std.specs.List.{range_with_len, list_all}
use Rattle.std.proofs.lemmas.Bool.Decides.{nat_tests}
use Rattle.dg_model.specs.declared.fault.RuleFault.{RuleFault}
use Rattle.mdl_text.specs.declared.tree.Item.{Item}
use Rattle.mdl_build.specs.declared.roles.Role.{Role}
use Rattle.mdl_build.specs.declared.roles.Role.TheVariants.{System, SubSystem, Filter}
use Rattle.mdl_build.specs.Blocks.{at, if_subsystem, parent_of, number_at}
use Rattle.mdl_build.specs.Extents.{AreExtents, total}
use Rattle.mdl_build.specs.Lines.{keeps_line}
use Rattle.mdl_build.specs.Roles.{role_of, roles_of, role_under, role_in_system, is_block, blocks_of, deeper}
use Rattle.mdl_build.specs.Rules.{is_system, is_system_in, has_root, is_shallow, are_shallow, has_one_system, has_own_name, keeps_model, keeps_structure, structure_fault}
use Rattle.mdl_build.specs.Sections.{places_of, holder_of, value_of}
use Rattle.mdl_build.proofs.BlockNumbers.{count_cons, only_one, none_passes, block_at, one_number}
use Rattle.mdl_build.proofs.ExtentLemmas.{blocks_within}
use Rattle.mdl_build.proofs.RoleLemmas.{BlockAbove, SystemAbove, block_above, system_above, holder_before}
use Rattle.std.proofs.lemmas.Bool.{not-false}
use Rattle.math_list.proofs.Tests.{left_true, right_true}

-- ---- tests

if_none : (b : Bool) (found : Option RuleFault) (fault : RuleFault) → cond b found (Some fault) ≡ None → (b ≡ true) × (found ≡ None)
if_none true found fault e = (refl, e)
if_none false found fault e = let bad : ◌≡◌ {A = Option RuleFault} (Some fault) None = e in absurd (cc)

map_none : {A : Type 0} (f : A → RuleFault) (found : Option A) → option_map f found ≡ None → found ≡ None
map_none f None e = refl
map_none f (Some x) e = let bad : ◌≡◌ {A = Option RuleFault} (Some (f x)) None = e in absurd (cc)

-- a test of all places, at one
all_at : (P : ℕ → Bool) (from count place : ℕ) → list_all P (range_with_len from count) ≡ true → from ≤ place → place < from + count → P place ≡ true
all_at P from zero place all above below = absurd (omega arith)
all_at P from (suc count) place all above below =
    by_place (λ more b. all_at P (from + 1) count place
    (right_true (P from) (list_all P (range_with_len (from + 1) count)) all) more b) (from == place) refl
  where
    by_place : (from + 1 ≤ place → place < from + 1 + count → P place ≡ true) → (b : Bool) → (from == place) ≡ b → P place ≡ true
    by_place later true same = let is : from ≡ place = grind (arith, nat_tests) in ap P (sym is) ∙ left_true (P from) (list_all P (range_with_len (from + 1) count)) all
    by_place later false other = let more : from + 1 ≤ place = grind (arith, nat_tests) in later more (omega arith)

all_map : {A : Type 0} (P : A → Bool) (f : ℕ → A) (xs : List ℕ) → list_all P (map f xs) ≡ list_all (λ x. P (f x)) xs
all_map P f [] = refl
all_map P f (x ∷ xs) = ap (λ (b : Bool). P (f x) && b) (all_map P f xs)

count_map : {A : Type 0} (P : A → Bool) (f : ℕ → A) (xs : List ℕ) → count_by P (map f xs) ≡ count_by (λ x. P (f x)) xs
count_map P f [] = refl
count_map P f (x ∷ xs) = count_cons P (f x) (map f xs) ∙ ap (λ (n : ℕ). (0 + cond (P (f x)) 1 0) + n) (count_map P f xs) ∙ sym (count_cons (λ y. P (f y)) x xs)

-- ---- the tree

pub record IsKept (items : List Item) : Type 0 where
  pub one_root : (one other : ℕ) → one < length items → other < length items → role_of items one ≡ System 1 → role_of items other ≡ System 1 → one ≡ other
  pub shallow : (place level : ℕ) → place < length items → role_of items place ≡ System level → level ≤ 64
  pub filters : (place level : ℕ) → place < length items → role_of items place ≡ Filter level → level ≤ 63
  pub few : length (blocks_of items) ≤ 20000
  pub lines : (place : ℕ) → place < length items → keeps_line items place (role_of items place) ≡ true
  pub blocks : (number place : ℕ) → slice_get (blocks_of items) number ≡ Some place → keeps_structure items place ≡ true

pub kept : (items : List Item) (extents : List ℕ) → AreExtents items extents → structure_fault extents items ≡ None → IsKept items
kept items extents are none =
    let parts = if_none (keeps_model extents items) _ _ none in
    let fronts = left_true (has_root (roles_of items) && are_shallow (roles_of items) && nat_le (total extents) 20000) _ parts.0 in
    let root_shallow = left_true (has_root (roles_of items) && are_shallow (roles_of items)) _ fronts in
    let root = right_true _ (count_by (is_system (λ level. level == 1)) (roles_of items) == 1) (left_true (has_root (roles_of items)) _ root_shallow) in
    let all_shallow = right_true _ (are_shallow (roles_of items)) root_shallow in
    let small = right_true _ (nat_le (total extents) 20000) fronts in
    let joined = right_true _ (list_all (λ place. keeps_line items place (role_of items place)) (places_of items)) parts.0 in
    let one : count_by (λ (place : ℕ). is_system (λ level. level == 1) (role_of items place)) (range_with_len 0 (length items)) ≡ 1 =
    sym (count_map (is_system (λ level. level == 1)) (role_of items) (range_with_len 0 (length items))) ∙ grind (arith, nat_tests, root) in
    let shallow_at : (place : ℕ) → place < length items → is_shallow (role_of items place) ≡ true =
    λ place within. all_at (λ (p : ℕ). is_shallow (role_of items p)) 0 (length items) place
    (sym (all_map is_shallow (role_of items) (range_with_len 0 (length items))) ∙ all_shallow) (omega arith)
    (omega arith) in
    record {
      one_root = λ a b within within' is is'. only_one
          (λ (place : ℕ). is_system (λ level. level == 1) (role_of items place)) 0 (length items) a b one
          (omega arith) (omega arith) (ap (is_system (λ level. level == 1)) is) (omega arith) (omega arith)
          (ap (is_system (λ level. level == 1)) is');
      shallow = λ place level within is.
          let test : nat_lt level 65 ≡ true = sym (ap is_shallow is) ∙ shallow_at place within in
          grind (arith, nat_tests);
      filters = λ place level within is.
          let test : nat_lt level 64 ≡ true = sym (ap is_shallow is) ∙ shallow_at place within in
          grind (arith, nat_tests);
      few = (let least = blocks_within items extents are in grind (arith, nat_tests, small));
      lines = λ place within. all_at (λ (p : ℕ). keeps_line items p (role_of items p)) 0 (length items) place joined (omega arith) (omega arith);
      blocks = λ number place there. not-false _ (none_passes (λ (p : ℕ). not (keeps_structure items p)) (blocks_of items) (map_none _ _ parts.1) number place there);
    }

pub kept_few : (items : List Item) (extents : List ℕ) → structure_fault extents items ≡ None → total extents ≤ 20000
kept_few items extents none =
    let parts = if_none (keeps_model extents items) _ _ none in
    let fronts = left_true (has_root (roles_of items) && are_shallow (roles_of items) && nat_le (total extents) 20000) _ parts.0 in
    let small = right_true _ (nat_le (total extents) 20000) fronts in
    grind (arith, nat_tests, small)

-- ---- where a block stands

-- a block in the System of the Model, or of a subsystem
abbrev pub StandCases : List Item → ℕ → ℕ → ℕ → Type 0
StandCases items place level holder =
    ((level ≡ 1) × (parent_of items place ≡ None))
    ⊎ ((outer : ℕ) × (role_of items holder ≡ SubSystem outer) × (level ≡ deeper outer) × (parent_of items place ≡ Some holder))

pub record Stand (items : List Item) (place : ℕ) : Type 0 where
  pub system : ℕ
  pub level : ℕ
  pub holder : ℕ
  pub in_system : holder_of items place ≡ Some system
  pub before : system < place
  pub system_is : role_of items system ≡ System level
  pub role_is : role_of items place ≡ role_in_system items level place
  pub in_holder : holder_of items system ≡ Some holder
  pub holder_before : holder < system
  pub cases : StandCases items place level holder

pub stand : (items : List Item) (place : ℕ) → is_block (role_of items place) ≡ true → Stand items place
stand items place counts = record {
  system = own.system;
  level = own.level;
  holder = above.holder;
  in_system = own.under.at_holder;
  before = holder_before items place own.system own.under.at_holder;
  system_is = own.system_is;
  role_is = own.under.role_is ∙ ap (λ (r : Role). role_under items own.system r place) own.system_is;
  in_holder = above.under.at_holder;
  holder_before = holder_before items own.system above.holder above.under.at_holder;
  cases = elim above.holder_is [
    | inl model ↦ inl (model.1, parent_is ∙ ap (if_subsystem above.holder) model.0)
    | inr sub ↦ inr (sub.0, sub.1, sub.2, parent_is ∙ ap (if_subsystem above.holder) sub.1)
  ];
}
  where
    own : BlockAbove items place
    own = block_above items place counts

    above : SystemAbove items (own.system) (own.level)
    above = system_above items own.system own.level own.system_is

    parent_is : parent_of items place ≡ if_subsystem above.holder (role_of items above.holder)
    parent_is = ap (λ (found : Option ℕ). at None (λ system. at None (λ holder. if_subsystem holder (role_of items holder)) (holder_of items system)) found) own.under.at_holder
        ∙ ap (λ (found : Option ℕ). at None (λ holder. if_subsystem holder (role_of items holder)) found) above.under.at_holder

-- ---- which blocks stand in one System

-- the test of one System, of a section
in_section : (items : List Item) (holder system level : ℕ) → role_of items system ≡ System level → holder_of items system ≡ Some holder → is_system_in items holder system ≡ true
in_section items holder system level is held =
    ap (λ (r : Role). is_system (λ l. true) r && at false (λ other. other == holder) (holder_of items system)) is
    ∙ ap (λ (f : Option ℕ). at false (λ other. other == holder) f) held ∙ same_number holder
  where
    same_number : (n : ℕ) → (n == n) ≡ true
    same_number n = grind (arith, nat_tests)

-- two Systems of a subsystem are one
pub one_system : (items : List Item) → IsKept items → (holder outer one other a b : ℕ) → holder < length items
    → role_of items holder ≡ SubSystem outer → one < length items → other < length items
    → role_of items one ≡ System a → role_of items other ≡ System b → holder_of items one ≡ Some holder
    → holder_of items other ≡ Some holder → one ≡ other
one_system items known holder outer one other a b within sub within_one within_other is_one is_other held_one held_other =
    let number = block_at items holder within (ap is_block sub) in
    let all = known.blocks (number_at items holder) holder number in
    let last : has_one_system items holder (role_of items holder) ≡ true = right_true (is_some (value_of items holder (codes "BlockType")) && has_own_name items holder) _ all in
    let test : (count_by (is_system_in items holder) (places_of items) == 1) ≡ true = sym (ap (has_one_system items holder) sub) ∙ last in
    let single : count_by (is_system_in items holder) (range_with_len 0 (length items)) ≡ 1 = grind (arith, nat_tests, test) in
    only_one (is_system_in items holder) 0 (length items) one other single (omega arith) (omega arith)
    (in_section items holder one a is_one held_one) (omega arith) (omega arith)
    (in_section items holder other b is_other held_other)

pub same_Some : (a b : ℕ) → ◌≡◌ {A = Option ℕ} (Some a) (Some b) → a ≡ b
same_Some a b e = cc

-- two blocks of one parent stand in one System
pub same_system : (items : List Item) → IsKept items → (one other : ℕ) → one < length items → other < length items
    → (s : Stand items one) → (t : Stand items other)
    → option_map (number_at items) (parent_of items one) ≡ option_map (number_at items) (parent_of items other)
    → s.system ≡ t.system
same_system items known one other within within' s t same = elim s.cases [
  | inl root ↦ elim t.cases [
    | inl root' ↦ known.one_root s.system t.system (omega (arith, s.before)) (omega (arith, t.before)) (s.system_is ∙ ap System root.0) (t.system_is ∙ ap System root'.0)
    | inr sub' ↦ let bad : ◌≡◌ {A = Option ℕ} None (Some (number_at items t.holder)) = sym (ap (option_map (number_at items)) root.1) ∙ same ∙ ap (option_map (number_at items)) sub'.3 in cc
  ]
  | inr sub ↦ elim t.cases [
    | inl root' ↦ let bad : ◌≡◌ {A = Option ℕ} (Some (number_at items s.holder)) None = sym (ap (option_map (number_at items)) sub.3) ∙ same ∙ ap (option_map (number_at items)) root'.1 in cc
    | inr sub' ↦
        let numbers = same_Some (number_at items s.holder) (number_at items t.holder) (sym (ap (option_map (number_at items)) sub.3) ∙ same ∙ ap (option_map (number_at items)) sub'.3) in
        let inside : s.holder < length items = omega (arith, s.before, s.holder_before) in
        let inside' : t.holder < length items = omega (arith, t.before, t.holder_before) in
        let holders : s.holder ≡ t.holder = one_number items s.holder t.holder inside (ap is_block sub.1) inside' (ap is_block sub'.1) numbers in
        one_system items known s.holder sub.0 s.system t.system s.level t.level inside sub.1
        (omega (arith, s.before)) (omega (arith, t.before)) s.system_is t.system_is s.in_holder
        (t.in_holder ∙ ap (λ (h : ℕ). Some h) (sym holders))
  ]
]
