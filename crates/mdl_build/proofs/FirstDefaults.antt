-- The first section that has the defaults of a type.
use Rattle.std.proofs.Common.{◌≡◌, ℕ, zero, suc, ◌+◌, ◌-◌, ◌<◌, ◌≤◌, Bool, true, false, cond, List, [], ◌∷◌, length, get_or, Option, Some, None, refl, sym, ◌∙◌, ap, arith}
use Rattle.std.specs.Prelude.{◌&&◌, codes}
use Rattle.std.specs.List.{find, range_with_len}
use Rattle.mdl_text.specs.declared.tree.Item.{Item}
use Rattle.mdl_build.specs.declared.library.BlockType.{BlockType}
use Rattle.mdl_build.specs.declared.roles.Role.{Role}
use Rattle.mdl_build.specs.Library.{type_name}
use Rattle.mdl_build.specs.Lookup.{first_defaults, is_in, has_defaults, defaults_of}
use Rattle.mdl_build.specs.Roles.{role_of, roles_of, says}
use Rattle.mdl_build.proofs.Places.{known_at}
use Rattle.math_list.proofs.Places.{search_step}

pub find_here : (P : ℕ → Bool) (from count : ℕ) (found : Option ℕ) → from < count → found ≡ find P (range_with_len from (count - from)) → P from ≡ true → Some from ≡ found
find_here P from count found below same passes = sym (same ∙ search_step P from count below ∙ ap (λ (b : Bool). cond b (Some from) (find P (range_with_len (from + 1) (count - (from + 1))))) passes)

pub find_behind : (P : ℕ → Bool) (from count : ℕ) (found : Option ℕ) → from < count
    → found ≡ find P (range_with_len from (count - from)) → P from ≡ false
    → found ≡ find P (range_with_len (from + 1) (count - (from + 1)))
find_behind P from count found below same fails = same ∙ search_step P from count below ∙ ap (λ (b : Bool). cond b (Some from) (find P (range_with_len (from + 1) (count - (from + 1))))) fails

pub find_at_end : (P : ℕ → Bool) (from count : ℕ) (found : Option ℕ) → count ≤ from → found ≡ find P (range_with_len from (count - from)) → None ≡ found
find_at_end P from count found past same = let left : count - from ≡ 0 = omega arith in sym (same ∙ ap (λ (n : ℕ). find P (range_with_len from n)) left)

-- what is found is one of the places
pub find_within : (P : ℕ → Bool) (from count place : ℕ) → find P (range_with_len from count) ≡ Some place → place < from + count
find_within P from zero place found = let bad : ◌≡◌ {A = Option ℕ} None (Some place) = found in cc
find_within P from (suc count) place found = by_test (find_within P (from + 1) count place) (P from) refl
  where
    by_test : (find P (range_with_len (from + 1) count) ≡ Some place → place < from + 1 + count) → (b : Bool) → P from ≡ b → place < from + suc count
    by_test later true e =
        let here : ◌≡◌ {A = Option ℕ} (Some from) (Some place) = sym (ap (λ (b : Bool). cond b (Some from) (find P (range_with_len (from + 1) count))) e) ∙ found in
        let same : from ≡ place = cc in omega arith
    by_test later false e =
        let behind : place < from + 1 + count = later (sym (ap (λ (b : Bool). cond b (Some from) (find P (range_with_len (from + 1) count))) e) ∙ found) in omega arith

-- nothing is found where nothing passes
pub find_none : (P : ℕ → Bool) (places : List ℕ) → ((place : ℕ) → P place ≡ false) → None ≡ find P places
find_none P [] fails = refl
find_none P (place ∷ places) fails = find_none P places fails ∙ sym (ap (λ (b : Bool). cond b (Some place) (find P places)) (fails place))

-- what the code asks of an item
pub asks : (items : List Item) (roles : List Role) (block_type : BlockType) (section place : ℕ) (other : Role)
    → roles ≡ roles_of items → first_defaults items ≡ Some section → place < length items
    → has_defaults items block_type place
    ≡ (is_in (Some section) (get_or roles place other)
    && says items place (codes "BlockType") (type_name block_type))
asks items roles block_type section place other known first within =
    ap (λ (s : Option ℕ). is_in s (role_of items place) && says items place (codes "BlockType") (type_name block_type)) first
    ∙ ap (λ (r : Role). is_in (Some section) r && says items place (codes "BlockType") (type_name block_type)) (sym (known_at (role_of items) roles (length items) place known within other))

-- without a section of defaults no type has any
pub none_without : (items : List Item) (block_type : BlockType) → None ≡ first_defaults items → None ≡ defaults_of items block_type
none_without items block_type none = find_none (has_defaults items block_type) (range_with_len 0 (length items))
    (λ place. ap (λ (s : Option ℕ). is_in s (role_of items place)
    && says items place (codes "BlockType") (type_name block_type)) (sym none))
