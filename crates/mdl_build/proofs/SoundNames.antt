-- The names of a tree's blocks differ in each System.
use Rattle.std.proofs.Common.{◌≡◌, ℕ, true, false, List, get_or, Option, Some, None, refl, sym, ◌∙◌, ap, arith, true≢false}
use Rattle.std.specs.Prelude.{◌==◌, ◌&&◌, AllPairs, is_some, bytes_eq, codes}
use Rattle.std.specs.List.{AllZip}
use Rattle.std.proofs.lemmas.Bool.Decides.{nat_tests}
use Rattle.std.proofs.lemmas.Iterator.Adapters.{position_from-zero}
use Rattle.std.proofs.lemmas.Option.{slice_get-get_or}
use Rattle.std.proofs.lemmas.Slice.Eq.{bytes_eq-Decides}
use Rattle.dg_model.specs.declared.nested.NestedBlock.{NestedBlock}
use Rattle.dg_model.specs.Sound.{HaveNames}
use Rattle.mdl_text.specs.declared.tree.Item.{Item}
use Rattle.mdl_build.specs.Blocks.{at, is_named_in, number_at, number_of}
use Rattle.mdl_build.specs.Nested.{IsBlockAt}
use Rattle.mdl_build.specs.Roles.{blocks_of, says}
use Rattle.mdl_build.specs.Rules.{is_number, is_first_named, has_own_name}
use Rattle.mdl_build.specs.Sections.{holder_of, value_of}
use Rattle.mdl_build.proofs.SoundBlocks.{block_here}
use Rattle.mdl_build.proofs.SoundSearch.{first_from}
use Rattle.mdl_build.proofs.SoundTree.{IsKept, same_system}
use Rattle.std.proofs.lemmas.Bool.{and_from}
use Rattle.math_list.proofs.Tests.{left_true, right_true}

-- ---- names

number_found : (number : ℕ) (found : Option ℕ) → is_number number found ≡ true → found ≡ Some number
number_found number None e = absurd (true≢false (sym e))
number_found number (Some other) e = let same : other ≡ number = grind (arith, nat_tests) in ap (λ (n : ℕ). Some n) same

-- the block has this name in this System
pub named_here : (items : List Item) (place system : ℕ) (name : List ℕ) → holder_of items place ≡ Some system
    → value_of items place (codes "Name") ≡ Some name → is_named_in items system name place ≡ true
named_here items place system name held named =
    ap (λ (f : Option ℕ). at false (λ (h : ℕ). h == system) f && says items place (codes "Name") name) held
    ∙ and_from (system == system) _ (same_number system) (ap (λ (f : Option (List ℕ)). elim f [ None ↦ false | Some v ↦ bytes_eq v name ]) named ∙ (bytes_eq-Decides name name).1 refl)
  where
    same_number : (n : ℕ) → (n == n) ≡ true
    same_number n = grind (arith, nat_tests)

-- the first block of its name
own_number : (items : List Item) (place system : ℕ) (name : List ℕ) → has_own_name items place ≡ true
    → holder_of items place ≡ Some system → value_of items place (codes "Name") ≡ Some name
    → number_of items system name ≡ Some (number_at items place)
own_number items place system name own held named =
    number_found (number_at items place) (number_of items system name)
    (sym (ap (λ (f : Option ℕ). at false (λ s. is_first_named items place s (value_of items place (codes "Name"))) f) held ∙ ap (is_first_named items place system) named) ∙ own)

pub have_names : (items : List Item) (blocks : List NestedBlock) → IsKept items → AllZip (IsBlockAt items) (blocks_of items) blocks → AllPairs HaveNames blocks
have_names items blocks known zip i j d less below parents names =
    let one = block_here items blocks zip i (get_or blocks i d) (slice_get-get_or blocks i d (omega arith)) in
    let other = block_here items blocks zip j (get_or blocks j d) (slice_get-get_or blocks j d below) in
    let systems : one.stands.system ≡ other.stands.system =
    same_system items known one.place other.place one.within other.within one.stands other.stands
    (sym one.here.parent ∙ parents ∙ other.here.parent) in
    let own : has_own_name items other.place ≡ true =
    right_true (is_some (value_of items other.place (codes "BlockType"))) (has_own_name items other.place)
    (left_true (is_some (value_of items other.place (codes "BlockType")) && has_own_name items other.place)
    _ (known.blocks j other.place other.there)) in
    let found = own_number items other.place other.stands.system (get_or blocks j d).name own other.stands.in_system other.here.name in
    let first = first_from (is_named_in items other.stands.system (get_or blocks j d).name) 0 (blocks_of items)
    (number_at items other.place) (sym (position_from-zero
    (is_named_in items other.stands.system (get_or blocks j d).name) (blocks_of items)) ∙ found) in
    let named = named_here items one.place other.stands.system (get_or blocks j d).name (one.stands.in_system ∙ ap (λ (s : ℕ). Some s) systems) (one.here.name ∙ ap (λ (n : List ℕ). Some n) names) in
    let bound = first.2 i one.place one.there named in
    omega (arith, bound, other.number_is, less)
