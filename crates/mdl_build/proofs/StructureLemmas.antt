-- The rule of structure, by its parts.
use Rattle.std.proofs.Common.{suc, zero, ◌∷◌, ◌≤◌, inl, true≢false, le-leb, ◌≡◌, ℕ, arith, Bool, true, false, cond, List, [], Option, Some, None, refl, sym, ap, ◌∙◌, length}
use Rattle.std.specs.Prelude.{◌&&◌, find, not, option_map, slice_get, is_some, is_none, codes, nat_le, MatchBool}
use Rattle.std.proofs.lemmas.Option.{none-some, same_Some}
use Rattle.std.specs.List.{position_or_len}
use Rattle.std.proofs.lemmas.List.Folds.{find_at}
use Rattle.dg_model.specs.declared.fault.RuleFault.{RuleFault}
use Rattle.dg_model.specs.declared.fault.Shown.TheVariants.{Nothing}
use Rattle.dg_model.specs.declared.rule.Rule.{Rule}
use Rattle.dg_model.specs.Faults.{fault_of}
use Rattle.mdl_text.specs.declared.tree.Item.{Item}
use Rattle.mdl_text.specs.declared.tree.Tree.{Tree}
use Rattle.mdl_build.specs.declared.known.Known.{Known}
use Rattle.mdl_build.specs.declared.names.Blocks.{Blocks}
use Rattle.mdl_build.specs.Blocks.{at, path_of}
use Rattle.mdl_build.specs.Roles.{role_of, roles_of, blocks_of}
use Rattle.mdl_build.specs.Sections.{holder_of, value_of}
use Rattle.mdl_build.specs.Rules.{has_root, are_shallow, has_own_name, has_one_system, is_first_named, keeps_structure, keeps_model, structure_fault, library_fault, type_at, Breaks}
use Rattle.mdl_build.specs.Extents.{AreExtents, total}
use Rattle.mdl_build.specs.inner.ItemFacts.{keeps_sizes, AreLarge, IsFound}
use Rattle.mdl_build.specs.inner.Lines.{are_joined_before}
use Rattle.mdl_build.specs.inner.Names.{AreBlocks}
use Rattle.math_list.proofs.Tests.{right_true}
use Rattle.mdl_build.proofs.BlockPlaces.{IsBlockOf, block_of}
use Rattle.mdl_build.proofs.ExtentLemmas.{blocks_within}
use Rattle.std.proofs.lemmas.Bool.{leb-true}
use Rattle.std.proofs.lemmas.Bool.{not-false}

-- what is told where the blocks are looked at
abbrev pub block_fault : List Item → Option RuleFault
block_fault items = option_map (λ place. fault_of Rule.Structure (path_of items place) Nothing) (find (λ place. not (keeps_structure items place)) (blocks_of items))

module _ (items : List Item) where
  choice : Bool → Option RuleFault
  choice keeps = cond keeps (block_fault items) (Some (fault_of Rule.Structure [] Nothing))

  pub model_keeps : (extents : List ℕ) → keeps_sizes extents items ≡ true → are_joined_before items (length items) ≡ true → structure_fault extents items ≡ block_fault items
  unfolding choice
  model_keeps extents e f = ap (λ (b : Bool). choice (b && are_joined_before items (length items))) e ∙ ap choice f

  pub model_breaks : (extents : List ℕ) → keeps_sizes extents items ≡ true → are_joined_before items (length items) ≡ false → structure_fault extents items ≡ Some (fault_of Rule.Structure [] Nothing)
  unfolding choice
  model_breaks extents e f = ap (λ (b : Bool). choice (b && are_joined_before items (length items))) e ∙ ap choice f

-- what is found among the blocks is one
pub found_block : (items : List Item) (p : ℕ → Bool) (place : ℕ) → find p (blocks_of items) ≡ Some place → IsBlockOf items (position_or_len p (blocks_of items)) place
found_block items p place e = block_of items (position_or_len p (blocks_of items)) place (sym (find_at p (blocks_of items)) ∙ e)

-- ---- what is found of the items

-- without a root, too deep, or with too many blocks
pub sizes_break : (known : Known) → AreExtents known.layout.items.now known.extents.items → keeps_sizes known.extents.items known.layout.items.now ≡ false → IsFound known.layout.items.now false known
sizes_break known are broken = record { items_are = refl; extents = are; kept_is = broken; is_known = λ e. absurd (true≢false (sym e)) }

few_kept : (items : List Item) (extents : List ℕ) → keeps_sizes extents items ≡ true → total extents ≤ 20000
few_kept items extents keeps = leb-true (total extents) 20000 (right_true (has_root (roles_of items) && are_shallow (roles_of items)) (nat_le (total extents) 20000) keeps)

-- with these blocks, which are few
pub blocks_found : (known : Known) (blocks : Blocks) (few : Bool) → known.roles.items ≡ roles_of known.layout.items.now → AreExtents known.layout.items.now known.extents.items
    → keeps_sizes known.extents.items known.layout.items.now ≡ true → MatchBool few (AreBlocks known.layout.items.now blocks) (nat_le (length (blocks_of known.layout.items.now)) 20000 ≡ false)
    → IsFound known.layout.items.now few (record known { blocks = blocks })
blocks_found known blocks true roles are keeps is = record {
  items_are = refl;
  extents = are;
  kept_is = keeps;
  is_known = λ e. record { roles = roles; extents = are; blocks = is; few = few_kept known.layout.items.now known.extents.items keeps };
}
blocks_found known blocks false roles are keeps many =
    let few = few_kept known.layout.items.now known.extents.items keeps in
    let within = blocks_within known.layout.items.now known.extents.items are in
    let fits : nat_le (length (blocks_of known.layout.items.now)) 20000 ≡ true = le-leb (length (blocks_of known.layout.items.now)) 20000 (omega (arith, few, within)) in
    absurd (true≢false (sym fits ∙ many))

-- sizes that aren't kept break the rule of structure
pub broken_sizes : (tree : Tree) → AreLarge tree.items → Breaks tree (fault_of Rule.Structure [] Nothing)
unfolding choice
broken_sizes tree large =
    inl (record {
      extents = large.extents;
      are_extents = large.are_extents;
      finds = ap (λ (b : Bool). choice tree.items (b && are_joined_before tree.items (length tree.items))) large.not_kept;
    })

-- ---- where nothing is told

none_found : {X : Type 0} (p : X → Bool) (xs : List X) (k : ℕ) (x : X) → find p xs ≡ None → slice_get xs k ≡ Some x → p x ≡ false
none_found p [] k x e at = absurd (none-some x at)
none_found {X} p (y ∷ ys) k x e at = by (p y) refl e k at (none_found p ys)
  where
    by : (b : Bool) → p y ≡ b → cond b (Some y) (find p ys) ≡ None → (j : ℕ) → slice_get (y ∷ ys) j ≡ Some x
        → ((i : ℕ) (z : X) → find p ys ≡ None → slice_get ys i ≡ Some z → p z ≡ false) → p x ≡ false
    by true t none j there rest = absurd (none-some y (sym none))
    by false t none zero there rest = ap p (sym (same_Some y x there)) ∙ t
    by false t none (suc j) there rest = rest j x none there

mapped_none : {X Y : Type 0} (f : X → Y) (found : Option X) → option_map f found ≡ None → found ≡ None
mapped_none f None e = refl
mapped_none f (Some x) e = absurd (none-some (f x) (sym e))

-- a tree that keeps the rule of structure does so at each block
pub structure_kept : (items : List Item) (extents : List ℕ) → structure_fault extents items ≡ None → (k place : ℕ) → slice_get (blocks_of items) k ≡ Some place → keeps_structure items place ≡ true
structure_kept items extents none k place at = by (keeps_model extents items) none
  where
    by : (b : Bool) → cond b (block_fault items) (Some (fault_of Rule.Structure [] Nothing)) ≡ None → keeps_structure items place ≡ true
    by true e = not-false (keeps_structure items place) (none_found (λ (p : ℕ). not (keeps_structure items p)) (blocks_of items) k place
        (mapped_none (λ (p : ℕ). fault_of Rule.Structure (path_of items p) Nothing) (find (λ (p : ℕ). not (keeps_structure items p)) (blocks_of items)) e) at)
    by false e = absurd (none-some (fault_of Rule.Structure [] Nothing) (sym e))

-- and each block has a name
pub name_kept : (items : List Item) (place : ℕ) → keeps_structure items place ≡ true → is_some (value_of items place (codes "Name")) ≡ true
name_kept items place e = by_type (is_some (value_of items place (codes "BlockType"))) e
  where
    by_name : (system : ℕ) (name : Option (List ℕ)) → is_first_named items place system name ≡ true → is_some name ≡ true
    by_name system None f = absurd (true≢false (sym f))
    by_name system (Some name) f = refl

    by_holder : (holder : Option ℕ) → at false (λ system. is_first_named items place system (value_of items place (codes "Name"))) holder ≡ true → is_some (value_of items place (codes "Name")) ≡ true
    by_holder None f = absurd (true≢false (sym f))
    by_holder (Some system) f = by_name system (value_of items place (codes "Name")) f

    by_own : (b : Bool) → has_own_name items place ≡ b → (b && has_one_system items place (role_of items place)) ≡ true → is_some (value_of items place (codes "Name")) ≡ true
    by_own true own f = by_holder (holder_of items place) own
    by_own false own f = absurd (true≢false (sym f))

    by_type : (b : Bool) → (b && has_own_name items place && has_one_system items place (role_of items place)) ≡ true → is_some (value_of items place (codes "Name")) ≡ true
    by_type true f = by_own (has_own_name items place) refl f
    by_type false f = absurd (true≢false (sym f))

-- a tree that keeps the rule of library has a known type at each block
pub type_kept : (items : List Item) → library_fault items ≡ None → (k place : ℕ) → slice_get (blocks_of items) k ≡ Some place → type_at items place ≡ None → ⊥
type_kept items none k place at untyped =
    true≢false (sym (ap is_none untyped) ∙ none_found (λ (p : ℕ). is_none (type_at items p))
    (blocks_of items) k place
    (mapped_none _ (find (λ (p : ℕ). is_none (type_at items p)) (blocks_of items)) none) at)
