-- The blocks that a tree has are well formed.
use Rattle.std.proofs.Common.{◌≡◌, ℕ, suc, ◌<◌, ◌≤◌, Bool, true, false, cond, List, length, get_or, Option, Some, None, refl, sym, ◌∙◌, ap, subst, inl, inr, arith, true≢false}
use Rattle.std.specs.Prelude.{◌==◌, ◌&&◌, ◌⊎◌, nat_lt, count_by, slice_get, option_map, is_some, codes, IsSomeAnd, MatchOption}
use Rattle.std.specs.List.{AllZip, range_with_len}
use Rattle.std.proofs.lemmas.Bool.Decides.{nat_tests}
use Rattle.std.proofs.lemmas.Option.{get_or_from_slice_get}
use Rattle.std.proofs.lemmas.Slice.Zip.{AllZip-left, AllZip-right}
use Rattle.dg_model.specs.declared.nested.NestedBlock.{NestedBlock}
use Rattle.dg_model.specs.Sound.{IsSubSystem, HasParent, AreLevels}
use Rattle.mdl_text.specs.declared.tree.Item.{Item}
use Rattle.mdl_build.specs.declared.library.BlockType.{BlockType}
use Rattle.mdl_build.specs.declared.library.BlockType.TheVariants.{SubSystem as SubSystemType, DiscreteFir as FirType}
use Rattle.mdl_build.specs.declared.roles.Role.{Role}
use Rattle.mdl_build.specs.declared.roles.Role.TheVariants.{Other, Model, System, Block, SubSystem, Filter, Branch, Defaults, TypeDefaults}
use Rattle.mdl_build.specs.Blocks.{at, number_at, standing_of}
use Rattle.mdl_build.specs.Nested.{IsBlockAt}
use Rattle.mdl_build.specs.Parts.{part_of}
use Rattle.mdl_build.specs.Roles.{role_of, is_block, blocks_of, deeper, says}
use Rattle.mdl_build.specs.Rules.{type_at, is_system, is_system_in, has_one_system, has_own_name}
use Rattle.mdl_build.specs.Sections.{places_of, holder_of, is_section_at, value_of}
use Rattle.mdl_build.proofs.BlockNumbers.{block_at, number_before}
use Rattle.mdl_build.proofs.BlockPlaces.{block_of}
use Rattle.mdl_build.proofs.RoleLemmas.{system_above}
use Rattle.mdl_build.proofs.SoundParts.{says_type, type_says, sub_system_type}
use Rattle.mdl_build.proofs.SoundSearch.{one_counted}
use Rattle.mdl_build.proofs.SoundTree.{IsKept, Stand, stand, same_Some}
use Rattle.math_list.proofs.Tests.{left_true, right_true}

-- ---- the block of a number, and the number of a place

pub record BlockHere (items : List Item) (number : ℕ) (block : NestedBlock) : Type 0 where
  pub place : ℕ
  pub there : slice_get (blocks_of items) number ≡ Some place
  pub here : IsBlockAt items place block
  pub within : place < length items
  pub counts : is_block (role_of items place) ≡ true
  pub number_is : number_at items place ≡ number
  pub stands : Stand items place

some_and : {A : Type 0} (found : Option A) (P : A → Type 0) → IsSomeAnd found P → (x : A) × (found ≡ Some x) × P x
some_and None P h = absurd h
some_and (Some x) P h = (x, refl, h)

pub block_here : (items : List Item) (blocks : List NestedBlock) → AllZip (IsBlockAt items) (blocks_of items) blocks
    → (number : ℕ) (block : NestedBlock) → slice_get blocks number ≡ Some block → BlockHere items number block
block_here items blocks zip number block there =
    let found = some_and (slice_get (blocks_of items) number) _ (match_some (slice_get blocks number) _ (AllZip-right (IsBlockAt items) (blocks_of items) blocks zip number) block there) in
    let own = block_of items number found.0 found.1 in
    record { place = found.0; there = found.1; here = found.2; within = own.within; counts = own.counts; number_is = own.number_is; stands = stand items found.0 own.counts }
  where
    match_some : (o : Option NestedBlock) (Q : NestedBlock → Type 0) → MatchOption o (Unit {0}) Q → (y : NestedBlock) → o ≡ Some y → Q y
    match_some None Q h y e = let bad : ◌≡◌ {A = Option NestedBlock} None (Some y) = e in absurd (cc)
    match_some (Some x) Q h y e = let both : ◌≡◌ {A = Option NestedBlock} (Some x) (Some y) = e in let same : x ≡ y = cc in subst Q same h

pub block_there : (items : List Item) (blocks : List NestedBlock)
    → AllZip (IsBlockAt items) (blocks_of items) blocks → (number place : ℕ)
    → slice_get (blocks_of items) number ≡ Some place
    → (block : NestedBlock) × (slice_get blocks number ≡ Some block) × IsBlockAt items place block
block_there items blocks zip number place there =
    some_and (slice_get blocks number) _ (match_some (slice_get (blocks_of items) number) _ (AllZip-left (IsBlockAt items) (blocks_of items) blocks zip number) place there)
  where
    match_some : (o : Option ℕ) (Q : ℕ → Type 0) → MatchOption o (Unit {0}) Q → (y : ℕ) → o ≡ Some y → Q y
    match_some None Q h y e = let bad : ◌≡◌ {A = Option ℕ} None (Some y) = e in absurd (cc)
    match_some (Some x) Q h y e = subst Q (same_Some x y e) h

-- ---- subsystems

-- the role of a block of a System, by what it says
abbrev role_by : Bool → Bool → Bool → Bool → Bool → ℕ → ℕ → Role
role_by a b f c d level place = cond a (cond b (SubSystem level) (cond f (Filter level) (Block level))) (cond c (cond d (Branch place) Other) Other)

pick_sub : (a b f c d : Bool) (level place : ℕ) → is_block (role_by a b f c d level place) ≡ true → b ≡ true → role_by a b f c d level place ≡ SubSystem level
pick_sub true true f c d level place h e = refl
pick_sub true false f c d level place h e = absurd (true≢false (sym e))
pick_sub false b f true true level place h e = absurd (true≢false (sym h))
pick_sub false b f true false level place h e = absurd (true≢false (sym h))
pick_sub false b f false d level place h e = absurd (true≢false (sym h))

pick_filter : (a b f c d : Bool) (level place : ℕ) → is_block (role_by a b f c d level place) ≡ true → b ≡ false → f ≡ true → role_by a b f c d level place ≡ Filter level
pick_filter true true f c d level place h e g = absurd (true≢false e)
pick_filter true false true c d level place h e g = refl
pick_filter true false false c d level place h e g = absurd (true≢false (sym g))
pick_filter false b f true true level place h e g = absurd (true≢false (sym h))
pick_filter false b f true false level place h e g = absurd (true≢false (sym h))
pick_filter false b f false d level place h e g = absurd (true≢false (sym h))

pick_says : (a b f c d : Bool) (level place outer : ℕ) → role_by a b f c d level place ≡ SubSystem outer → b ≡ true
pick_says true true f c d level place outer e = refl
pick_says true false true c d level place outer e = let bad : Filter level ≡ SubSystem outer = e in absurd (cc)
pick_says true false false c d level place outer e = let bad : Block level ≡ SubSystem outer = e in absurd (cc)
pick_says false b f true true level place outer e = let bad : Branch place ≡ SubSystem outer = e in absurd (cc)
pick_says false b f true false level place outer e = let bad : Other ≡ SubSystem outer = e in absurd (cc)
pick_says false b f false d level place outer e = let bad : Other ≡ SubSystem outer = e in absurd (cc)

pick_fir : (a b f c d : Bool) (level place outer : ℕ) → role_by a b f c d level place ≡ Filter outer → f ≡ true
pick_fir true true f c d level place outer e = let bad : SubSystem level ≡ Filter outer = e in absurd (cc)
pick_fir true false true c d level place outer e = refl
pick_fir true false false c d level place outer e = let bad : Block level ≡ Filter outer = e in absurd (cc)
pick_fir false b f true true level place outer e = let bad : Branch place ≡ Filter outer = e in absurd (cc)
pick_fir false b f true false level place outer e = let bad : Other ≡ Filter outer = e in absurd (cc)
pick_fir false b f false d level place outer e = let bad : Other ≡ Filter outer = e in absurd (cc)

-- a block of the type of a filter isn't of that of a subsystem
not_said : (items : List Item) (place : ℕ) → type_at items place ≡ Some FirType → says items place (codes "BlockType") (codes "SubSystem") ≡ false
not_said items place is = by_test (says items place (codes "BlockType") (codes "SubSystem")) refl
  where
    by_test : (b : Bool) → says items place (codes "BlockType") (codes "SubSystem") ≡ b → says items place (codes "BlockType") (codes "SubSystem") ≡ false
    by_test true said = let bad : FirType ≡ SubSystemType = says_type items place FirType SubSystemType is said refl in absurd (cc)
    by_test false said = said

-- a filter's role
pub fir_role : (items : List Item) (place : ℕ) (block : NestedBlock) → (s : Stand items place)
    → is_block (role_of items place) ≡ true → (here : IsBlockAt items place block) → here.block_type ≡ FirType
    → role_of items place ≡ Filter s.level
fir_role items place block s counts here is =
    let type_is : type_at items place ≡ Some FirType = here.type_is ∙ ap (λ (t : BlockType). Some t) is in
    let said : says items place (codes "BlockType") (codes "DiscreteFir") ≡ true = type_says items place FirType type_is in
    s.role_is ∙ pick_filter (is_section_at items place (codes "Block")) _ _
    (is_section_at items place (codes "Line")) (is_some (value_of items place (codes "SrcBlock"))) s.level place
    (sym (ap is_block s.role_is) ∙ counts) (not_said items place type_is) said

-- and the other way round
pub role_fir : (items : List Item) (place outer : ℕ) (block : NestedBlock) → (s : Stand items place)
    → role_of items place ≡ Filter outer → (here : IsBlockAt items place block) → here.block_type ≡ FirType
role_fir items place outer block s is here =
    let said : says items place (codes "BlockType") (codes "DiscreteFir") ≡ true =
    pick_fir (is_section_at items place (codes "Block")) _ _ (is_section_at items place (codes "Line"))
    (is_some (value_of items place (codes "SrcBlock"))) s.level place outer (sym s.role_is ∙ is) in
    says_type items place here.block_type FirType here.type_is said refl

-- a block whose part is a subsystem has that role, or is a filter
abbrev pub SubRole : Role → ℕ → Type 0
SubRole role level = (role ≡ SubSystem level) ⊎ (role ≡ Filter level)

pub sub_role : (items : List Item) (number : ℕ) (block : NestedBlock) (h : BlockHere items number block) → IsSubSystem block.part → SubRole (role_of items h.place) h.stands.level
sub_role items number block h is =
    let part_is : IsSubSystem (part_of (standing_of items h.place) h.here.block_type h.here.settings) = subst IsSubSystem h.here.part is in
    elim (sub_system_type (standing_of items h.place) h.here.block_type h.here.settings part_is) [
      | inl type_is ↦
          let said : says items h.place (codes "BlockType") (codes "SubSystem") ≡ true = type_says items h.place SubSystemType (h.here.type_is ∙ ap (λ (t : BlockType). Some t) type_is) in
          inl (h.stands.role_is ∙ pick_sub (is_section_at items h.place (codes "Block")) _ _
          (is_section_at items h.place (codes "Line"))
          (is_some (value_of items h.place (codes "SrcBlock"))) h.stands.level h.place
          (sym (ap is_block h.stands.role_is) ∙ h.counts) said)
      | inr type_is ↦ inr (fir_role items h.place block h.stands h.counts h.here type_is)
    ]

-- and the other way round
pub role_sub : (items : List Item) (place outer : ℕ) (block : NestedBlock) → (s : Stand items place) → role_of items place ≡ SubSystem outer → IsBlockAt items place block → IsSubSystem block.part
role_sub items place outer block s is here =
    let said : says items place (codes "BlockType") (codes "SubSystem") ≡ true =
    pick_says (is_section_at items place (codes "Block")) _ _ (is_section_at items place (codes "Line"))
    (is_some (value_of items place (codes "SrcBlock"))) s.level place outer (sym s.role_is ∙ is) in
    let type_is : here.block_type ≡ SubSystemType = says_type items place here.block_type SubSystemType here.type_is said refl in
    subst IsSubSystem (sym here.part) (subst (λ (t : BlockType). IsSubSystem (part_of (standing_of items place) t here.settings)) (sym type_is) tt)

-- ---- parents

pub has_parent : (items : List Item) (blocks : List NestedBlock) → AllZip (IsBlockAt items) (blocks_of items) blocks
    → (number : ℕ) (block : NestedBlock) → slice_get blocks number ≡ Some block
    → HasParent blocks number block.parent
has_parent items blocks zip number block there =
    let h = block_here items blocks zip number block there in
    elim h.stands.cases [
      | inl root ↦ subst (HasParent blocks number) (sym (h.here.parent ∙ ap (option_map (number_at items)) root.1)) tt
      | inr sub ↦
          let before : h.stands.holder < h.place = omega (arith, h.stands.before, h.stands.holder_before) in
          let inside : h.stands.holder < length items = omega (arith, before, h.within) in
          let counts : is_block (role_of items h.stands.holder) ≡ true = ap is_block sub.1 in
          let less : number_at items h.stands.holder < number = omega (arith, number_before items h.stands.holder h.place h.within counts h.counts before, h.number_is) in
          let other = block_there items blocks zip (number_at items h.stands.holder) h.stands.holder (block_at items h.stands.holder inside counts) in
          let is_sub : IsSubSystem other.0.part = role_sub items h.stands.holder sub.0 other.0 (stand items h.stands.holder counts) sub.1 other.2 in
          subst (HasParent blocks number) (sym (h.here.parent ∙ ap (option_map (number_at items)) sub.3))
          (less, subst (λ (found : Option NestedBlock). MatchOption found ⊥ (λ o. IsSubSystem o.part)) (sym other.1) is_sub)
    ]

-- ---- levels

abbrev pub level_in : Role → ℕ
level_in Other = 0
level_in Model = 0
level_in (System level) = 0
level_in (Block level) = 0
level_in (SubSystem level) = level
level_in (Filter level) = level
level_in (Branch line) = 0
level_in Defaults = 0
level_in (TypeDefaults section) = 0

-- the level of the System of a subsystem
abbrev pub level_of : List Item → Option ℕ → ℕ
level_of items None = 1
level_of items (Some number) = suc (level_in (role_of items (get_or (blocks_of items) number 0)))

deeper_is : (outer : ℕ) → deeper outer ≤ 64 → deeper outer ≡ suc outer
deeper_is outer most = by_test (nat_lt outer 65) refl most
  where
    by_test : (b : Bool) → nat_lt outer 65 ≡ b → cond b (suc outer) outer ≤ 64 → deeper outer ≡ suc outer
    by_test true e h = ap (λ (b : Bool). cond b (suc outer) outer) e
    by_test false e h = let large : 65 ≤ outer = grind (arith, nat_tests) in absurd (omega arith)

level_at : (items : List Item) (number place level : ℕ) → slice_get (blocks_of items) number ≡ Some place → SubRole (role_of items place) level → level_of items (Some number) ≡ suc level
level_at items number place level there is =
    ap (λ (p : ℕ). suc (level_in (role_of items p))) (get_or_from_slice_get (blocks_of items) number place 0 there) ∙ elim is [
      | inl sub ↦ ap (λ (r : Role). suc (level_in r)) sub
      | inr filter ↦ ap (λ (r : Role). suc (level_in r)) filter
    ]

pub have_levels : (items : List Item) (blocks : List NestedBlock) → IsKept items → AllZip (IsBlockAt items) (blocks_of items) blocks → AreLevels blocks (level_of items)
have_levels items blocks known zip = record {
  root = refl;
  inner = λ number block there is.
      let h = block_here items blocks zip number block there in
      let own = level_at items number h.place h.stands.level h.there (sub_role items number block h is) in
      let around : h.stands.level ≡ level_of items block.parent = elim h.stands.cases [
        | inl root ↦ root.0 ∙ sym (ap (level_of items) (h.here.parent ∙ ap (option_map (number_at items)) root.1))
        | inr sub ↦
            let inside : h.stands.holder < length items = omega (arith, h.stands.before, h.stands.holder_before, h.within) in
            let counts : is_block (role_of items h.stands.holder) ≡ true = ap is_block sub.1 in
            let most : deeper sub.0 ≤ 64 = omega (arith, known.shallow h.stands.system h.stands.level (omega (arith, h.stands.before, h.within)) h.stands.system_is, sub.2) in
            sub.2 ∙ deeper_is sub.0 most ∙ sym (level_at items (number_at items h.stands.holder) h.stands.holder sub.0 (block_at items h.stands.holder inside counts) (inl sub.1))
            ∙ sym (ap (level_of items) (h.here.parent ∙ ap (option_map (number_at items)) sub.3))
      ] in
      own ∙ ap suc around;
  deepest = λ number block there is.
      let h = block_here items blocks zip number block there in
      let role_is = sub_role items number block h is in
      let own = level_at items number h.place h.stands.level h.there role_is in
      let most : suc h.stands.level ≤ 64 = elim role_is [
        | inl sub ↦ sub_level items number h.place h.stands.level known h.there sub
        | inr filter ↦ omega (arith, known.filters h.place h.stands.level h.within filter)
      ] in
      omega (arith, own, most);
}
  where
    system_level : (role : Role) → is_system (λ l. true) role ≡ true → (level : ℕ) × (role ≡ System level)
    system_level Other e = absurd (true≢false (sym e))
    system_level Model e = absurd (true≢false (sym e))
    system_level (System level) e = (level, refl)
    system_level (Block level) e = absurd (true≢false (sym e))
    system_level (SubSystem level) e = absurd (true≢false (sym e))
    system_level (Filter level) e = absurd (true≢false (sym e))
    system_level (Branch line) e = absurd (true≢false (sym e))
    system_level Defaults e = absurd (true≢false (sym e))
    system_level (TypeDefaults section) e = absurd (true≢false (sym e))

    held_by : (found : Option ℕ) (place : ℕ) → at false (λ other. other == place) found ≡ true → found ≡ Some place
    held_by None place e = absurd (true≢false (sym e))
    held_by (Some other) place e = let same : other ≡ place = grind (arith, nat_tests) in ap (λ (n : ℕ). Some n) same

    same_sub : (a b : ℕ) → SubSystem a ≡ SubSystem b → a ≡ b
    same_sub a b e = cc

    inner_level : (items : List Item) (place level system : ℕ) → IsKept items → system < length items → role_of items place ≡ SubSystem level → is_system_in items place system ≡ true → suc level ≤ 64
    inner_level items place level system known within role_is inside =
        let is = system_level (role_of items system) (left_true (is_system (λ l. true) (role_of items system)) _ inside) in
        let held = held_by (holder_of items system) place (right_true (is_system (λ l. true) (role_of items system)) _ inside) in
        let above = system_above items system is.0 is.1 in
        let holder : above.holder ≡ place = same_Some above.holder place (sym above.under.at_holder ∙ held) in
        let most = known.shallow system is.0 within is.1 in
        elim above.holder_is [
          | inl model ↦ let bad : Model ≡ SubSystem level = sym model.0 ∙ ap (role_of items) holder ∙ role_is in absurd (cc)
          | inr sub ↦
              let outer : sub.0 ≡ level = same_sub sub.0 level (sym sub.1 ∙ ap (role_of items) holder ∙ role_is) in
              let bound : deeper sub.0 ≤ 64 = omega (arith, sub.2, most) in
              omega (arith, deeper_is sub.0 bound, bound, outer)
        ]

    sub_level : (items : List Item) (number place level : ℕ) → IsKept items → slice_get (blocks_of items) number ≡ Some place → role_of items place ≡ SubSystem level → suc level ≤ 64
    sub_level items number place level known there role_is =
        let all = known.blocks number place there in
        let last : has_one_system items place (role_of items place) ≡ true = right_true (is_some (value_of items place (codes "BlockType")) && has_own_name items place) _ all in
        let test : (count_by (is_system_in items place) (places_of items) == 1) ≡ true = sym (ap (has_one_system items place) role_is) ∙ last in
        let single : count_by (is_system_in items place) (range_with_len 0 (length items)) ≡ 1 = grind (arith, nat_tests, test) in
        let inner = one_counted (is_system_in items place) 0 (length items) single in
        inner_level items place level inner.0 known (omega (arith, inner.2)) role_is inner.3
