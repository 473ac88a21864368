-- A model whose blocks and lines are well formed as they are drawn, and whose filters hold no blocks,
-- is well formed where each filter is taken apart.
use Rattle.std.proofs.Common.{◌≡◌, ◌≢◌, ℕ, zero, suc, ◌+◌, ◌<◌, Bool, true, false, cond, inl, inr, List, [], ◌∷◌, length, map, get_or, Option, Some, None, refl, sym, ◌∙◌, ap, subst, arith, eq-eqb}
use Rattle.std.proofs.Common.{ne_eqb}
use Rattle.std.specs.Prelude.{◌==◌, ◌⊎◌, AllPairs, slice_get, option_map, MatchOption}
use Rattle.std.proofs.lemmas.Bool.{cases_order}
use Rattle.std.proofs.lemmas.Option.{same_Some, slice_get-get_or, get_or_from_slice_get}
use Rattle.fx_type.specs.declared.decimal.Decimal.{Decimal}
use Rattle.dg_model.specs.declared.diagram.Block.{Block}
use Rattle.dg_model.specs.declared.nested.NestedBlock.{NestedBlock}
use Rattle.dg_model.specs.declared.nested.NestedLine.{NestedLine}
use Rattle.dg_model.specs.declared.nested.Part.{Part}
use Rattle.dg_model.specs.declared.row.Role.{Role}
use Rattle.dg_model.specs.Library.{row_of}
use Rattle.dg_model.specs.Sound.{IsSubSystem, IsEnable, HasParent, AreLevels, HaveNames, HasEnablePort, IsInRole, IsOutRole, HasInRole, HasOutRole}
use Rattle.fir_block.specs.declared.filter.Fir.{Fir}
use Rattle.fir_block.specs.declared.filter.FirBlock.{FirBlock}
use Rattle.fir_block.specs.Expanded.{blocks_of}
use Rattle.fir_block.specs.Laws.{BlocksAreCounted, NamesDiffer}
use Rattle.mdl_build.specs.declared.expanding.DrawnBlock.{DrawnBlock}
use Rattle.mdl_build.specs.Expanded.{inner_part, inner_block, moved, moved_block}
use Rattle.mdl_build.specs.Extents.{starts}
use Rattle.mdl_build.proofs.FilterSketch.{extent_of, extents_of, IsDrawnModel, are_firs}
use Rattle.mdl_build.proofs.FilterLists.{none_some, mapped_at, map_at, match_there, two_of}
use Rattle.mdl_build.proofs.FilterPlaces.{extent_some, numbers_from, numbers_past, numbers_grow, put_from, FromDrawn, FromFilter, origin, stands}

abbrev pub blocks_in : List DrawnBlock → List NestedBlock
blocks_in drawn = map (λ (own : DrawnBlock). own.block) drawn

-- ---- parts

-- what all three parts of blocks of a filter are
by_part : (P : Part → Type 0) (number count : ℕ) (block : Block) → P (Part.In block 1) → P (Part.Out block 1) → P (Part.Plain block) → P (inner_part count number block)
by_part P number count block input output plain = by (number == 0) (number + 1 == count)
  where
    by : (first last : Bool) → P (cond first (Part.In block 1) (cond last (Part.Out block 1) (Part.Plain block)))
    by true last = input
    by false true = output
    by false false = plain

no_sub : (number count : ℕ) (block : Block) → ¬ IsSubSystem (inner_part count number block)
no_sub number count block = by_part (λ part. ¬ IsSubSystem part) number count block (λ is. is) (λ is. is) (λ is. is)

pub no_enable : (number count : ℕ) (block : Block) → ¬ IsEnable (inner_part count number block)
no_enable number count block = by_part (λ part. ¬ IsEnable part) number count block (λ is. is) (λ is. is) (λ is. is)

-- ---- the number that a block has as it is drawn

abbrev pub back : ℕ → List ℕ → ℕ → ℕ
back number [] place = number
back number (start ∷ starts) place = cond (start == place) number (back (suc number) starts place)

back_is : (start : ℕ) (drawn : List DrawnBlock) (number k place : ℕ) → slice_get (numbers_from start drawn) k ≡ Some place → back number (numbers_from start drawn) place ≡ number + k
back_is start [] number k place at = absurd (none_some place at)
back_is start (first ∷ drawn) number zero place at =
    let test : (start == place) ≡ true = eq-eqb start place (same_Some start place at) in
    let same : number ≡ number + 0 = omega arith in
    ap (λ (b : Bool). cond b number (back (suc number) (numbers_from (start + extent_of first.filter) drawn) place)) test ∙ same
back_is start (first ∷ drawn) number (suc k) place at =
    let past = numbers_past (start + extent_of first.filter) drawn k place at in
    let apart : start ≢ place = λ e. absurd (omega (arith, e, past, extent_some first.filter)) in
    let test : (start == place) ≡ false = ne_eqb start place apart in
    let same : suc number + k ≡ number + suc k = omega arith in
    ap (λ (b : Bool). cond b number (back (suc number) (numbers_from (start + extent_of first.filter) drawn) place)) test
    ∙ back_is (start + extent_of first.filter) drawn (suc number) k place at ∙ same

-- the level of a System, by that of the System as it is drawn
abbrev pub level_by : (Option ℕ → ℕ) → List ℕ → Option ℕ → ℕ
level_by level numbers None = level None
level_by level numbers (Some place) = level (Some (back 0 numbers place))

-- ---- where a drawn block stands

pub record Own (other : Decimal) (drawn : List DrawnBlock) (k : ℕ) (own : DrawnBlock) : Type 0 where
  pub place : ℕ
  pub number : slice_get (numbers_from 0 drawn) k ≡ Some place
  pub moves : moved (numbers_from 0 drawn) k ≡ place
  pub there : slice_get (put_from other (numbers_from 0 drawn) 0 drawn) place ≡ Some (moved_block (numbers_from 0 drawn) own.block)
  pub inners : (fir : Fir) (i : ℕ) (inner : FirBlock) → own.filter ≡ Some fir → slice_get (blocks_of other fir) i ≡ Some inner
      → slice_get (put_from other (numbers_from 0 drawn) 0 drawn) (suc (place + i)) ≡ Some (inner_block place (length (blocks_of other fir)) i inner)

-- the subsystem that holds a drawn block
pub record Holder (drawn : List DrawnBlock) (k m : ℕ) : Type 0 where
  pub held : DrawnBlock
  pub there : slice_get drawn m ≡ Some held
  pub before : m < k
  pub is_sub : IsSubSystem held.block.part

pub from_zero : (found : Option ℕ) (place : ℕ) → found ≡ Some (0 + place) → found ≡ Some place
from_zero found place at = let same : 0 + place ≡ place = omega arith in at ∙ ap (λ (n : ℕ). Some n) same

-- ---- the roles of ports

in_role : (parent : Option ℕ) (f : ℕ → ℕ) (number : ℕ) (role : Role) → IsInRole parent number role → IsInRole (option_map f parent) number role
in_role None f number role is = is
in_role (Some system) f number (Role.RootInput own) is = absurd is
in_role (Some system) f number (Role.InnerPort width) is = tt
in_role (Some system) f number (Role.RootOutput own) is = absurd is
in_role (Some system) f number Role.EnabledOutput is = absurd is
in_role (Some system) f number Role.Control is = absurd is
in_role (Some system) f number Role.Plain is = absurd is

pub has_in_role : (parent : Option ℕ) (f : ℕ → ℕ) (part : Part) → HasInRole parent part → HasInRole (option_map f parent) part
has_in_role parent f (Part.Plain block) is = tt
has_in_role parent f (Part.In block number) is = in_role parent f number (row_of block.kind).place.role is
has_in_role parent f (Part.Out block number) is = tt
has_in_role parent f Part.SubSystem is = tt
has_in_role parent f (Part.Enable reset) is = tt

-- a System has an EnablePort exactly where another has one
pub record SameEnable (drawn blocks : List NestedBlock) (parent : Option ℕ) (f : ℕ → ℕ) : Type 0 where
  pub on : (system : ℕ) → parent ≡ Some system → HasEnablePort drawn (Some system) → HasEnablePort blocks (Some (f system))
  pub off : (system : ℕ) → parent ≡ Some system → HasEnablePort blocks (Some (f system)) → HasEnablePort drawn (Some system)

out_role : (drawn blocks : List NestedBlock) (parent : Option ℕ) (f : ℕ → ℕ) → SameEnable drawn blocks parent f
    → (number : ℕ) (role : Role) → IsOutRole drawn parent number role
    → IsOutRole blocks (option_map f parent) number role
out_role drawn blocks None f same number (Role.RootInput own) is = absurd is
out_role drawn blocks None f same number (Role.RootOutput own) is = is
out_role drawn blocks None f same number (Role.InnerPort width) is = absurd is
out_role drawn blocks None f same number Role.EnabledOutput is = absurd is
out_role drawn blocks None f same number Role.Control is = absurd is
out_role drawn blocks None f same number Role.Plain is = absurd is
out_role drawn blocks (Some system) f same number (Role.RootInput own) is = absurd is
out_role drawn blocks (Some system) f same number (Role.RootOutput own) is = absurd is
out_role drawn blocks (Some system) f same number (Role.InnerPort width) is = (is.0, λ has. is.1 (same.off system refl has))
out_role drawn blocks (Some system) f same number Role.EnabledOutput is = same.on system refl is
out_role drawn blocks (Some system) f same number Role.Control is = absurd is
out_role drawn blocks (Some system) f same number Role.Plain is = absurd is

pub has_out_role : (drawn blocks : List NestedBlock) (parent : Option ℕ) (f : ℕ → ℕ)
    → SameEnable drawn blocks parent f → (part : Part) → HasOutRole drawn parent part
    → HasOutRole blocks (option_map f parent) part
has_out_role drawn blocks parent f same (Part.Plain block) is = tt
has_out_role drawn blocks parent f same (Part.In block number) is = tt
has_out_role drawn blocks parent f same (Part.Out block number) is = out_role drawn blocks parent f same number (row_of block.kind).place.role is
has_out_role drawn blocks parent f same Part.SubSystem is = tt
has_out_role drawn blocks parent f same (Part.Enable reset) is = tt

-- ---- the whole model

module _ (counted : BlocksAreCounted) (other : Decimal) (drawn : List DrawnBlock) (lines : List NestedLine) (are : IsDrawnModel (extents_of drawn) drawn lines) where
  abbrev numbers : List ℕ
  numbers = numbers_from 0 drawn

  abbrev blocks : List NestedBlock
  blocks = put_from other (numbers_from 0 drawn) 0 drawn

  abbrev drawn_blocks : List NestedBlock
  drawn_blocks = blocks_in drawn

  pub block_there : (k : ℕ) (own : DrawnBlock) → slice_get drawn k ≡ Some own → slice_get drawn_blocks k ≡ Some own.block
  block_there k own at = map_at (λ (b : DrawnBlock). b.block) drawn k own at

  pub own_at : (k : ℕ) (own : DrawnBlock) → slice_get drawn k ≡ Some own → Own other drawn k own
  own_at k own at =
      let s = stands counted other numbers 0 drawn (are_firs (extents_of drawn) drawn lines are) k own at in
      let number = from_zero (slice_get numbers k) s.place s.number in
      let same : 0 + s.place ≡ s.place = omega arith in
      record {
        place = s.place;
        number = number;
        moves = get_or_from_slice_get numbers k s.place 0 number;
        there = s.there;
        inners = λ fir i inner filter there. s.inners fir i inner filter there ∙ ap (λ (n : ℕ). Some (inner_block n (length (blocks_of other fir)) i inner)) same;
      }

  pub origin_of : (place : ℕ) (block : NestedBlock) → slice_get blocks place ≡ Some block → FromDrawn numbers 0 drawn place block ⊎ FromFilter other 0 drawn place block
  origin_of place block at = origin counted other numbers 0 drawn (are_firs (extents_of drawn) drawn lines are) place block at

  grow : (j k m n : ℕ) → j < k → slice_get numbers j ≡ Some m → slice_get numbers k ≡ Some n → m < n
  grow j k m n less here there = numbers_grow 0 drawn j k m n less here there

  one_place : (j k m n : ℕ) → slice_get numbers j ≡ Some m → slice_get numbers k ≡ Some n → m ≡ n → j ≡ k
  one_place j k m n here there same = elim (cases_order j k) [
    | inl e ↦ e
    | inr (inl less) ↦ absurd (omega (arith, same, grow j k m n less here there))
    | inr (inr more) ↦ absurd (omega (arith, same, grow k j n m more there here))
  ]

  in_order : (j k m n : ℕ) → slice_get numbers j ≡ Some m → slice_get numbers k ≡ Some n → m < n → j < k
  in_order j k m n here there less = elim (cases_order j k) [
    | inl e ↦
        let same : m ≡ n = same_Some m n (sym here ∙ ap (slice_get numbers) e ∙ there) in
        absurd (omega (arith, same, less))
    | inr (inl before) ↦ before
    | inr (inr after) ↦ absurd (omega (arith, less, grow k j n m after there here))
  ]

  -- ---- parents

  pub holder : (k : ℕ) (own : DrawnBlock) → slice_get drawn k ≡ Some own → (m : ℕ) → own.block.parent ≡ Some m → Holder drawn k m
  holder k own at m is =
      let h : HasParent drawn_blocks k (Some m) = subst (HasParent drawn_blocks k) is (are.sound.parents k own.block (block_there k own at)) in
      let found = match_there (slice_get drawn_blocks m) (λ (b : NestedBlock). IsSubSystem b.part) h.1 in
      let from = mapped_at (λ (b : DrawnBlock). b.block) drawn m found.0 found.1 in
      record { held = from.0; there = from.1; before = h.0; is_sub = subst (λ (b : NestedBlock). IsSubSystem b.part) from.2 found.2 }

  -- the parent moves to a number that only it has
  pub parent_back : (k : ℕ) (own : DrawnBlock) → slice_get drawn k ≡ Some own → (j n : ℕ)
      → slice_get numbers j ≡ Some n → (parent : Option ℕ) → own.block.parent ≡ parent
      → option_map (moved numbers) parent ≡ Some n → own.block.parent ≡ Some j
  parent_back k own at j n number None is moves = absurd (none_some n moves)
  parent_back k own at j n number (Some m) is moves =
      let h = holder k own at m is in
      let s = own_at m h.held h.there in
      let same : m ≡ j = one_place m j s.place n s.number number (sym s.moves ∙ same_Some (moved numbers m) n moves) in
      is ∙ ap (λ (p : ℕ). Some p) same

  parents_back : (j k : ℕ) (one two : DrawnBlock) → slice_get drawn j ≡ Some one → slice_get drawn k ≡ Some two
      → (parent : Option ℕ) → two.block.parent ≡ parent
      → option_map (moved numbers) one.block.parent ≡ option_map (moved numbers) parent
      → one.block.parent ≡ two.block.parent
  parents_back j k one two here there None is same = by one.block.parent refl same ∙ sym is
    where
      by : (parent : Option ℕ) → one.block.parent ≡ parent → option_map (moved numbers) parent ≡ None → one.block.parent ≡ None
      by None is same = is
      by (Some m) is same = absurd (none_some (moved numbers m) (sym same))
  parents_back j k one two here there (Some m) is same =
      let h = holder k two there m is in
      let s = own_at m h.held h.there in
      parent_back j one here m s.place s.number one.block.parent refl (same ∙ ap (λ (n : ℕ). Some n) s.moves) ∙ sym is

  -- no block stands in a filter as it is drawn
  pub none_in : (k j n : ℕ) (own filter : DrawnBlock) (fir : Fir) → slice_get drawn k ≡ Some own
      → slice_get drawn j ≡ Some filter → filter.filter ≡ Some fir → slice_get numbers j ≡ Some n
      → option_map (moved numbers) own.block.parent ≡ Some n → ⊥
  none_in k j n own filter fir at there is number moves =
      are.bare j k filter own fir there is at (parent_back k own at j n number own.block.parent refl moves)

  moved_parent : (k : ℕ) (own : DrawnBlock) → slice_get drawn k ≡ Some own → (place : ℕ)
      → slice_get numbers k ≡ Some place → (parent : Option ℕ) → own.block.parent ≡ parent
      → HasParent blocks place (option_map (moved numbers) parent)
  moved_parent k own at place number None is = tt
  moved_parent k own at place number (Some m) is =
      let h = holder k own at m is in
      let s = own_at m h.held h.there in
      let less = grow m k s.place place h.before s.number number in
      subst (λ (n : ℕ). HasParent blocks place (Some n)) (sym s.moves)
      (less, subst (λ (found : Option NestedBlock). MatchOption found ⊥ (λ b. IsSubSystem b.part)) (sym s.there) h.is_sub)

  filter_parent : (place : ℕ) (block : NestedBlock) → FromFilter other 0 drawn place block → HasParent blocks place block.parent
  filter_parent place block h =
      let s = own_at h.k h.own h.there in
      let same : s.place ≡ h.n = same_Some s.place h.n (sym s.number ∙ h.number) in
      let less : s.place < place = omega (arith, h.at, same) in
      let sub = (are.filters h.k h.own h.fir h.there h.filter).0 in
      subst (HasParent blocks place) (sym (ap (λ (b : NestedBlock). b.parent) h.is ∙ ap (λ (n : ℕ). Some n) (sym same)))
      (less, subst (λ (found : Option NestedBlock). MatchOption found ⊥ (λ b. IsSubSystem b.part)) (sym s.there) sub)

  pub sound_parents : (place : ℕ) (block : NestedBlock) → slice_get blocks place ≡ Some block → HasParent blocks place block.parent
  sound_parents place block at = elim (origin_of place block at) [
    | inl h ↦ subst (HasParent blocks place) (sym (ap (λ (b : NestedBlock). b.parent) h.is))
        (moved_parent h.k h.own h.there place
        (from_zero (slice_get numbers h.k) place h.number) h.own.block.parent refl)
    | inr h ↦ filter_parent place block h
  ]

  -- ---- levels

  abbrev pub level : Option ℕ → ℕ
  level = level_by are.sound.levels.0 numbers

  level_there : (k place : ℕ) → slice_get numbers k ≡ Some place → level (Some place) ≡ are.sound.levels.0 (Some k)
  level_there k place number =
      let same : 0 + k ≡ k = omega arith in
      ap (λ (n : ℕ). are.sound.levels.0 (Some n)) (back_is 0 drawn 0 k place number ∙ same)

  level_around : (k : ℕ) (own : DrawnBlock) → slice_get drawn k ≡ Some own → (parent : Option ℕ) → own.block.parent ≡ parent → level (option_map (moved numbers) parent) ≡ are.sound.levels.0 parent
  level_around k own at None is = refl
  level_around k own at (Some m) is =
      let h = holder k own at m is in
      let s = own_at m h.held h.there in
      ap (λ (n : ℕ). level (Some n)) s.moves ∙ level_there m s.place s.number

  -- a subsystem is one that is drawn
  sub_drawn : (place : ℕ) (block : NestedBlock) → slice_get blocks place ≡ Some block → IsSubSystem block.part → FromDrawn numbers 0 drawn place block
  sub_drawn place block at is = elim (origin_of place block at) [
    | inl h ↦ h
    | inr h ↦ absurd (no_sub h.i (length (blocks_of other h.fir)) h.inner.block (subst (λ (b : NestedBlock). IsSubSystem b.part) h.is is))
  ]

  pub sound_levels : AreLevels blocks level
  sound_levels = record {
    root = are.sound.levels.1.root;
    inner = λ place block at is.
        let h = sub_drawn place block at is in
        let sub : IsSubSystem h.own.block.part = subst (λ (b : NestedBlock). IsSubSystem b.part) h.is is in
        level_there h.k place (from_zero (slice_get numbers h.k) place h.number)
        ∙ are.sound.levels.1.inner h.k h.own.block (block_there h.k h.own h.there) sub
        ∙ ap suc (sym (ap (λ (b : NestedBlock). level b.parent) h.is ∙ level_around h.k h.own h.there h.own.block.parent refl));
    deepest = λ place block at is.
        let h = sub_drawn place block at is in
        let sub : IsSubSystem h.own.block.part = subst (λ (b : NestedBlock). IsSubSystem b.part) h.is is in
        let same = level_there h.k place (from_zero (slice_get numbers h.k) place h.number) in
        omega (arith, same, are.sound.levels.1.deepest h.k h.own.block (block_there h.k h.own h.there) sub);
  }

  -- ---- names

  inner_names : NamesDiffer → (i j : ℕ) (one two : NestedBlock) → i < j → FromFilter other 0 drawn i one → FromFilter other 0 drawn j two → HaveNames one two
  inner_names differ i j one two less h g parents names =
      let start : h.n ≡ g.n = same_Some h.n g.n (sym (ap (λ (b : NestedBlock). b.parent) h.is) ∙ parents ∙ ap (λ (b : NestedBlock). b.parent) g.is) in
      let same : h.k ≡ g.k = one_place h.k g.k h.n g.n h.number g.number start in
      let owns : h.own ≡ g.own = same_Some h.own g.own (sym h.there ∙ ap (slice_get drawn) same ∙ g.there) in
      let firs : h.fir ≡ g.fir = same_Some h.fir g.fir (sym h.filter ∙ ap (λ (b : DrawnBlock). b.filter) owns ∙ g.filter) in
      let before : h.i < g.i = omega (arith, less, h.at, g.at, start) in
      let there : slice_get (blocks_of other h.fir) g.i ≡ Some g.inner = ap (λ (f : Fir). slice_get (blocks_of other f) g.i) firs ∙ g.inner_there in
      let apart = two_of (λ (a b : FirBlock). a.name ≢ b.name) (blocks_of other h.fir)
      (differ other h.fir (are.filters h.k h.own h.fir h.there h.filter).1.is_fir) h.i g.i h.inner g.inner
      before h.inner_there there in
      apart (sym (ap (λ (b : NestedBlock). b.name) h.is) ∙ names ∙ ap (λ (b : NestedBlock). b.name) g.is)

  drawn_names : (i j : ℕ) (one two : NestedBlock) → i < j → FromDrawn numbers 0 drawn i one → FromDrawn numbers 0 drawn j two → HaveNames one two
  drawn_names i j one two less h g parents names =
      let before : h.k < g.k = in_order h.k g.k i j (from_zero (slice_get numbers h.k) i h.number) (from_zero (slice_get numbers g.k) j g.number) less in
      let moves : option_map (moved numbers) h.own.block.parent ≡ option_map (moved numbers) g.own.block.parent =
      sym (ap (λ (b : NestedBlock). b.parent) h.is) ∙ parents ∙ ap (λ (b : NestedBlock). b.parent) g.is in
      two_of HaveNames drawn_blocks are.sound.names h.k g.k h.own.block g.own.block before (block_there h.k h.own h.there) (block_there g.k g.own g.there)
      (parents_back h.k g.k h.own g.own h.there g.there g.own.block.parent refl moves)
      (sym (ap (λ (b : NestedBlock). b.name) h.is) ∙ names ∙ ap (λ (b : NestedBlock). b.name) g.is)

  -- a drawn block and one of a filter stand in different Systems
  apart_parents : (i j : ℕ) (one two : NestedBlock) → FromDrawn numbers 0 drawn i one → FromFilter other 0 drawn j two → one.parent ≡ two.parent → ⊥
  apart_parents i j one two h g parents =
      none_in h.k g.k g.n h.own g.own g.fir h.there g.there g.filter g.number
      (sym (ap (λ (b : NestedBlock). b.parent) h.is) ∙ parents ∙ ap (λ (b : NestedBlock). b.parent) g.is)

  two_names : NamesDiffer → (i j : ℕ) (one two : NestedBlock) → i < j → slice_get blocks i ≡ Some one → slice_get blocks j ≡ Some two → HaveNames one two
  two_names differ i j one two less here there parents names = elim (origin_of i one here) [
    | inl h ↦ elim (origin_of j two there) [
      | inl g ↦ drawn_names i j one two less h g parents names
      | inr g ↦ apart_parents i j one two h g parents
    ]
    | inr h ↦ elim (origin_of j two there) [
      | inl g ↦ apart_parents j i two one g h (sym parents)
      | inr g ↦ inner_names differ i j one two less h g parents names
    ]
  ]

  pub sound_names : NamesDiffer → AllPairs HaveNames blocks
  sound_names differ i j d less within =
      two_names differ i j (get_or blocks i d) (get_or blocks j d) less (slice_get-get_or blocks i d (omega (arith, less, within))) (slice_get-get_or blocks j d within)
