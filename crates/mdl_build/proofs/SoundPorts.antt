-- Each Inport and Outport becomes a block of the role that its System asks for.
use Rattle.std.proofs.Common.{◌≡◌, ℕ, ◌<◌, Bool, true, false, cond, List, length, get_or, Option, Some, None, refl, sym, ap, subst, ◌∙◌, true≢false, eqb-true, eq-eqb}
use Rattle.std.specs.Prelude.{◌==◌, ◌&&◌, All, slice_get, option_map, codes}
use Rattle.std.specs.List.{AllZip}
use Rattle.std.proofs.lemmas.Option.{slice_get-get_or, slice_get_within, get_or_from_slice_get}
use Rattle.dg_model.specs.declared.nested.NestedBlock.{NestedBlock}
use Rattle.dg_model.specs.declared.nested.Part.{Part}
use Rattle.dg_model.specs.Sound.{IsEnable, HasEnablePort, HasInRole, HasOutRole}
use Rattle.mdl_text.specs.declared.tree.Item.{Item}
use Rattle.mdl_build.specs.declared.library.BlockType.{BlockType}
use Rattle.mdl_build.specs.declared.library.BlockType.TheVariants.{Inport, Outport, Constant, Ground, Terminator, Sum, Gain, Product, UnitDelay, Delay, Switch, RelationalOperator, Logic}
use Rattle.mdl_build.specs.declared.library.BlockType.TheVariants.{DataTypeConversion, Mux, Demux, RateTransition, SubSystem, EnablePort, DiscreteFir}
use Rattle.mdl_build.specs.declared.parts.Standing.{Standing}
use Rattle.mdl_build.specs.declared.settings.Settings.{Settings}
use Rattle.mdl_build.specs.Blocks.{at, if_subsystem, number_at, parent_of, is_of, has_enable, standing_in, standing_of}
use Rattle.mdl_build.specs.Nested.{IsBlockAt}
use Rattle.mdl_build.specs.Parts.{in_part, out_part, part_of}
use Rattle.mdl_build.specs.Roles.{role_of, blocks_of, says}
use Rattle.mdl_build.specs.Sections.{holder_of}
use Rattle.mdl_build.specs.inner.ItemFacts.{is_enable_in}
use Rattle.mdl_build.proofs.SoundBlocks.{block_here, block_there}
use Rattle.mdl_build.proofs.SoundParts.{says_type, type_says, enable_type}
use Rattle.std.proofs.lemmas.Map.Keys.{any_passes_from_place}
use Rattle.mdl_build.proofs.SoundSearch.{any_found}
use Rattle.mdl_build.proofs.SoundTree.{IsKept, Stand, same_system}
use Rattle.math_list.proofs.Tests.{left_true, right_true}

-- ---- by the type of a block

in_role : (items : List Item) (parent : Option ℕ) (system : ℕ) (block_type : BlockType) (settings : Settings)
    → HasInRole (option_map (number_at items) parent) (part_of (standing_in items parent (Some system)) block_type settings)
in_role items None system Inport settings = refl
in_role items (Some holder) system Inport settings = by (has_enable items system)
  where
    by : (b : Bool) → HasInRole (Some (number_at items holder)) (in_part (cond b Standing.Enabled Standing.Plain) settings.said)
    by true = tt
    by false = tt
in_role items None system Outport settings = tt
in_role items (Some holder) system Outport settings = by (has_enable items system)
  where
    by : (b : Bool) → HasInRole (Some (number_at items holder)) (out_part (cond b Standing.Enabled Standing.Plain) settings.said settings.list)
    by true = tt
    by false = tt
in_role items parent system Constant settings = tt
in_role items parent system Ground settings = tt
in_role items parent system Terminator settings = tt
in_role items parent system Sum settings = tt
in_role items parent system Gain settings = tt
in_role items parent system Product settings = tt
in_role items parent system UnitDelay settings = tt
in_role items parent system Delay settings = tt
in_role items parent system Switch settings = tt
in_role items parent system RelationalOperator settings = tt
in_role items parent system Logic settings = tt
in_role items parent system DataTypeConversion settings = tt
in_role items parent system Mux settings = tt
in_role items parent system Demux settings = tt
in_role items parent system RateTransition settings = tt
in_role items parent system SubSystem settings = tt
in_role items parent system EnablePort settings = tt
in_role items parent system DiscreteFir settings = tt

-- the nested System has an EnablePort exactly where the tree's has one
pub record SameEnable (items : List Item) (blocks : List NestedBlock) (parent : Option ℕ) (system : ℕ) : Type 0 where
  pub on : (holder : ℕ) → parent ≡ Some holder → has_enable items system ≡ true → HasEnablePort blocks (Some (number_at items holder))
  pub off : (holder : ℕ) → parent ≡ Some holder → has_enable items system ≡ false → ¬ HasEnablePort blocks (Some (number_at items holder))

out_role : (items : List Item) (blocks : List NestedBlock) (parent : Option ℕ) (system : ℕ) (block_type : BlockType) (settings : Settings) → SameEnable items blocks parent system
    → HasOutRole blocks (option_map (number_at items) parent) (part_of (standing_in items parent (Some system)) block_type settings)
out_role items blocks None system Inport settings same = tt
out_role items blocks (Some holder) system Inport settings same = by (has_enable items system)
  where
    by : (b : Bool) → HasOutRole blocks (Some (number_at items holder)) (in_part (cond b Standing.Enabled Standing.Plain) settings.said)
    by true = tt
    by false = tt
out_role items blocks None system Outport settings same = refl
out_role items blocks (Some holder) system Outport settings same = by (has_enable items system) refl
  where
    by : (b : Bool) → has_enable items system ≡ b → HasOutRole blocks (Some (number_at items holder)) (out_part (cond b Standing.Enabled Standing.Plain) settings.said settings.list)
    by true e = same.on holder refl e
    by false e = (refl, same.off holder refl e)
out_role items blocks parent system Constant settings same = tt
out_role items blocks parent system Ground settings same = tt
out_role items blocks parent system Terminator settings same = tt
out_role items blocks parent system Sum settings same = tt
out_role items blocks parent system Gain settings same = tt
out_role items blocks parent system Product settings same = tt
out_role items blocks parent system UnitDelay settings same = tt
out_role items blocks parent system Delay settings same = tt
out_role items blocks parent system Switch settings same = tt
out_role items blocks parent system RelationalOperator settings same = tt
out_role items blocks parent system Logic settings same = tt
out_role items blocks parent system DataTypeConversion settings same = tt
out_role items blocks parent system Mux settings same = tt
out_role items blocks parent system Demux settings same = tt
out_role items blocks parent system RateTransition settings same = tt
out_role items blocks parent system SubSystem settings same = tt
out_role items blocks parent system EnablePort settings same = tt
out_role items blocks parent system DiscreteFir settings same = tt

-- ---- the EnablePort of a System

held_by : (system : ℕ) (found : Option ℕ) → at false (λ holder. holder == system) found ≡ true → found ≡ Some system
held_by system None e = absurd (true≢false (sym e))
held_by system (Some holder) e = ap Some (eqb-true holder system e)

is_port_here : (items : List Item) (system place : ℕ) → holder_of items place ≡ Some system → says items place (codes "BlockType") (codes "EnablePort") ≡ true → is_enable_in items system place ≡ true
is_port_here items system place held said =
    ap (λ (found : Option ℕ). at false (λ holder. holder == system) found && is_of items EnablePort place) held
    ∙ ap (λ (b : Bool). b && is_of items EnablePort place) (eq-eqb system system refl)
    ∙ said

abbrev parent_by : List Item → Option ℕ → Option ℕ
parent_by items found = at None (λ system. at None (λ holder. if_subsystem holder (role_of items holder)) (holder_of items system)) found

module _ (items : List Item) (blocks : List NestedBlock) (known : IsKept items) (all : AllZip (IsBlockAt items) (blocks_of items) blocks) where
  port_on : (place system holder : ℕ) → holder_of items place ≡ Some system → parent_of items place ≡ Some holder
      → has_enable items system ≡ true → HasEnablePort blocks (Some (number_at items holder))
  port_on place system holder held parent has =
      let found = any_found (is_enable_in items system) (blocks_of items) has in
      let here : at false (λ h. h == system) (holder_of items found.1) ≡ true = left_true (at false (λ h. h == system) (holder_of items found.1)) (is_of items EnablePort found.1) found.3 in
      let said : is_of items EnablePort found.1 ≡ true = right_true (at false (λ h. h == system) (holder_of items found.1)) (is_of items EnablePort found.1) found.3 in
      let b = block_there items blocks all found.0 found.1 found.2 in
      let block = b.0 in
      let is = b.2 in
      let own : parent_of items found.1 ≡ Some holder = ap (parent_by items) (held_by system (holder_of items found.1) here ∙ sym held) ∙ parent in
      let kind : is.block_type ≡ EnablePort = says_type items found.1 is.block_type EnablePort is.type_is said refl in
      let enable : IsEnable block.part = subst IsEnable (sym (is.part ∙ ap (λ (t : BlockType). part_of (standing_of items found.1) t is.settings) kind)) tt in
      (found.0, block, slice_get_within blocks found.0 block b.1, get_or_from_slice_get blocks found.0 block block b.1, (is.parent ∙ ap (option_map (number_at items)) own, enable))

  port_off : (place holder : ℕ) → place < length items → (s : Stand items place)
      → parent_of items place ≡ Some holder → has_enable items s.system ≡ false
      → ¬ HasEnablePort blocks (Some (number_at items holder))
  port_off place holder within s parent none port =
      let block = port.1 in
      let there : slice_get blocks port.0 ≡ Some block = slice_get-get_or blocks port.0 block port.2 ∙ ap Some port.3 in
      let h = block_here items blocks all port.0 block there in
      let parents = ap (option_map (number_at items)) parent ∙ sym (port.4).0 ∙ h.here.parent in
      let systems : s.system ≡ h.stands.system = same_system items known place h.place within h.within s h.stands parents in
      let part_is : IsEnable (part_of (standing_of items h.place) h.here.block_type h.here.settings) = subst IsEnable h.here.part (port.4).1 in
      let kind : h.here.block_type ≡ EnablePort = enable_type (standing_of items h.place) h.here.block_type h.here.settings part_is in
      let said : says items h.place (codes "BlockType") (codes "EnablePort") ≡ true = type_says items h.place EnablePort (h.here.type_is ∙ ap (λ (t : BlockType). Some t) kind) in
      let held : holder_of items h.place ≡ Some s.system = h.stands.in_system ∙ ap Some (sym systems) in
      true≢false (sym (any_passes_from_place (is_enable_in items s.system) (blocks_of items) port.0 h.place h.there (is_port_here items s.system h.place held said)) ∙ none)

  same_enable : (place : ℕ) → place < length items → (s : Stand items place) → SameEnable items blocks (parent_of items place) s.system
  same_enable place within s = record {
    on = λ holder parent has. port_on place s.system holder s.in_system parent has;
    off = λ holder parent none. port_off place holder within s parent none;
  }

  -- each Inport has its role
  pub sound_ins : All (λ block. HasInRole block.parent block.part) blocks
  sound_ins k d below =
      let block = get_or blocks k d in
      let h = block_here items blocks all k block (slice_get-get_or blocks k d below) in
      let base = in_role items (parent_of items h.place) h.stands.system h.here.block_type h.here.settings in
      let held : HasInRole (option_map (number_at items) (parent_of items h.place)) (part_of (standing_of items h.place) h.here.block_type h.here.settings) =
      subst (λ (found : Option ℕ). HasInRole (option_map (number_at items) (parent_of items h.place))
      (part_of (standing_in items (parent_of items h.place) found) h.here.block_type h.here.settings))
      (sym h.stands.in_system) base in
      subst (λ (system : Option ℕ). HasInRole system block.part) (sym h.here.parent) (subst (λ (p : Part). HasInRole (option_map (number_at items) (parent_of items h.place)) p) (sym h.here.part) held)

  -- and each Outport
  pub sound_outs : All (λ block. HasOutRole blocks block.parent block.part) blocks
  sound_outs k d below =
      let block = get_or blocks k d in
      let h = block_here items blocks all k block (slice_get-get_or blocks k d below) in
      let base = out_role items blocks (parent_of items h.place) h.stands.system h.here.block_type h.here.settings (same_enable h.place h.within h.stands) in
      let held : HasOutRole blocks (option_map (number_at items) (parent_of items h.place)) (part_of (standing_of items h.place) h.here.block_type h.here.settings) =
      subst (λ (found : Option ℕ). HasOutRole blocks (option_map (number_at items) (parent_of items h.place))
      (part_of (standing_in items (parent_of items h.place) found) h.here.block_type h.here.settings))
      (sym h.stands.in_system) base in
      subst (λ (system : Option ℕ). HasOutRole blocks system block.part) (sym h.here.parent)
      (subst (λ (p : Part). HasOutRole blocks (option_map (number_at items) (parent_of items h.place)) p)
      (sym h.here.part) held)
