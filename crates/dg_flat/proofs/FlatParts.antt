-- The parts of a wired diagram that hang on the flat blocks alone.
use Rattle.std.proofs.Common.{◌≡◌, ℕ, zero, suc, ◌≤◌, ◌+◌, Bool, true, false, ◌&&◌, not, List, [], ◌∷◌, length, All, Option, Some, None, zero-add, refl, sym, ap, subst, ◌∙◌, inl, inr, arith}
use Rattle.std.specs.Prelude.{slice_get, option_map, MatchOption}
use Rattle.std.specs.List.{enumerate_from, filter_map, cons_option}
use Rattle.std.specs.Option.{is_some}
use Rattle.std.proofs.lemmas.Bool.{true≢false}
use Rattle.std.proofs.lemmas.List.Quantifiers.{position-Some}
use Rattle.std.proofs.lemmas.Option.{slice_get_cases, same_Some, none-some}
use Rattle.dg_model.specs.declared.diagram.Block.{Block}
use Rattle.dg_model.specs.declared.nested.Nested.{Nested}
use Rattle.dg_model.specs.declared.nested.NestedBlock.{NestedBlock}
use Rattle.dg_model.specs.declared.nested.Part.{Part}
use Rattle.dg_model.specs.declared.nested.Part.TheVariants.{Plain, In, Out, SubSystem, Enable}
use Rattle.dg_model.specs.declared.row.Role.{Role}
use Rattle.dg_model.specs.Library.{row_of}
use Rattle.dg_model.specs.Readable.{IsReadable}
use Rattle.dg_model.specs.Sound.{IsSound, HasReadable}
use Rattle.dg_model.specs.Wired.{NamesControl}
use Rattle.dg_flat.specs.Flat.{flat_block, flat_blocks, flat_place, resets_under}
use Rattle.dg_flat.specs.Parts.{nested_path, is_subsystem, is_enable_port, enable_port, system_around, control_else, control_within, control_of, same_system}
use Rattle.dg_flat.proofs.FlatList.{kept_at, each_kept}
use Rattle.dg_flat.proofs.Positions.{position_within}
use Rattle.dg_flat.proofs.Readable.{placed_readable, control_readable}
use Rattle.math_list.proofs.Places.{held}
use Rattle.math_list.proofs.Tests.{right_true}

-- ---- size

kept_few : {X Y : Type 0} (h : ℕ × X → Option Y) (from : ℕ) (xs : List X) → length (filter_map h (enumerate_from from xs)) ≤ length xs
kept_few h from [] = omega arith
kept_few {X} {Y} h from (x ∷ xs) = go (h (from, x)) (kept_few h (from + 1) xs) where
  go : (o : Option Y) → length (filter_map h (enumerate_from (from + 1) xs)) ≤ length xs → length (cons_option o (filter_map h (enumerate_from (from + 1) xs))) ≤ suc (length xs)
  go None few = omega (arith, few)
  go (Some y) few = omega (arith, few)

pub flat_few : (blocks : List NestedBlock) → length (flat_blocks blocks) ≤ length blocks
flat_few blocks = kept_few (λ (place, block). flat_block blocks place (control_of blocks block.parent) block.part) 0 blocks

-- ---- readable

pub no_block : (y : Block) → ◌≡◌ {A = Option Block} None (Some y) → ⊥
no_block y e = cc

readable : (blocks : List NestedBlock) (place : ℕ) (control : Option ℕ) (part : Part) (y : Block) → HasReadable part → flat_block blocks place control part ≡ Some y → IsReadable y
readable blocks place control (Plain block) y has is =
    subst IsReadable (same_Some _ y is) (placed_readable (nested_path blocks place) (resets_under blocks control)
    (option_map (flat_place blocks) control) block has)
readable blocks place control (In block number) y has is =
    subst IsReadable (same_Some _ y is) (placed_readable (nested_path blocks place) (resets_under blocks control)
    (option_map (flat_place blocks) control) block has)
readable blocks place control (Out block number) y has is =
    subst IsReadable (same_Some _ y is) (placed_readable (nested_path blocks place) (resets_under blocks control)
    (option_map (flat_place blocks) control) block has)
readable blocks place control SubSystem y has is = absurd (no_block y is)
readable blocks place control (Enable reset) y has is = subst IsReadable (same_Some _ y is) (control_readable (nested_path blocks place))

pub flat_readable : (nested : Nested) → IsSound nested → All IsReadable (flat_blocks nested.blocks)
flat_readable nested sound =
    each_kept (λ (place, block). flat_block nested.blocks place (control_of nested.blocks block.parent) block.part) IsReadable 0 nested.blocks
    (λ k x y at is. readable nested.blocks (0 + k) (control_of nested.blocks x.parent) x.part y (held (λ block. HasReadable block.part) nested.blocks k x sound.blocks at) is)

-- ---- controls

abbrev IsEnablePort : List NestedBlock → ℕ → Type 0
IsEnablePort blocks place = (block : NestedBlock) × (reset : Bool) × (slice_get blocks place ≡ Some block) × (block.part ≡ Enable reset)

pub part_enable : (part : Part) → is_enable_port part ≡ true → (reset : Bool) × (part ≡ Enable reset)
part_enable (Plain block) is = absurd (true≢false (sym is))
part_enable (In block number) is = absurd (true≢false (sym is))
part_enable (Out block number) is = absurd (true≢false (sym is))
part_enable SubSystem is = absurd (true≢false (sym is))
part_enable (Enable reset) is = (reset, refl)

port_enables : (blocks : List NestedBlock) (system : Option ℕ) (place : ℕ) → enable_port blocks system ≡ Some place → IsEnablePort blocks place
port_enables blocks system place found =
    elim (slice_get_cases blocks place).1 [
      | inl has ↦
          let block = has.0 in
          let known = position-Some (λ b. same_system b.parent system && is_enable_port b.part) blocks place block found in
          let yes = sym (ap (λ (b : NestedBlock). same_system b.parent system && is_enable_port b.part) has.3) ∙ known.1 in
          let such = part_enable block.part (right_true (same_system block.parent system) (is_enable_port block.part) yes) in
          (block, such.0, has.2, such.1)
      | inr past ↦ absurd (omega (arith, past.0, position_within (λ b. same_system b.parent system && is_enable_port b.part) blocks place found))
    ]

control_within_enables : (blocks : List NestedBlock) (levels : ℕ) (system : Option ℕ) (place : ℕ) → control_within blocks levels system ≡ Some place → IsEnablePort blocks place
control_within_enables blocks zero system place found = absurd (none-some place found)
control_within_enables blocks (suc levels) system place found = go (enable_port blocks system) refl system found (control_within_enables blocks levels) where
  go : (port : Option ℕ) → enable_port blocks system ≡ port → (s : Option ℕ) → control_else port s (control_within blocks levels) blocks ≡ Some place →
      ((around : Option ℕ) (k : ℕ) → control_within blocks levels around ≡ Some k → IsEnablePort blocks k) → IsEnablePort blocks place
  go (Some port) e s is rest = port_enables blocks system place (e ∙ is)
  go None e None is rest = absurd (none-some place is)
  go None e (Some s) is rest = rest (system_around blocks (Some s)) place is

pub agrees : (blocks : List NestedBlock) (place : ℕ) (control : Option ℕ) (part : Part) → is_some (flat_block blocks place control part) ≡ not (is_subsystem part)
agrees blocks place control (Plain block) = refl
agrees blocks place control (In block number) = refl
agrees blocks place control (Out block number) = refl
agrees blocks place control SubSystem = refl
agrees blocks place control (Enable reset) = refl

-- a nested block that is no subsystem stands at its flat place
pub stands_at : (blocks : List NestedBlock) (place : ℕ) (block : NestedBlock) → slice_get blocks place ≡ Some block → is_subsystem block.part ≡ false →
    slice_get (flat_blocks blocks) (flat_place blocks place) ≡ flat_block blocks place (control_of blocks block.parent) block.part
stands_at blocks place block at not_one =
    kept_at (λ (k, b). flat_block blocks k (control_of blocks b.parent) b.part) (λ b. not (is_subsystem b.part))
    (λ n b. agrees blocks n (control_of blocks b.parent) b.part) 0 blocks place block at (ap not not_one)
    ∙ ap (λ (n : ℕ). flat_block blocks n (control_of blocks block.parent) block.part) (zero-add place)

named : (blocks : List NestedBlock) (place : ℕ) → IsEnablePort blocks place
    → MatchOption (slice_get (flat_blocks blocks) (flat_place blocks place)) ⊥
    (λ block. (row_of block.kind).place.role ≡ Role.Control)
named blocks place (block, reset, at, is) =
    let there = stands_at blocks place block at (ap is_subsystem is) ∙ ap (flat_block blocks place (control_of blocks block.parent)) is in
    subst (λ (o : Option Block). MatchOption o ⊥ (λ b. (row_of b.kind).place.role ≡ Role.Control)) (sym there) refl

pub names : (blocks : List NestedBlock) (system : Option ℕ) → NamesControl (flat_blocks blocks) (option_map (flat_place blocks) (control_of blocks system))
names blocks system = go (control_of blocks system) refl where
  go : (control : Option ℕ) → control_of blocks system ≡ control → NamesControl (flat_blocks blocks) (option_map (flat_place blocks) control)
  go None e = tt
  go (Some place) e = named blocks place (control_within_enables blocks (suc (length blocks)) system place e)

part_names : (blocks : List NestedBlock) (place : ℕ) (system : Option ℕ) (part : Part) (y : Block)
    → flat_block blocks place (control_of blocks system) part ≡ Some y → NamesControl (flat_blocks blocks) y.enable
part_names blocks place system (Plain block) y is = subst (λ (b : Block). NamesControl (flat_blocks blocks) b.enable) (same_Some _ y is) (names blocks system)
part_names blocks place system (In block number) y is = subst (λ (b : Block). NamesControl (flat_blocks blocks) b.enable) (same_Some _ y is) (names blocks system)
part_names blocks place system (Out block number) y is = subst (λ (b : Block). NamesControl (flat_blocks blocks) b.enable) (same_Some _ y is) (names blocks system)
part_names blocks place system SubSystem y is = absurd (no_block y is)
part_names blocks place system (Enable reset) y is = subst (λ (b : Block). NamesControl (flat_blocks blocks) b.enable) (same_Some _ y is) tt

pub flat_controls : (blocks : List NestedBlock) → All (λ block. NamesControl (flat_blocks blocks) block.enable) (flat_blocks blocks)
flat_controls blocks =
    each_kept (λ (place, block). flat_block blocks place (control_of blocks block.parent) block.part) (λ block. NamesControl (flat_blocks blocks) block.enable) 0 blocks
    (λ k x y at is. part_names blocks (0 + k) x.parent x.part y is)
