-- Flat blocks stand where their kinds may.
use Rattle.std.proofs.Common.{◌≡◌, ℕ, zero, suc, ◌+◌, Bool, true, false, ◌&&◌, cond, IsSome, List, [], ◌∷◌, length, All, Option, Some, None, zero-add, refl, sym, ap, subst, ◌∙◌, inl, inr}
use Rattle.std.specs.Prelude.{slice_get, option_map}
use Rattle.std.specs.List.{position_from}
use Rattle.std.specs.Option.{is_some}
use Rattle.std.proofs.lemmas.Bool.{true≢false, and_from}
use Rattle.std.proofs.lemmas.Iterator.Adapters.{position_from-zero}
use Rattle.std.proofs.lemmas.Option.{same_Some, none-some, slice_get-get_or}
use Rattle.dg_model.specs.declared.diagram.Block.{Block}
use Rattle.dg_model.specs.declared.kind.Kind.{Kind}
use Rattle.dg_model.specs.declared.nested.Nested.{Nested}
use Rattle.dg_model.specs.declared.nested.NestedBlock.{NestedBlock}
use Rattle.dg_model.specs.declared.nested.Part.{Part}
use Rattle.dg_model.specs.declared.nested.Part.TheVariants.{Plain, In, Out, SubSystem, Enable}
use Rattle.dg_model.specs.declared.row.Standing.{Standing}
use Rattle.dg_model.specs.KindRow.{Row}
use Rattle.dg_model.specs.Library.{row_of}
use Rattle.dg_model.specs.Sound.{IsSound, IsEnable, HasEnablePort}
use Rattle.dg_model.specs.Wired.{MayStand as MayStandFlat}
use Rattle.dg_flat.specs.Flat.{flat_block, flat_blocks, flat_place, resetting, resets_under}
use Rattle.dg_flat.specs.Parts.{same_system, is_enable_port, enable_port, control_else, control_within, control_of}
use Rattle.dg_flat.specs.Rules.{MayStand, MayStandAt, KeepsEnable, AllNestedKeep}
use Rattle.dg_flat.proofs.FlatList.{each_kept}
use Rattle.dg_flat.proofs.Firsts.{same_self}
use Rattle.dg_flat.proofs.LinePorts.{in_block_kind, out_block_kind}
use Rattle.dg_flat.proofs.Readable.{row_kept}
use Rattle.dg_flat.proofs.Roles.{IsInKind, IsOutKind}
use Rattle.dg_flat.proofs.FlatParts.{no_block}

stand_map : (stands : Standing) (f : ℕ → ℕ) (control : Option ℕ) → MayStand stands control → MayStandFlat stands (option_map f control)
stand_map Standing.Anywhere f control may = tt
stand_map Standing.Outside f control may = ap (option_map f) may
stand_map Standing.Inside f None may = absurd (true≢false (sym may))
stand_map Standing.Inside f (Some place) may = refl

-- the flat block of a kind, from where its own kind may stand
abbrev StandsAs : Kind → Option ℕ → Type 0
StandsAs kind enable = MayStandFlat (row_of kind).place.stands enable

reset_stands : (resets : Bool) (kind : Kind) (enable : Option ℕ) → StandsAs kind enable → StandsAs (resetting resets kind) enable
reset_stands resets kind enable may = subst (λ (row : Row). MayStandFlat row.place.stands enable) (row_kept resets kind) may

in_stands : (system : Option ℕ) (number : ℕ) (kind : Kind) (enable : Option ℕ) → IsInKind system number kind → StandsAs kind enable
in_stands None number kind enable has = subst (λ (k : Kind). StandsAs k enable) (sym has.1) tt
in_stands (Some system) number kind enable has = subst (λ (k : Kind). StandsAs k enable) (sym has.1) tt

-- ---- an output port of an enabled subsystem

found_some : {X : Type 0} (p : X → Bool) (from : ℕ) (xs : List X) (k : ℕ) (x : X) → slice_get xs k ≡ Some x → p x ≡ true → is_some (position_from p from xs) ≡ true
found_some p from [] k x at passes = absurd (none-some x at)
found_some {X} p from (y ∷ ys) zero x at passes = ap (λ (b : Bool). is_some (cond b (Some from) (position_from p (from + 1) ys))) (ap p (same_Some y x at) ∙ passes)
found_some {X} p from (y ∷ ys) (suc k) x at passes = go (p y) (found_some p (from + 1) ys k x at passes) where
  go : (b : Bool) → is_some (position_from p (from + 1) ys) ≡ true → is_some (cond b (Some from) (position_from p (from + 1) ys)) ≡ true
  go true rest = refl
  go false rest = rest

enable_is : (part : Part) → IsEnable part → is_enable_port part ≡ true
enable_is (Plain block) is = absurd is
enable_is (In block number) is = absurd is
enable_is (Out block number) is = absurd is
enable_is SubSystem is = absurd is
enable_is (Enable reset) is = refl

port_some : (blocks : List NestedBlock) (system : ℕ) → HasEnablePort blocks (Some system) → is_some (enable_port blocks (Some system)) ≡ true
port_some blocks system (k, block, inside, there, has) =
    let test : NestedBlock → Bool = λ b. same_system b.parent (Some system) && is_enable_port b.part in
    let at : slice_get blocks k ≡ Some block = slice_get-get_or blocks k block inside ∙ ap (λ (b : NestedBlock). Some b) there in
    let yes : test block ≡ true =
    and_from (same_system block.parent (Some system)) (is_enable_port block.part)
    (ap (λ (s : Option ℕ). same_system s (Some system)) has.0 ∙ same_self (Some system)) (enable_is block.part has.1) in
    ap is_some (position_from-zero test blocks) ∙ found_some test 0 blocks k block at yes

inside_some : (blocks : List NestedBlock) (system : ℕ) → HasEnablePort blocks (Some system) → IsSome (control_of blocks (Some system))
inside_some blocks system has = go (enable_port blocks (Some system)) (port_some blocks system has) where
  go : (port : Option ℕ) → is_some port ≡ true → is_some (control_else port (Some system) (control_within blocks (length blocks)) blocks) ≡ true
  go None some = absurd (true≢false (sym some))
  go (Some port) some = refl

out_stands : (blocks : List NestedBlock) (system : Option ℕ) (number : ℕ) (kind : Kind)
    → IsOutKind blocks system number kind
    → StandsAs kind (option_map (flat_place blocks) (control_of blocks system))
out_stands blocks None number kind has = subst (λ (k : Kind). StandsAs k (option_map (flat_place blocks) (control_of blocks None))) (sym has) tt
out_stands blocks (Some system) number kind (inl has) = subst (λ (k : Kind). StandsAs k (option_map (flat_place blocks) (control_of blocks (Some system)))) (sym has.1) tt
out_stands blocks (Some system) number kind (inr has) =
    subst (λ (k : Kind). StandsAs k (option_map (flat_place blocks) (control_of blocks (Some system)))) (sym has.1.2)
    (stand_map Standing.Inside (flat_place blocks) (control_of blocks (Some system)) (inside_some blocks system has.0))

-- ---- all of them

stands_by : (nested : Nested) → IsSound nested → AllNestedKeep nested KeepsEnable → (place : ℕ) (x : NestedBlock) (flat : Block) → slice_get nested.blocks place ≡ Some x →
    flat_block nested.blocks place (control_of nested.blocks x.parent) x.part ≡ Some flat → StandsAs flat.kind flat.enable
stands_by nested sound stand place x flat at gives = go x.part refl where
  enable : Option ℕ
  enable = option_map (flat_place nested.blocks) (control_of nested.blocks x.parent)

  by : (part : Part) → x.part ≡ part → (block : Block)
      → flat_block nested.blocks place (control_of nested.blocks x.parent) part ≡ Some block
      → StandsAs block.kind block.enable → StandsAs flat.kind flat.enable
  by part e block is stands =
      subst (λ (b : Block). StandsAs b.kind b.enable) (same_Some block flat (sym is ∙ sym (ap (flat_block nested.blocks place (control_of nested.blocks x.parent)) e) ∙ gives)) stands

  go : (part : Part) → x.part ≡ part → StandsAs flat.kind flat.enable
  go (Plain block) e = by (Plain block) e _ refl
      (reset_stands (resets_under nested.blocks (control_of nested.blocks x.parent)) block.kind enable
      (stand_map (row_of block.kind).place.stands (flat_place nested.blocks) (control_of nested.blocks x.parent)
      (subst (λ (p : Part). MayStandAt nested.blocks place x.parent p) e (stand place x at))))
  go (In block number) e = by (In block number) e _ refl
      (reset_stands (resets_under nested.blocks (control_of nested.blocks x.parent)) block.kind enable
      (in_stands x.parent number block.kind enable (in_block_kind nested place number x block sound at e)))
  go (Out block number) e = by (Out block number) e _ refl
      (reset_stands (resets_under nested.blocks (control_of nested.blocks x.parent)) block.kind enable
      (out_stands nested.blocks x.parent number block.kind (out_block_kind nested place number x block sound at e)))
  go SubSystem e = absurd (no_block flat (sym (ap (flat_block nested.blocks place (control_of nested.blocks x.parent)) e) ∙ gives))
  go (Enable reset) e = by (Enable reset) e _ refl refl

pub flat_stands : (nested : Nested) → IsSound nested → AllNestedKeep nested KeepsEnable → All (λ block. MayStandFlat (row_of block.kind).place.stands block.enable) (flat_blocks nested.blocks)
flat_stands nested sound stand =
    each_kept (λ (place, block). flat_block nested.blocks place (control_of nested.blocks block.parent) block.part)
    (λ block. MayStandFlat (row_of block.kind).place.stands block.enable) 0 nested.blocks
    (λ k x y at is. stands_by nested sound stand k x y at (ap (λ (n : ℕ). flat_block nested.blocks n (control_of nested.blocks x.parent) x.part) (sym (zero-add k)) ∙ is))
