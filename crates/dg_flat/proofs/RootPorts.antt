-- The numbers of the root ports of the flat list.
use Rattle.std.proofs.Common.{◌≡◌, ℕ, ◌≤◌, Bool, ◌&&◌, List, length, Option, Some, None, zero-add, refl, sym, ap, subst, ◌∙◌, inl, inr, arith}
use Rattle.std.specs.Prelude.{slice_get, ◌≢◌}
use Rattle.std.specs.List.{filter_map}
use Rattle.std.specs.Option.{is_some}
use Rattle.std.proofs.lemmas.Option.{none-some}
use Rattle.dg_model.specs.declared.diagram.Block.{Block}
use Rattle.dg_model.specs.declared.kind.Kind.{Kind}
use Rattle.dg_model.specs.declared.nested.Nested.{Nested}
use Rattle.dg_model.specs.declared.nested.NestedBlock.{NestedBlock}
use Rattle.dg_model.specs.declared.nested.Part.{Part}
use Rattle.dg_model.specs.declared.nested.Part.TheVariants.{Plain, In, Out, SubSystem, Enable}
use Rattle.dg_model.specs.declared.row.Role.{Role}
use Rattle.dg_model.specs.KindRow.{Row}
use Rattle.dg_model.specs.Library.{row_of}
use Rattle.dg_model.specs.Sound.{IsSound, HasPlainRole}
use Rattle.dg_model.specs.Wired.{AreNumbered, root_input, root_output}
use Rattle.dg_flat.specs.declared.numbering.Side.{Side}
use Rattle.dg_flat.specs.declared.numbering.Side.TheVariants.{In as Ins, Out as Outs}
use Rattle.dg_flat.specs.Flat.{flat_block, flat_blocks, resetting, resets_under}
use Rattle.dg_flat.specs.Parts.{control_of, count_in, same_system}
use Rattle.dg_flat.specs.Rules.{KeepsWiring, AllNestedKeep}
use Rattle.dg_flat.specs.inner.PortNumbers.{number_on}
use Rattle.dg_flat.proofs.Positions.{ranged}
use Rattle.dg_flat.proofs.LinePorts.{in_block_kind, out_block_kind}
use Rattle.dg_flat.proofs.Lists.{each_given, pairs_given, length_kept, kept_kept, of_some}
use Rattle.dg_flat.proofs.Readable.{row_kept}
use Rattle.dg_flat.proofs.Roles.{IsInKind, IsOutKind}
use Rattle.math_list.proofs.Places.{held}

-- the number of a block in the root
abbrev at_root : Option ℕ → Option ℕ → Option ℕ
at_root None number = number
at_root (Some system) number = None

abbrev of_role : Side → Role → Option ℕ
of_role Ins role = root_input role
of_role Outs role = root_output role

abbrev of_block : Side → Block → Option ℕ
of_block side block = of_role side (row_of block.kind).place.role

abbrev root_number : Side → NestedBlock → Option ℕ
root_number side block = at_root block.parent (number_on side block.part)

no_number : (system : Option ℕ) → at_root system None ≡ None
no_number None = refl
no_number (Some system) = refl

role_kept : (side : Side) (resets : Bool) (kind : Kind) → of_role side (row_of (resetting resets kind)).place.role ≡ of_role side (row_of kind).place.role
role_kept side resets kind = ap (λ (row : Row). of_role side row.place.role) (sym (row_kept resets kind))

plain_none : (side : Side) → of_role side Role.Plain ≡ None
plain_none Ins = refl
plain_none Outs = refl

control_none : (side : Side) → of_role side Role.Control ≡ None
control_none Ins = refl
control_none Outs = refl

plain_number : (side : Side) (block : Block) → number_on side (Plain block) ≡ None
plain_number Ins block = refl
plain_number Outs block = refl

holder_number : (side : Side) → number_on side SubSystem ≡ None
holder_number Ins = refl
holder_number Outs = refl

control_number : (side : Side) (reset : Bool) → number_on side (Enable reset) ≡ None
control_number Ins reset = refl
control_number Outs reset = refl

in_number_is : (side : Side) (system : Option ℕ) (number : ℕ) (block : Block) → IsInKind system number block.kind → of_block side block ≡ at_root system (number_on side (In block number))
in_number_is Ins None number block has = ap (λ (kind : Kind). root_input (row_of kind).place.role) has.1
in_number_is Ins (Some system) number block has = ap (λ (kind : Kind). root_input (row_of kind).place.role) has.1
in_number_is Outs None number block has = ap (λ (kind : Kind). root_output (row_of kind).place.role) has.1
in_number_is Outs (Some system) number block has = ap (λ (kind : Kind). root_output (row_of kind).place.role) has.1

out_number_is : (side : Side) (blocks : List NestedBlock) (system : Option ℕ) (number : ℕ) (block : Block)
    → IsOutKind blocks system number block.kind
    → of_block side block ≡ at_root system (number_on side (Out block number))
out_number_is Ins blocks None number block has = ap (λ (kind : Kind). root_input (row_of kind).place.role) has
out_number_is Ins blocks (Some system) number block (inl has) = ap (λ (kind : Kind). root_input (row_of kind).place.role) has.1
out_number_is Ins blocks (Some system) number block (inr has) = ap (λ (kind : Kind). root_input (row_of kind).place.role) has.1.2
out_number_is Outs blocks None number block has = ap (λ (kind : Kind). root_output (row_of kind).place.role) has
out_number_is Outs blocks (Some system) number block (inl has) = ap (λ (kind : Kind). root_output (row_of kind).place.role) has.1
out_number_is Outs blocks (Some system) number block (inr has) = ap (λ (kind : Kind). root_output (row_of kind).place.role) has.1.2

-- a flat block has a root number exactly where its nested block has one
number_is : (nested : Nested) → IsSound nested → (side : Side) (place : ℕ) (x : NestedBlock) → slice_get nested.blocks place ≡ Some x →
    of_some (of_block side) (flat_block nested.blocks place (control_of nested.blocks x.parent) x.part) ≡ root_number side x
number_is nested sound side place x at =
    go x.part refl where
      by_part : (part : Part) → x.part ≡ part → of_some (of_block side) (flat_block nested.blocks place (control_of nested.blocks x.parent) part) ≡ at_root x.parent (number_on side part) →
          of_some (of_block side) (flat_block nested.blocks place (control_of nested.blocks x.parent) x.part) ≡ root_number side x
      by_part part e same = subst (λ (p : Part). of_some (of_block side) (flat_block nested.blocks place (control_of nested.blocks x.parent) p) ≡ at_root x.parent (number_on side p)) (sym e) same

      go : (part : Part) → x.part ≡ part → of_some (of_block side) (flat_block nested.blocks place (control_of nested.blocks x.parent) x.part) ≡ root_number side x
      go (Plain block) e = by_part (Plain block) e
          (role_kept side (resets_under nested.blocks (control_of nested.blocks x.parent)) block.kind
          ∙ ap (of_role side) (subst HasPlainRole e (held (λ b. HasPlainRole b.part) nested.blocks place x sound.plains at)) ∙ plain_none side
          ∙ sym (ap (at_root x.parent) (plain_number side block) ∙ no_number x.parent))
      go (In block number) e = by_part (In block number) e
          (role_kept side (resets_under nested.blocks (control_of nested.blocks x.parent)) block.kind ∙ in_number_is side x.parent number block (in_block_kind nested place number x block sound at e))
      go (Out block number) e = by_part (Out block number) e
          (role_kept side (resets_under nested.blocks (control_of nested.blocks x.parent)) block.kind
          ∙ out_number_is side nested.blocks x.parent number block
          (out_block_kind nested place number x block sound at e))
      go SubSystem e = by_part SubSystem e (sym (ap (at_root x.parent) (holder_number side) ∙ no_number x.parent))
      go (Enable reset) e = by_part (Enable reset) e (control_none side ∙ sym (ap (at_root x.parent) (control_number side reset) ∙ no_number x.parent))

root_some : (system number : Option ℕ) (own : ℕ) → at_root system number ≡ Some own → (system ≡ None) × (number ≡ Some own)
root_some None number own is = (refl, is)
root_some (Some system) number own is = absurd (none-some own is)

is_counted : (side : Side) (x : NestedBlock) → is_some (root_number side x) ≡ (same_system x.parent None && is_some (number_on side x.part))
is_counted side x = go x.parent where
  go : (system : Option ℕ) → is_some (at_root system (number_on side x.part)) ≡ (same_system system None && is_some (number_on side x.part))
  go None = refl
  go (Some system) = refl

nested_numbers : (nested : Nested) → AllNestedKeep nested KeepsWiring → (side : Side) → AreNumbered (filter_map (root_number side) nested.blocks)
nested_numbers nested keep side = record {
  within = each_given (root_number side) (λ number. (1 ≤ number) × (number ≤ length (filter_map (root_number side) nested.blocks))) nested.blocks (λ k x number at is.
      let own = root_some x.parent (number_on side x.part) number is in
      let its = ranged nested keep side k number x at own.1 in
      let counts : count_in nested.blocks x.parent (λ part. is_some (number_on side part)) ≡ length (filter_map (root_number side) nested.blocks) =
      ap (λ (s : Option ℕ). count_in nested.blocks s (λ part. is_some (number_on side part))) own.0
      ∙ sym (length_kept (root_number side) (λ b. same_system b.parent None && is_some (number_on side b.part)) nested.blocks (is_counted side)) in
      (its.above, omega (arith, its.within, counts)));
  distinct = pairs_given (root_number side) (λ number other. number ≢ other) nested.blocks (λ i j x z number other before at there is its same.
      let first = root_some x.parent (number_on side x.part) number is in
      let second = root_some z.parent (number_on side z.part) other its in
      (ranged nested keep side j other z there second.1).first i x before at (first.0 ∙ sym second.0) (first.1 ∙ ap (λ (n : ℕ). Some n) same));
}

flat_numbers : (nested : Nested) → IsSound nested → AllNestedKeep nested KeepsWiring → (side : Side) → AreNumbered (filter_map (of_block side) (flat_blocks nested.blocks))
flat_numbers nested sound keep side =
    subst AreNumbered
    (sym (kept_kept (λ (place, block). flat_block nested.blocks place (control_of nested.blocks block.parent) block.part) (of_block side) (root_number side) 0 nested.blocks
    (λ k x at. ap (λ (n : ℕ). of_some (of_block side) (flat_block nested.blocks n (control_of nested.blocks x.parent) x.part)) (zero-add k) ∙ number_is nested sound side k x at)))
    (nested_numbers nested keep side)

pub flat_inports : (nested : Nested) → IsSound nested → AllNestedKeep nested KeepsWiring → AreNumbered (filter_map (λ block. root_input (row_of block.kind).place.role) (flat_blocks nested.blocks))
flat_inports nested sound keep = flat_numbers nested sound keep Ins

pub flat_outports : (nested : Nested) → IsSound nested → AllNestedKeep nested KeepsWiring → AreNumbered (filter_map (λ block. root_output (row_of block.kind).place.role) (flat_blocks nested.blocks))
flat_outports nested sound keep = flat_numbers nested sound keep Outs
