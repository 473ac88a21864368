-- What is found stands in the list of blocks.
use Rattle.std.proofs.Common.{◌≡◌, ℕ, zero, suc, ◌<◌, ◌≤◌, Bool, ◌&&◌, List, [], ◌∷◌, length, Option, Some, None, refl, sym, ap, ◌∙◌, inl, inr, arith}
use Rattle.std.specs.Prelude.{slice_get, MatchOption, ⊤}
use Rattle.std.specs.List.{position}
use Rattle.std.specs.Option.{is_some}
use Rattle.std.proofs.lemmas.Bool.{cases_lt}
use Rattle.std.proofs.lemmas.List.Quantifiers.{position-Some}
use Rattle.std.proofs.lemmas.Option.{slice_get_cases, none-some}
use Rattle.dg_model.specs.declared.nested.Nested.{Nested}
use Rattle.dg_model.specs.declared.nested.NestedBlock.{NestedBlock}
use Rattle.dg_flat.specs.declared.numbering.Side.{Side}
use Rattle.dg_flat.specs.declared.numbering.Side.TheVariants.{In, Out}
use Rattle.dg_flat.specs.Parts.{same_system, count_in, is_number, is_enable_port, enable_port, system_around, control_else, control_within, control_of}
use Rattle.dg_flat.specs.Rules.{KeepsWiring, AllNestedKeep, IsNumbered}
use Rattle.dg_flat.specs.inner.PortNumbers.{number_on, count_at, numbered_at, IsNumberedAt, AreNumbersWithin}
use Rattle.dg_flat.specs.inner.Slots.{system_of}
use Rattle.dg_flat.proofs.Verdicts.{has_this, passed}

abbrev IsInside : List NestedBlock → Option ℕ → Type 0
IsInside blocks found = MatchOption found ⊤ (λ place. place < length blocks)

pub position_within : (p : NestedBlock → Bool) (blocks : List NestedBlock) (k : ℕ) → position p blocks ≡ Some k → k < length blocks
position_within p [] k e = absurd (none-some k e)
position_within p (block ∷ rest) k e = (position-Some p (block ∷ rest) k block e).0

position_inside : (p : NestedBlock → Bool) (blocks : List NestedBlock) → IsInside blocks (position p blocks)
position_inside p blocks = go (position p blocks) refl where
  go : (o : Option ℕ) → position p blocks ≡ o → IsInside blocks o
  go None e = tt
  go (Some k) e = position_within p blocks k e

-- ---- numbers

pub found_is : (blocks : List NestedBlock) (side : Side) (slot number : ℕ) (found : Option ℕ)
    → AreNumbersWithin blocks → IsNumberedAt blocks side slot number found
    → found ≡ numbered_at blocks side slot number
found_is blocks side slot number found are is =
    elim (cases_lt number 1) [
      | inl below ↦ is.none (λ has. absurd (omega (arith, has.0, below))) ∙ sym (are.past side slot number (λ has. absurd (omega (arith, has.0, below))))
      | inr above ↦
          elim (cases_lt (count_at blocks side slot) number) [
            | inl past ↦ is.none (λ has. absurd (omega (arith, has.1, past))) ∙ sym (are.past side slot number (λ has. absurd (omega (arith, has.1, past))))
            | inr within ↦ is.within above within
          ]
    ]

pub found_inside : (blocks : List NestedBlock) (side : Side) (slot number : ℕ) (found : Option ℕ) → AreNumbersWithin blocks → IsNumberedAt blocks side slot number found → IsInside blocks found
found_inside blocks side slot number found are is =
    rw (found_is blocks side slot number found are is) (position_inside (λ block. same_system block.parent (system_of slot) && is_number number (number_on side block.part)) blocks)

-- ---- controls

pub port_inside : (blocks : List NestedBlock) (system : Option ℕ) → IsInside blocks (enable_port blocks system)
port_inside blocks system = position_inside (λ block. same_system block.parent system && is_enable_port block.part) blocks

control_within_inside : (blocks : List NestedBlock) (levels : ℕ) (system : Option ℕ) → IsInside blocks (control_within blocks levels system)
control_within_inside blocks zero system = tt
control_within_inside blocks (suc levels) system = go (enable_port blocks system) system (port_inside blocks system) (control_within_inside blocks levels) where
  go : (port system : Option ℕ) → IsInside blocks port
      → ((around : Option ℕ) → IsInside blocks (control_within blocks levels around))
      → IsInside blocks (control_else port system (control_within blocks levels) blocks)
  go (Some port) system inside rest = inside
  go None None inside rest = tt
  go None (Some system) inside rest = rest (system_around blocks (Some system))

pub control_inside : (blocks : List NestedBlock) (system : Option ℕ) → IsInside blocks (control_of blocks system)
control_inside blocks system = control_within_inside blocks (suc (length blocks)) system

-- ---- kept rules

pub ranged : (nested : Nested) → AllNestedKeep nested KeepsWiring
    → (side : Side) (place number : ℕ) (block : NestedBlock) → slice_get nested.blocks place ≡ Some block
    → number_on side block.part ≡ Some number →
    IsNumbered nested.blocks place block.parent (number_on side) number
ranged nested keep In place number block at is = (keep place block at).in_number number is
ranged nested keep Out place number block at is = (keep place block at).out_number number is

-- a port that is found has one of the numbers
in_range : (nested : Nested) → AllNestedKeep nested KeepsWiring → (side : Side) (slot number place : ℕ)
    → numbered_at nested.blocks side slot number ≡ Some place
    → (1 ≤ number) × (number ≤ count_at nested.blocks side slot)
in_range nested keep side slot number place found =
    elim (slice_get_cases nested.blocks place).1 [
      | inl has ↦
          let block = has.0 in
          let test = has_this side (system_of slot) number in
          let known = position-Some test nested.blocks place block found in
          let own = passed side (system_of slot) number block (sym (ap test has.3) ∙ known.1) in
          let is = ranged nested keep side place number block has.2 own.1 in
          let counts : count_in nested.blocks block.parent (λ part. is_some (number_on side part))
          ≡ count_at nested.blocks side slot =
          ap (λ (s : Option ℕ). count_in nested.blocks s (λ part. is_some (number_on side part))) own.0 in
          (is.above, omega (arith, is.within, counts))
      | inr past ↦ absurd (omega (arith, past.0, position_within (has_this side (system_of slot) number) nested.blocks place found))
    ]

pub numbers_within : (nested : Nested) → AllNestedKeep nested KeepsWiring → AreNumbersWithin nested.blocks
numbers_within nested keep = record { past = λ side slot number past. go side slot number past (numbered_at nested.blocks side slot number) refl } where
  go : (side : Side) (slot number : ℕ) → ¬ ((1 ≤ number) × (number ≤ count_at nested.blocks side slot))
      → (o : Option ℕ) → numbered_at nested.blocks side slot number ≡ o
      → numbered_at nested.blocks side slot number ≡ None
  go side slot number past None e = e
  go side slot number past (Some place) e = absurd (past (in_range nested keep side slot number place e))
