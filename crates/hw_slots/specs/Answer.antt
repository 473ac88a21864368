-- What is answered of operations: their slots and multipliers, or a period that has too few slots
-- (own).
use Rattle.std.specs.Prelude.{◌≡◌, ℕ, ◌≤◌, ◌<◌, min, List, length, Some, slice_get}
use Rattle.std.specs.Bool.{⊤}
use Rattle.hw_slots.specs.declared.bases.Bases.{Bases}
use Rattle.hw_slots.specs.declared.operation.Operation.{Operation}
use Rattle.hw_slots.specs.declared.operation.Span.{Span}
use Rattle.hw_slots.specs.declared.slots.Slots.{Slots}
use Rattle.hw_slots.specs.declared.slots.SlotFault.{SlotFault}
use Rattle.hw_slots.specs.declared.slots.SlotFault.TheVariants.{Budget, OutOfMemory}
use Rattle.hw_slots.specs.Slots.{base_slot, need_of, slot_of, unit_of}
use Rattle.hw_slots.specs.inner.Tally.{tally_at}

-- the slots of the first operations
pub record AreStarts (operations : List Operation) (multipliers : ℕ) (periods : List Span)
    (count : ℕ) (starts : List ℕ) : Type 0 where
  pub size : length starts ≡ count
  pub are : (number : ℕ) (o : Operation) (span : Span) → number < count
      → slice_get operations number ≡ Some o
      → slice_get periods o.period ≡ Some span
      → slice_get starts number ≡ Some (slot_of operations multipliers span.start number o)

-- the multipliers of the first operations, where kinds have numbers below this one
pub record AreUnits (operations : List Operation) (multipliers kinds count : ℕ)
    (units : List ℕ) : Type 0 where
  pub size : length units ≡ count
  pub are : (number : ℕ) (o : Operation) → number < count → slice_get operations number ≡ Some o
      → o.kind < kinds → slice_get units number ≡ Some (unit_of operations multipliers number o)

-- the slot at which a level of a period begins, and past the last level what is behind all of them
abbrev pub base_at : Bases → ℕ → ℕ → ℕ
base_at bases period level =
    tally_at bases.firsts period (min level (tally_at bases.levels period 0))

-- levels begin where they do by the operations
pub record AreBaseSlots (operations : List Operation) (multipliers : ℕ) (periods : List Span)
    (bases : Bases) : Type 0 where
  pub are : (period level : ℕ) (span : Span) → slice_get periods period ≡ Some span
      → base_at bases period level ≡ base_slot operations multipliers span.start period level

-- a period has the slots that it needs
abbrev pub HasSlots : List Operation → ℕ → List Span → ℕ → Type 0
HasSlots operations multipliers periods period =
    (span : Span) → slice_get periods period ≡ Some span
    → need_of operations multipliers span.start period ≤ span.have

-- each operation has its slot and its multiplier, and each period the slots that it needs and its
-- levels
pub record AreSlots (operations : List Operation) (multipliers : ℕ) (periods : List Span)
    (kinds : ℕ) (slots : Slots) : Type 0 where
  pub keeps : (period : ℕ) → HasSlots operations multipliers periods period
  pub starts : AreStarts operations multipliers periods (length operations) slots.starts
  pub units : AreUnits operations multipliers kinds (length operations) slots.units
  pub bases : AreBaseSlots operations multipliers periods slots.bases

-- the first period that needs more slots than it has
pub record IsShort (operations : List Operation) (multipliers : ℕ) (periods : List Span)
    (period need have : ℕ) : Type 0 where
  pub span : Span
  pub at : slice_get periods period ≡ Some span
  pub needs : need ≡ need_of operations multipliers span.start period
  pub has : have ≡ span.have
  pub short : have < need
  pub first : (other : ℕ) → other < period → HasSlots operations multipliers periods other

-- a fault tells such a period, or want of memory
abbrev pub IsSlotFault : List Operation → ℕ → List Span → SlotFault → Type 0
IsSlotFault operations multipliers periods (Budget period need have) =
    IsShort operations multipliers periods period need have
IsSlotFault operations multipliers periods OutOfMemory = ⊤
