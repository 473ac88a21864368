-- The ports of each System by number (own).
use Rattle.std.specs.Prelude.{◌≡◌, ℕ, suc, ◌≤◌, List, length, Option, None}
use Rattle.std.specs.Option.{is_some}
use Rattle.dg_model.specs.declared.nested.NestedBlock.{NestedBlock}
use Rattle.dg_model.specs.declared.nested.Part.{Part}
use Rattle.dg_flat.specs.declared.numbering.Numbering.{Numbering}
use Rattle.dg_flat.specs.declared.numbering.Side.{Side}
use Rattle.dg_flat.specs.declared.numbering.Side.TheVariants.{In, Out}
use Rattle.dg_flat.specs.Parts.{in_number, out_number, is_number, count_in, first_in}
use Rattle.dg_flat.specs.inner.Slots.{system_of}
use Rattle.dg_flat.specs.inner.Tables.{IsTable, IsRowTable, AreRows}

-- the number of a port of this side
abbrev pub number_on : Side → Part → Option ℕ
number_on In part = in_number part
number_on Out part = out_number part

-- how many such ports a System has
abbrev pub count_at : List NestedBlock → Side → ℕ → ℕ
count_at blocks side slot = count_in blocks (system_of slot) (λ part. is_some (number_on side part))

-- the first of a number
abbrev pub numbered_at : List NestedBlock → Side → ℕ → ℕ → Option ℕ
numbered_at blocks side slot number =
    first_in blocks (system_of slot) (λ part. is_number number (number_on side part))

-- one row a System, and the first port of each number
pub record IsNumbering (blocks : List NestedBlock) (side : Side)
    (numbering : Numbering) : Type 0 where
  pub rows : AreRows numbering.rows
  pub counts : IsTable (suc (length blocks)) (count_at blocks side) numbering.rows.lengths.items
  pub ports : IsRowTable numbering.rows.lengths.items
      (numbered_at blocks side) numbering.ports.items

-- what is found at a number: the first port that has it, and nothing above their count
pub record IsNumberedAt (blocks : List NestedBlock) (side : Side) (slot number : ℕ)
    (found : Option ℕ) : Type 0 where
  pub within : 1 ≤ number → number ≤ count_at blocks side slot
      → found ≡ numbered_at blocks side slot number
  pub none : ¬ ((1 ≤ number) × (number ≤ count_at blocks side slot)) → found ≡ None

-- no port has a number that is none of those from 1 to their count
pub record AreNumbersWithin (blocks : List NestedBlock) : Type 0 where
  pub past : (side : Side) (slot number : ℕ)
      → ¬ ((1 ≤ number) × (number ≤ count_at blocks side slot))
      → numbered_at blocks side slot number ≡ None
