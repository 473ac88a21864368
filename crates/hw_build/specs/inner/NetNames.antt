-- What the names of nets are for (own).
use Rattle.std.specs.Prelude.{ℕ, zero, suc, ◌^◌, ◌<◌, List, ◌++◌, Option, None, Some, codes}
use Rattle.std.specs.Fmt.{decimal}
use Rattle.hw_build.specs.Multiplied.{multiplication_name}
use Rattle.hw_build.specs.Pipelined.{stage_name}

-- what a name says of a block, of its element, and of a stage if it is of one
abbrev pub place_name : ℕ → ℕ → Option ℕ → List ℕ
place_name block element None = decimal block ++ (codes "_" ++ decimal element)
place_name block element (Some stage) =
    decimal block ++ (codes "_" ++ (decimal element ++ (codes "_" ++ decimal stage)))

-- the multiplication of an element, or a register of its pipeline by its number from 1
pub record Mark : Type 0 where
  pub block : ℕ
  pub element : ℕ
  pub stage : ℕ

abbrev pub name_by : ℕ → ℕ → ℕ → List ℕ
name_by block element zero = multiplication_name block element
name_by block element (suc stage) = stage_name block element (suc stage)

abbrev pub mark_name : Mark → List ℕ
mark_name mark = name_by mark.block mark.element mark.stage

abbrev pub IsSmallMark : Mark → Type 0
IsSmallMark mark = (mark.block < 2 ^ 64) × (mark.element < 2 ^ 64) × (mark.stage < 2 ^ 64)
