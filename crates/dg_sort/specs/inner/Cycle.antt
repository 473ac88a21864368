-- The steps of a search back from a block for a cycle through it (own).
use Rattle.std.specs.Prelude.{◌≡◌, ℕ, suc, ◌-◌, ◌<◌, Bool, true, false, List, [], ◌∷◌, length, slice_get, Some}
use Rattle.dg_sort.specs.declared.cycle.Step.{Step}
use Rattle.dg_sort.specs.Rows.{Reads}
use Rattle.fx_io.specs.Rows.{row_at}

-- a step whose block reads another
pub record IsReadBy (rows : List (List ℕ)) (steps : List Step) (place block : ℕ) : Type 0 where
  pub step : Step
  pub at : slice_get steps place ≡ Some step
  pub reads : Reads rows step.block block

-- the block is that of a step
pub record IsStepOf (steps : List Step) (block : ℕ) : Type 0 where
  pub place : ℕ
  pub step : Step
  pub at : slice_get steps place ≡ Some step
  pub is : step.block ≡ block

-- the blocks that were met, the first of all: each once, and each other one read by one before it
pub record IsMet (rows : List (List ℕ)) (first : ℕ) (steps : List Step) : Type 0 where
  pub begins : (step : Step) → slice_get steps 0 ≡ Some step → step.block ≡ first
  pub once : (k other : ℕ) (step another : Step) → slice_get steps k ≡ Some step
      → slice_get steps other ≡ Some another → step.block ≡ another.block → k ≡ other
  pub next : (k : ℕ) (step : Step) → slice_get steps k ≡ Some step → 0 < k → (step.next < k)
      × IsReadBy rows steps step.next step.block

-- how many are marked
abbrev pub met_count : List Bool → ℕ
met_count [] = 0
met_count (true ∷ marks) = suc (met_count marks)
met_count (false ∷ marks) = met_count marks

-- the blocks that were met, and their marks
pub record AreSteps (rows : List (List ℕ)) (first : ℕ) (steps : List Step)
    (is_met : List Bool) : Type 0 where
  pub met : IsMet rows first steps
  pub size : length is_met ≡ length rows
  pub count : met_count is_met ≡ length steps
  pub there : (k : ℕ) (step : Step) → slice_get steps k ≡ Some step
      → slice_get is_met step.block ≡ Some true
  pub marked : (block : ℕ) → slice_get is_met block ≡ Some true → IsStepOf steps block

-- a source was met, and isn't the first
pub record IsPassed (first : ℕ) (is_met : List Bool) (source : ℕ) : Type 0 where
  pub met : slice_get is_met source ≡ Some true
  pub other : source ≡ first → ⊥

-- so was each source of the blocks before a place
pub record AreClosed (rows : List (List ℕ)) (first at : ℕ) (steps : List Step)
    (is_met : List Bool) : Type 0 where
  pub closed : (k source : ℕ) (step : Step) → k < at → slice_get steps k ≡ Some step
      → Reads rows step.block source → IsPassed first is_met source

-- the block of the step at a place reads the first
abbrev pub IsFoundAt : List (List ℕ) → ℕ → List Step → ℕ → Type 0
IsFoundAt rows first steps at = IsReadBy rows steps at first

-- while the sources of a block are looked at, up to one of them
pub record IsLooking (rows : List (List ℕ)) (first at block : ℕ) (steps : List Step)
    (is_met : List Bool) (index : ℕ) : Type 0 where
  pub steps_are : AreSteps rows first steps is_met
  pub step : Step
  pub here : slice_get steps at ≡ Some step
  pub is : step.block ≡ block
  pub closed : AreClosed rows first at steps is_met
  pub passed : (k source : ℕ) → k < index → slice_get (row_at rows block) k ≡ Some source
      → IsPassed first is_met source

-- a cycle from its first block on: each is read by the next, the last by the first, and no two are
-- one
pub record IsReadCycle (rows : List (List ℕ)) (first : ℕ) (cycle : List ℕ) : Type 0 where
  pub begins : slice_get cycle 0 ≡ Some first
  pub leads : (k block next : ℕ) → slice_get cycle k ≡ Some block
      → slice_get cycle (suc k) ≡ Some next → Reads rows next block
  pub closes : (last : ℕ) → slice_get cycle (length cycle - 1) ≡ Some last → Reads rows first last
  pub once : (k other block : ℕ) → slice_get cycle k ≡ Some block
      → slice_get cycle other ≡ Some block → k ≡ other

-- a block of the cycle after the first stands behind a place among the steps
pub record IsBehind (steps : List Step) (at block : ℕ) : Type 0 where
  pub of : IsStepOf steps block
  pub behind : at < of.place

-- the way from a place among the steps to the first
pub record IsWalked (rows : List (List ℕ)) (first : ℕ) (steps : List Step) (cycle : List ℕ)
    (at : ℕ) : Type 0 where
  pub begins : slice_get cycle 0 ≡ Some first
  pub inside : at < length steps
  pub leads : (k block next : ℕ) → slice_get cycle k ≡ Some block
      → slice_get cycle (suc k) ≡ Some next → Reads rows next block
  pub last : (block : ℕ) → slice_get cycle (length cycle - 1) ≡ Some block
      → IsReadBy rows steps at block
  pub behind : (k block : ℕ) → slice_get cycle k ≡ Some block → 0 < k → IsBehind steps at block
  pub once : (k other block : ℕ) → slice_get cycle k ≡ Some block
      → slice_get cycle other ≡ Some block → k ≡ other
