-- What is asked of arcs, and what is answered (own).
use Rattle.std.specs.Prelude.{◌≡◌, ℕ, ◌≤◌, ◌<◌, ◌^◌, List, length, Option, Some, slice_get}
use Rattle.hw_arcs.specs.declared.arc.Arc.{Arc}
use Rattle.hw_arcs.specs.declared.found.Gaining.{Gaining}
use Rattle.hw_arcs.specs.declared.found.Found.{Found}
use Rattle.hw_arcs.specs.declared.found.Found.TheVariants.{Least, Gains}
use Rattle.hw_arcs.specs.Latencies.{IsLeast, AreTight, IsGainingCycle, BeginsAtLeast}

-- an element stands in a list
pub record IsIn (xs : List ℕ) (x : ℕ) : Type 0 where
  pub place : ℕ
  pub at : slice_get xs place ≡ Some x

-- the most that an arc gains: 64 registers and one base sample more, of a period below 2 ^ 32
abbrev pub most_gain : ℕ
most_gain = 279172874240

-- the most blocks that arcs join
abbrev pub most_joined_blocks : ℕ
most_joined_blocks = 20000

-- arcs join blocks that are there
pub record AreKnown (arcs : List Arc) (count : ℕ) : Type 0 where
  pub from : (number : ℕ) (arc : Arc) → slice_get arcs number ≡ Some arc → arc.from < count
  pub to : (number : ℕ) (arc : Arc) → slice_get arcs number ≡ Some arc → arc.to < count
  pub gain : (number : ℕ) (arc : Arc) → slice_get arcs number ≡ Some arc → arc.gain ≤ most_gain

-- every block is to be looked at once
pub record IsWhole (order : List ℕ) (count : ℕ) : Type 0 where
  pub there : (place block : ℕ) → slice_get order place ≡ Some block → block < count
  pub all : (block : ℕ) → block < count → IsIn order block

-- a cycle that gains, begun with its least block
pub record IsGaining (arcs : List Arc) (gaining : Gaining) : Type 0 where
  pub cycle : IsGainingCycle arcs gaining.blocks gaining.total
  pub begins : BeginsAtLeast gaining.blocks
  pub small : gaining.total < 2 ^ 63

-- the least latencies with their arcs
pub record AreLeast (arcs : List Arc) (count : ℕ) (lat : List ℕ)
    (tight : List (Option ℕ)) : Type 0 where
  pub size : length lat ≡ count
  pub least : IsLeast arcs lat
  pub asked : AreTight arcs lat tight

-- the least latencies, or a cycle that leaves none
abbrev pub IsFound : List Arc → ℕ → Found → Type 0
IsFound arcs count (Least lat tight) = AreLeast arcs count lat tight
IsFound arcs count (Gains gaining) = IsGaining arcs gaining
