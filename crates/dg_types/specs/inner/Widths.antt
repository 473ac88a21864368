-- What the code of the rounds of widths holds: of each block what it has taken, and how its sources
-- are read (own).
use Rattle.std.specs.Prelude.{◌≡◌, ℕ, zero, suc, ◌<◌, ◌≤◌, min, max, sum, Bool, true, List, [], length, map, All, Some, slice_get, slice_index_or, nat_lt}
use Rattle.dg_types.specs.declared.linked.Share.{Share}
use Rattle.dg_types.specs.declared.linked.Share.TheVariants.{Whole, Even, Fixed}
use Rattle.dg_types.specs.declared.linked.Source.{Source}
use Rattle.dg_types.specs.declared.linked.Form.{Form}
use Rattle.dg_types.specs.declared.linked.Form.TheVariants.{Elementwise, Joined, Divided, Single}
use Rattle.dg_model.specs.Widths.{share, most_width}
use Rattle.math_list.specs.Numbers.{greatest}
use Rattle.dg_waves.specs.inner.Waves.{is_in}

-- the width at an output port of a block that holds this: its width, or, where it divides its
-- input, one more than the input's width, and 0 before the first round
abbrev pub width_through : Share → ℕ → ℕ
width_through Whole held = held
width_through (Even parts place) zero = 1
width_through (Even parts place) (suc width) = share width parts place
width_through (Fixed size) zero = 1
width_through (Fixed size) (suc width) = size

-- an even share is one of some parts
abbrev pub is_shared_out : Share → Bool
is_shared_out Whole = true
is_shared_out (Even parts place) = nat_lt 0 parts
is_shared_out (Fixed size) = true

-- each value is one that a block can hold, and each source a block that has one, and shares it out
pub record CanTake (values : List ℕ) (sources : List Source) : Type 0 where
  pub small : All (λ value. value ≤ 1026) values
  pub there : All (λ source. source.block < length values) sources
  pub some : All (λ source. is_shared_out source.share ≡ true) sources

abbrev pub source_widths : List ℕ → List Source → List ℕ
source_widths values sources =
    map (λ source. width_through source.share (slice_index_or values source.block 0)) sources

-- what a block takes from the widths of its inputs
abbrev pub taken_by : Form → ℕ → List ℕ → ℕ
taken_by (Elementwise least) own inputs = min most_width (max own (max (greatest inputs) least))
taken_by Joined own inputs = min most_width (sum inputs)
taken_by Divided own inputs = suc (min most_width (slice_index_or inputs 0 0))
taken_by Single own inputs = 1

abbrev pub next_held : List Form → List (List Source) → List ℕ → ℕ → ℕ
next_held forms sources values block =
    taken_by (slice_index_or forms block Single) (slice_index_or values block 0)
    (source_widths values (slice_index_or sources block []))

-- each block reads blocks that are there, and they know it as their reader; it is a reader of
-- itself
pub record AreLinked (forms : List Form) (sources : List (List Source))
    (readers : List (List ℕ)) : Type 0 where
  pub forms_size : length forms ≡ length sources
  pub readers_size : length readers ≡ length sources
  pub there : (block : ℕ)
      → All (λ source. source.block < length sources) (slice_index_or sources block [])
  pub shared_out : (block : ℕ)
      → All (λ source. is_shared_out source.share ≡ true) (slice_index_or sources block [])
  pub readers_there : (block : ℕ)
      → All (λ reader. reader < length sources) (slice_index_or readers block [])
  pub own : (block : ℕ) → block < length sources
      → is_in block (slice_index_or readers block []) ≡ true
  pub known : (block k : ℕ) (source : Source)
      → slice_get (slice_index_or sources block []) k ≡ Some source
      → is_in block (slice_index_or readers source.block []) ≡ true
