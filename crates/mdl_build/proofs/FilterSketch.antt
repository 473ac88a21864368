-- A model as it is drawn, whose filters are subsystems that hold no blocks.
use Rattle.std.proofs.Common.{◌≡◌, ◌≢◌, ℕ, ◌≤◌, List, length, map, Option, Some, None}
use Rattle.std.specs.Prelude.{slice_get}
use Rattle.std.specs.List.{AllZip}
use Rattle.dg_model.specs.declared.nested.NestedLine.{NestedLine}
use Rattle.dg_model.specs.Limits.{most_blocks}
use Rattle.dg_model.specs.Sound.{IsSound, IsSubSystem}
use Rattle.fir_block.specs.declared.filter.Fir.{Fir}
use Rattle.fir_block.specs.Expanded.{extent}
use Rattle.fir_block.specs.Laws.{IsReadableFir}
use Rattle.mdl_build.specs.declared.expanding.DrawnBlock.{DrawnBlock}
use Rattle.mdl_build.specs.Extents.{total}

-- how many blocks a drawn one stands for
abbrev pub extent_of : Option Fir → ℕ
extent_of None = 1
extent_of (Some fir) = extent (length fir.coefficients)

abbrev pub extents_of : List DrawnBlock → List ℕ
extents_of drawn = map (λ (own : DrawnBlock). extent_of own.filter) drawn

-- each filter is such as its text can be
abbrev pub AreFirs : List DrawnBlock → Type 0
AreFirs drawn =
    (k : ℕ) (own : DrawnBlock) (fir : Fir) → slice_get drawn k ≡ Some own → own.filter ≡ Some fir → IsReadableFir fir

-- blocks that stand for so many, and lines, are well formed as they are drawn
pub record IsDrawnModel (extents : List ℕ) (drawn : List DrawnBlock) (lines : List NestedLine) : Type 0 where
  pub sound : IsSound (record { blocks = map (λ (own : DrawnBlock). own.block) drawn; lines = lines })
  pub extents_are : AllZip (λ (own : DrawnBlock) (size : ℕ). size ≡ extent_of own.filter) drawn extents
  pub few : total extents ≤ most_blocks
  -- a filter is a subsystem, and such as its text can be
  pub filters : (k : ℕ) (own : DrawnBlock) (fir : Fir) → slice_get drawn k ≡ Some own → own.filter ≡ Some fir
      → IsSubSystem own.block.part × IsReadableFir fir
  -- no block stands in a filter
  pub bare : (k j : ℕ) (own held : DrawnBlock) (fir : Fir) → slice_get drawn k ≡ Some own → own.filter ≡ Some fir
      → slice_get drawn j ≡ Some held → held.block.parent ≢ Some k

pub are_firs : (extents : List ℕ) (drawn : List DrawnBlock) (lines : List NestedLine) → IsDrawnModel extents drawn lines → AreFirs drawn
are_firs extents drawn lines are k own fir at is = (are.filters k own fir at is).1
