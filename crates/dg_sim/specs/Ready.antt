-- What is prepared for the cells of a program (own).
use Rattle.std.specs.Prelude.{◌≡◌, ℕ, List, length, slice_get, Some, ⊤}
use Rattle.dg_blocks.specs.declared.prepared.Prepared.{Prepared}
use Rattle.dg_blocks.specs.Prepared.{IsPrepared}
use Rattle.dg_sim.specs.declared.program.Cell.{Cell}
use Rattle.dg_sim.specs.declared.program.Rule.{Rule}
use Rattle.dg_sim.specs.declared.program.Rule.TheVariants.{Input, Fixed, Same, Works, Above, Past, Slower, Held, Reset}
use Rattle.dg_sim.specs.declared.program.Program.{Program}
use Rattle.dg_sim.specs.Program.{operation_at}

-- what is prepared fits a rule's operation; the other rules need nothing
abbrev pub IsReadyFor : Program → Prepared → Rule → Type 0
IsReadyFor program prepared (Input column) = ⊤
IsReadyFor program prepared (Fixed value) = ⊤
IsReadyFor program prepared (Same from) = ⊤
IsReadyFor program prepared (Works work) = IsPrepared prepared (operation_at program work)
IsReadyFor program prepared (Above first count) = ⊤
IsReadyFor program prepared (Past memory age initial) = ⊤
IsReadyFor program prepared (Slower memory period initial) = ⊤
IsReadyFor program prepared (Held memory from control initial) = ⊤
IsReadyFor program prepared (Reset from control initial) = ⊤

-- what is prepared, of one after another of the first n cells
pub record AreReady (program : Program) (prepared : List Prepared) (n : ℕ) : Type 0 where
  pub size : length prepared ≡ n
  pub each : (k : ℕ) (cell : Cell) (one : Prepared) → slice_get program.cells k ≡ Some cell
      → slice_get prepared k ≡ Some one → IsReadyFor program one cell.rule
