-- What modules of the whole model's design show (own).
use Rattle.std.specs.Prelude.{◌≡◌, ℕ, ◌+◌, ◌*◌, ◌<◌, ℤ, pos, Some, length, slice_get, codes}
use Rattle.dg_model.specs.declared.diagram.Block.{Block}
use Rattle.hw_build.specs.Pipelined.{stage_name}
use Rattle.hw_module.specs.Design.{IsModuleOf}
use Rattle.hw_module.specs.Pipelined.{IsPipeline}
use Rattle.hw_module.specs.Serves.{IsServed}
use Rattle.hw_sched.specs.Slots.{operation}
use Rattle.vl_ast.specs.declared.modules.Module.{Module}
use Rattle.vl_ast.specs.Multiplications.{Multiplication, multiplications}
use Rattle.vl_ast.specs.Nets.{nets_of}
use Rattle.vl_ast.specs.Room.{StartFits}
use Rattle.vl_ast.specs.Runs.{Row}
use Rattle.vl_ast.specs.Value.{bits_of, value_in}
use Rattle.vl_ast.specs.Windows.{row_at}
use Rattle.tests_premises.specs.Running.{RunsWhole, window}
use Rattle.tests_premises.specs.Whole.{diagram, firsts, fives, gain, resolved, seconds, table, timing, triples}

-- the Gain's block
abbrev pub gain_block : Block
gain_block = gain (codes "G")

-- in this row the one multiplication has these numbers, cut to the length of its context
pub record MultipliesNumbers (m : Module) (row : Row) (left right : ℤ) : Type 0 where
  pub multiplication : Multiplication
  pub at : slice_get (multiplications m) 0 ≡ Some multiplication
  pub left_is : value_in (nets_of m) row multiplication.width multiplication.signed
      multiplication.left ≡ bits_of multiplication.width left
  pub right_is : value_in (nets_of m) row multiplication.width multiplication.signed
      multiplication.right ≡ bits_of multiplication.width right

-- from this start there is a run in which each output shows each of its three numbers in the sixth
-- clock from the hit, the one multiplication serves the first element in the first clock and the
-- second in the next, with their numbers and 3 and 5, and a register stands behind each element
-- and shows its number a base sample
-- late
pub record ShowsWhole (m : Module) (start : Row) : Type 0 where
  pub run : RunsWhole m start
  pub first_output : (t : ℕ) → t < 3
      → run.rows (row_at window (t * 3 + 5)) (codes "y_0") ≡ bits_of 16 (triples t)
  pub second_output : (t : ℕ) → t < 3
      → run.rows (row_at window (t * 3 + 5)) (codes "y_1") ≡ bits_of 16 (fives t)
  pub first_served : (t : ℕ) → t < 3
      → IsServed m diagram table (run.rows (row_at window (t * 3 + 0))) 0
      (operation 1 0) gain_block t
  pub second_served : (t : ℕ) → t < 3
      → IsServed m diagram table (run.rows (row_at window (t * 3 + 1))) 0
      (operation 1 1) gain_block t
  pub first_multiplied : (t : ℕ) → t < 3
      → MultipliesNumbers m (run.rows (row_at window (t * 3 + 0))) (firsts t) (pos 3)
  pub second_multiplied : (t : ℕ) → t < 3
      → MultipliesNumbers m (run.rows (row_at window (t * 3 + 1))) (seconds t) (pos 5)
  pub one : length (multiplications m) ≡ 1
  pub registers : (element : ℕ) → element < 2 → IsPipeline m 1 element 1
  pub first_register : (t : ℕ) → t < 3
      → run.rows (row_at window (t * 3 + 3)) (stage_name 1 0 1) ≡ bits_of 16 (triples t)
  pub second_register : (t : ℕ) → t < 3
      → run.rows (row_at window (t * 3 + 3)) (stage_name 1 1 1) ≡ bits_of 16 (fives t)

-- each module that is owed of the design does so from each start that fits
abbrev pub WholeModulesShow : Type 0
WholeModulesShow =
    (m : Module) (start : Row) → IsModuleOf m diagram resolved timing → StartFits m start
    → ShowsWhole m start
