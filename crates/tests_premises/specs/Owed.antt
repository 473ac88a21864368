-- What modules of the whole model's diagram owe by three plans, worked out in numbers and names, and
-- a plan of which no module is owed (own).
use Rattle.std.specs.Prelude.{◌≡◌, ℕ, ◌<◌, ◌≤◌, List, [], ◌∷◌, false, length, Contains, codes}
use Rattle.dg_model.specs.declared.resolved.Resolved.{Resolved}
use Rattle.hw_build.specs.Multiplied.{multiplication_name}
use Rattle.hw_build.specs.Pipelined.{stage_name}
use Rattle.hw_module.specs.Design.{IsModuleOf}
use Rattle.hw_sched.specs.Slots.{Timing}
use Rattle.vl_ast.specs.declared.modules.ModItem.{ModItem}
use Rattle.vl_ast.specs.declared.modules.Module.{Module}
use Rattle.vl_ast.specs.Conditions.{item_name}
use Rattle.vl_ast.specs.Driven.{IsResetLast}
use Rattle.vl_ast.specs.Drivers.{declares}
use Rattle.vl_ast.specs.Items.{IsReadByAlone, IsRegisterOf, IsWire, registers}
use Rattle.vl_ast.specs.Multiplications.{item_multiplications}
use Rattle.vl_ast.specs.Nets.{nets_of}
use Rattle.vl_ast.specs.Runs.{Row, Rows, Runs}
use Rattle.vl_ast.specs.Stalls.{AreThinned}
use Rattle.vl_ast.specs.Windows.{Window}
use Rattle.vl_emit.specs.Items.{IsMultiplied}
use Rattle.tests_premises.specs.Whole.{diagram, resolved, timing}

-- ---- one register, by the model's own plan
-- the register of an element takes a wire that nothing else reads
pub record IsHeldOnce (m : Module) (element : ℕ) : Type 0 where
  pub wire : List ℕ
  pub is_wire : IsWire m wire
  pub first : IsRegisterOf m (stage_name 1 element 1) wire
  pub alone : IsReadByAlone m wire (stage_name 1 element 1)

-- six registers at the most: one behind each element, one for the result of each operation, and a
-- counter before and one behind the registers of the Gain. In every run `ce_out` shows
-- `clk_enable`, and the counted rows are those of a run without stalls.
pub record OwesOnce (m : Module) : Type 0 where
  pub few : length (registers m) ≤ 6
  pub held : (element : ℕ) → element < 2 → IsHeldOnce m element
  pub enabled : (count : ℕ) (start : Row) (inputs rows : Rows) → Runs m count start inputs rows
      → (k : ℕ) → k < count → rows k (codes "ce_out") ≡ rows k (codes "clk_enable")
  pub stalls : (window : Window) (start : Row) (inputs rows : Rows) → IsResetLast window inputs
      → Runs m window.rows start inputs rows → AreThinned m window inputs rows

-- ---- two registers
abbrev pub twice : Resolved
twice = record { cycles = 3; multipliers = 1; stages = 0 ∷ 2 ∷ 0 ∷ [] }

-- its times: the output is two samples late
abbrev pub twice_timing : Timing
twice_timing = record timing { lat = 0 ∷ 0 ∷ 2 ∷ [] }

-- the second takes the first, which nothing else reads
pub record IsHeldTwice (m : Module) (element : ℕ) : Type 0 where
  pub once : IsHeldOnce m element
  pub second : IsRegisterOf m (stage_name 1 element 2) (stage_name 1 element 1)
  pub between : IsReadByAlone m (stage_name 1 element 1) (stage_name 1 element 2)

-- two registers more than with one behind each element
pub record OwesTwice (m : Module) : Type 0 where
  pub few : length (registers m) ≤ 8
  pub held : (element : ℕ) → element < 2 → IsHeldTwice m element

-- ---- no shared multiplier
abbrev pub plain : Resolved
plain = record { cycles = 1; multipliers = 0; stages = 0 ∷ 0 ∷ 0 ∷ [] }

-- its times: nothing is late, and nothing is shared
abbrev pub plain_timing : Timing
plain_timing =
    record { lat = 0 ∷ 0 ∷ 0 ∷ []; fed = false ∷ false ∷ false ∷ []; depths = 0 ∷ 0 ∷ 0 ∷ [] }

-- each element has a wire that is assigned a product, by an item that holds no other
pub record OwesPlain (m : Module) : Type 0 where
  pub wires : (element : ℕ) → element < 2 → IsWire m (multiplication_name 1 element)
  pub products : (element : ℕ) → element < 2 → IsMultiplied m (multiplication_name 1 element)
  pub alone : (element : ℕ) → element < 2 → (i : ModItem) → Contains m.items i → declares i ≡ false
      → item_name i ≡ multiplication_name 1 element
      → length (item_multiplications (nets_of m) i) ≡ 1

-- ---- each module that is owed by these plans does so
pub record WholeModulesOwe : Type 0 where
  pub once : (m : Module) → IsModuleOf m diagram resolved timing → OwesOnce m
  pub two : (m : Module) → IsModuleOf m diagram twice twice_timing → OwesTwice m
  pub unshared : (m : Module) → IsModuleOf m diagram plain plain_timing → OwesPlain m
