-- Which operation each shared multiplier of a module serves in which clock, and how many
-- multiplications there are (own; HDL Coder, resource sharing).
use Rattle.std.specs.Prelude.{◌≡◌, ℕ, ◌<◌, ℤ, length, Contains, Some, slice_get, true, false}
use Rattle.dg_model.specs.declared.diagram.Diagram.{Diagram}
use Rattle.dg_model.specs.declared.diagram.Block.{Block}
use Rattle.dg_model.specs.declared.resolved.Resolved.{Resolved}
use Rattle.dg_model.specs.Attributes.{attributes_of}
use Rattle.dg_model.specs.Hits.{Hits}
use Rattle.dg_model.specs.Signals.{Stimulus, Table}
use Rattle.vl_ast.specs.declared.modules.ModItem.{ModItem}
use Rattle.vl_ast.specs.declared.modules.Module.{Module}
use Rattle.vl_ast.specs.Conditions.{item_name}
use Rattle.vl_ast.specs.Drivers.{declares}
use Rattle.vl_ast.specs.Multiplications.{Multiplication, item_multiplications, multiplications}
use Rattle.vl_ast.specs.Nets.{nets_of}
use Rattle.vl_ast.specs.Runs.{Row, Rows}
use Rattle.vl_ast.specs.Value.{value_in, bits_of}
use Rattle.vl_ast.specs.Windows.{IsClock, Window, row_at}
use Rattle.hw_module.specs.Carries.{IsDrivenRun}
use Rattle.hw_sched.specs.Laws.{IsOperation}
use Rattle.hw_build.specs.Serving.{AreOperands, clock_of}
use Rattle.hw_sched.specs.Ready.{owed}
use Rattle.hw_sched.specs.Slots.{Timing, Operation, unit_of}
use Rattle.vl_ast.specs.Items.{IsWire}
use Rattle.hw_build.specs.Multiplied.{multiplication_name}
use Rattle.vl_emit.specs.Items.{IsMultiplied}
use Rattle.hw_latency.specs.Shared.{multiplies, is_shared}

-- in this row the multiplication of this number has these operands, cut to the length of its
-- context
pub record Multiplies (m : Module) (row : Row) (number : ℕ) (left right : ℤ) : Type 0 where
  pub multiplication : Multiplication
  pub at : slice_get (multiplications m) number ≡ Some multiplication
  pub left_is : value_in (nets_of m) row multiplication.width multiplication.signed
      multiplication.left ≡ bits_of multiplication.width left
  pub right_is : value_in (nets_of m) row multiplication.width multiplication.signed
      multiplication.right ≡ bits_of multiplication.width right

-- it multiplies the operands that the operation has at hit t
pub record IsServed (m : Module) (diagram : Diagram) (table : Table) (row : Row) (number : ℕ)
    (o : Operation) (b : Block) (t : ℕ) : Type 0 where
  pub left : ℤ
  pub right : ℤ
  pub operands : AreOperands diagram table o.block b o.element t left right
  pub multiplied : Multiplies m row number left right

-- each shared operation is served at each hit in its clock, in every run, and no multiplication
-- serves two in one clock
pub record Serves (m : Module) (diagram : Diagram) (plan : Resolved)
    (timing : Timing) : Type 0 where
  pub served : (samples : ℕ) (window : Window) (stimulus : Stimulus) (table : Table) (rows : Rows)
      (run : IsDrivenRun m diagram samples window stimulus table rows)
      → (number : ℕ) (o : Operation) (b : Block) (t place : ℕ)
      → IsOperation diagram (attributes_of diagram) plan number o
      → slice_get diagram.blocks o.block ≡ Some b → t < samples
      → Hits ((attributes_of diagram).period_at o.block) t
      → IsClock m window run.inputs (clock_of diagram plan timing number o t) place
      → IsServed m diagram table (rows (row_at window place))
      (unit_of diagram (attributes_of diagram) plan timing number o) o b t
  pub apart : (number other : ℕ) (o q : Operation) (t s : ℕ)
      → IsOperation diagram (attributes_of diagram) plan number o
      → IsOperation diagram (attributes_of diagram) plan other q
      → Hits ((attributes_of diagram).period_at o.block) t
      → Hits ((attributes_of diagram).period_at q.block) s
      → unit_of diagram (attributes_of diagram) plan timing number o
      ≡ unit_of diagram (attributes_of diagram) plan timing other q
      → clock_of diagram plan timing number o t ≡ clock_of diagram plan timing other q s
      → (number ≡ other) × (t ≡ s)

-- there are as many multiplications as are owed
abbrev pub MultipliesAsOwed : Module → Diagram → Resolved → Timing → Type 0
MultipliesAsOwed m diagram plan timing =
    length (multiplications m) ≡ owed diagram (attributes_of diagram) plan timing

-- each element of a Product or Gain that isn't shared has a wire by the name of its multiplication,
-- which is assigned a product
abbrev pub NamesMultiplications : Module → Diagram → Resolved → Type 0
NamesMultiplications m diagram plan =
    (block element : ℕ) → block < length diagram.blocks → multiplies diagram block ≡ true
    → is_shared diagram (attributes_of diagram) plan block ≡ false
    → element < (attributes_of diagram).width_at block 1
    → IsWire m (multiplication_name block element)
    × IsMultiplied m (multiplication_name block element)

-- the item that drives it holds one multiplication
abbrev pub MultipliesAlone : Module → Diagram → Resolved → Type 0
MultipliesAlone m diagram plan =
    (block element : ℕ) → block < length diagram.blocks → multiplies diagram block ≡ true
    → is_shared diagram (attributes_of diagram) plan block ≡ false
    → element < (attributes_of diagram).width_at block 1
    → (i : ModItem) → Contains m.items i → declares i ≡ false
    → item_name i ≡ multiplication_name block element
    → length (item_multiplications (nets_of m) i) ≡ 1
