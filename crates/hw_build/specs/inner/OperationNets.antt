-- Operations as nets, on what a block is offered and on products of shared multipliers (own).
use Rattle.std.specs.Prelude.{ℕ, ◌<◌, false, List, [], ◌∷◌, map}
use Rattle.fx_type.specs.declared.kind.FxType.{FxType}
use Rattle.math_list.specs.Numbers.{numbers_from}
use Rattle.dg_model.specs.declared.diagram.Diagram.{Diagram}
use Rattle.dg_model.specs.declared.diagram.Block.{Block}
use Rattle.dg_model.specs.declared.op.Op.{Op}
use Rattle.dg_model.specs.declared.op.Op.TheVariants.{Convert}
use Rattle.dg_model.specs.Operation.{Operation, AreInRange, OpGives}
use Rattle.dg_model.specs.Equation.{signs_of}
use Rattle.dg_model.specs.Signals.{Attributes}
use Rattle.dg_model.specs.Wires.{types_into}
use Rattle.hw_net.specs.Circuit.{Circuit}
use Rattle.hw_lower.specs.Lowered.{AreArgs, values_at}
use Rattle.hw_build.specs.Places.{Places}
use Rattle.hw_build.specs.inner.Growth.{InLater}

-- a net that shows what an operation gives of its arguments, which have the words of its types
pub record IsLoweredIn (closed hubs : ℕ) (now : Circuit) (operation : Operation) (args : List ℕ) (number : ℕ) : Type 0 where
  pub gives : InLater closed hubs now (λ n rows. (clock : ℕ) → clock < n → AreInRange operation.types (values_at rows args clock) → OpGives operation (values_at rows args clock) (rows number clock))
  pub words : AreArgs now operation.types args

-- what a block is offered at an element, in order of its ports
abbrev pub offered_args : Places → ℕ → Block → ℕ → List ℕ
offered_args places block b element = map (λ input. places.offered block input element) (numbers_from 1 b.inputs)

-- the operation of a block
abbrev pub operation_at : Diagram → Attributes → ℕ → Block → Op → Operation
operation_at diagram attributes block b op =
    record { op = op; signs = signs_of b.kind; types = types_into diagram attributes block b.inputs; result = attributes.type_at block 1; rounding = b.rounding; saturate = b.saturate }

-- a product in a full type, converted to the type of a block
abbrev pub conversion_of : Attributes → ℕ → Block → FxType → Operation
conversion_of attributes block b full = record { op = Convert false; signs = []; types = full ∷ []; result = attributes.type_at block 1; rounding = b.rounding; saturate = b.saturate }
