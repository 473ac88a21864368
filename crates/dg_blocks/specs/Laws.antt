-- An operation gives exactly one number (own).
use Rattle.std.specs.Prelude.{◌≡◌, ℤ, List, Some}
use Rattle.fx_type.specs.declared.kind.FxType.{FxType}
use Rattle.fx_type.specs.FxType.{IsType, GivesOne}
use Rattle.dg_model.specs.declared.op.Op.{Op}
use Rattle.dg_model.specs.declared.op.Op.TheVariants.{Sum}
use Rattle.dg_model.specs.Operation.{Operation, OpGives, CanCarryOut}

-- the type in which a Sum is added up is valid
abbrev pub AddsUpInType : Op → Type 0
AddsUpInType op = (accum : FxType) → op ≡ Sum (Some accum) → IsType accum

-- at most one, whatever the inputs
abbrev pub OperationGivesAtMostOne : Type 0
OperationGivesAtMostOne =
    (operation : Operation) (inputs : List ℤ) (r s : ℤ) → IsType operation.result
    → AddsUpInType operation.op → OpGives operation inputs r → OpGives operation inputs s → r ≡ s

-- exactly one, in the range of the result type, where it may be carried out
abbrev pub OperationGivesOne : Type 0
OperationGivesOne =
    (operation : Operation) (inputs : List ℤ) → CanCarryOut operation inputs
    → GivesOne (OpGives operation inputs) operation.result
