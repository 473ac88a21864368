-- The shared operations of a diagram as `hw_share` takes them.
use Rattle.std.specs.Prelude.{◌≡◌, ℕ, List, length, Some, slice_get}
use Rattle.fx_type.specs.declared.kind.FxType.{FxType}
use Rattle.fx_type.specs.FxType.{IsType, is_signed, width_of}
use Rattle.fx_type.specs.FullType.{IsFullProduct}
use Rattle.dg_model.specs.declared.diagram.Diagram.{Diagram}
use Rattle.dg_model.specs.declared.resolved.Resolved.{Resolved}
use Rattle.dg_model.specs.Attributes.{attributes_of}
use Rattle.hw_net.specs.Circuit.{Circuit}
use Rattle.hw_net.specs.Netlist.{HasWord}
use Rattle.hw_sched.specs.Slots.{Timing, Operation as Shared, shared_operations, kind_of, slot_of, unit_of}
use Rattle.hw_sched.specs.Laws.{IsOperation as IsSharedAt}
use Rattle.hw_sched.specs.Scheduled.{IsScheduled}
use Rattle.hw_share.specs.declared.operation.Operation.{Operation}
use Rattle.hw_share.specs.Operations.{CanShare}

-- an operation has the frame of its block, its slot and its multiplier, and nets of its operands'
-- types, whose product has a type
pub record IsMade (diagram : Diagram) (plan : Resolved) (timing : Timing) (net : Circuit)
    (number : ℕ) (o : Shared) (one : Operation) : Type 0 where
  pub frame : one.frame
      ≡ record {
        period = (kind_of diagram (attributes_of diagram) timing o).period;
        latency = (kind_of diagram (attributes_of diagram) timing o).lat;
      }
  pub slot : one.slot ≡ slot_of diagram (attributes_of diagram) plan timing number o
  pub unit : one.unit ≡ unit_of diagram (attributes_of diagram) plan timing number o
  pub left : HasWord net.nets one.left
      (width_of (kind_of diagram (attributes_of diagram) timing o).left)
      (is_signed (kind_of diagram (attributes_of diagram) timing o).left)
  pub right : HasWord net.nets one.right
      (width_of (kind_of diagram (attributes_of diagram) timing o).right)
      (is_signed (kind_of diagram (attributes_of diagram) timing o).right)
  pub left_type : IsType (kind_of diagram (attributes_of diagram) timing o).left
  pub right_type : IsType (kind_of diagram (attributes_of diagram) timing o).right
  pub full : FxType
  pub is_full : IsFullProduct (kind_of diagram (attributes_of diagram) timing o).left
      (kind_of diagram (attributes_of diagram) timing o).right full

pub record AreMade (diagram : Diagram) (plan : Resolved) (timing : Timing) (net : Circuit)
    (operations : List Operation) : Type 0 where
  pub size : length operations ≡ length (shared_operations diagram (attributes_of diagram) plan)
  pub each : (number : ℕ) (o : Shared) (one : Operation)
      → IsSharedAt diagram (attributes_of diagram) plan number o
      → slice_get operations number ≡ Some one → IsMade diagram plan timing net number o one

abbrev pub OperationsCanShare : Type 0
OperationsCanShare =
    (diagram : Diagram) (plan : Resolved) (timing : Timing) (net : Circuit)
    (operations : List Operation) → IsScheduled diagram plan timing
    → net.cycles ≡ plan.cycles → AreMade diagram plan timing net operations
    → CanShare net operations
