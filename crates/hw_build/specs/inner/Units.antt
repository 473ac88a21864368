-- What the step of shared multipliers owes (own).
use Rattle.std.specs.Prelude.{◌≡◌, ℕ, ◌+◌, ◌<◌, ℤ, Some, slice_get}
use Rattle.dg_model.specs.declared.diagram.Diagram.{Diagram}
use Rattle.dg_model.specs.declared.diagram.Block.{Block}
use Rattle.dg_model.specs.declared.resolved.Resolved.{Resolved}
use Rattle.dg_model.specs.Attributes.{attributes_of}
use Rattle.dg_model.specs.Equation.{StoresEntry}
use Rattle.dg_model.specs.KindRow.{FullRule}
use Rattle.dg_model.specs.Library.{row_of}
use Rattle.hw_net.specs.Circuit.{Circuit}
use Rattle.hw_net.specs.Closed.{frame_start}
use Rattle.hw_net.specs.NetRows.{Rows}
use Rattle.hw_sched.specs.Slots.{Timing as Times, Operation, slot_of, unit_of}
use Rattle.hw_sched.specs.Laws.{IsOperation}
use Rattle.hw_shows.specs.Series.{span_at}
use Rattle.hw_build.specs.Places.{Places}
use Rattle.hw_build.specs.Serving.{Factors, multipliers}
use Rattle.hw_build.specs.Times.{timing_by}
use Rattle.hw_build.specs.inner.Growth.{InLater}

-- a number is that of the second operand at a clock: what the second port is offered, or a
-- coefficient
abbrev pub IsSecondOf : Diagram → Places → Rows → ℕ → ℕ → ℕ → FullRule → ℤ → Type 0
IsSecondOf diagram places rows block element clock FullRule.NoFull v = ⊥
IsSecondOf diagram places rows block element clock (FullRule.FullSum negative accum) v = ⊥
IsSecondOf diagram places rows block element clock (FullRule.FullScaled value param) v =
    StoresEntry value element ((attributes_of diagram).param_at block) v
IsSecondOf diagram places rows block element clock FullRule.FullProduct v =
    v ≡ rows (places.offered block 2 element) clock
IsSecondOf diagram places rows block element clock FullRule.UnionOfTwo v = ⊥
IsSecondOf diagram places rows block element clock FullRule.UnionOfEnds v = ⊥

-- in the slot of an operation its multiplier has the operands
pub record HasFactors (diagram : Diagram) (places : Places) (rows : Rows) (o : Operation)
    (b : Block) (clock left right : ℕ) : Type 0 where
  pub first : rows left clock ≡ rows (places.offered o.block 1 o.element) clock
  pub second : IsSecondOf diagram places rows o.block o.element clock (row_of b.kind).types.full
      (rows right clock)

pub record IsUnitFor (diagram : Diagram) (plan : Resolved) (times : Times) (places : Places)
    (closed hubs : ℕ) (now : Circuit) (number : ℕ) (o : Operation) (b : Block) : Type 0 where
  pub factors : Factors
  pub at : slice_get (multipliers now) (unit_of diagram (attributes_of diagram) plan times number o)
      ≡ Some factors
  pub has : (period : ℕ) → (attributes_of diagram).period_at o.block ≡ Some period
      → InLater closed hubs now
      (λ n rows. (k : ℕ)
      → frame_start (span_at (timing_by diagram plan times) period o.block) k
      + slot_of diagram (attributes_of diagram) plan times number o < n
      → HasFactors diagram places rows o b
      (frame_start (span_at (timing_by diagram plan times) period o.block) k
      + slot_of diagram (attributes_of diagram) plan times number o) factors.left
      factors.right)

pub record HaveUnits (diagram : Diagram) (plan : Resolved) (times : Times) (places : Places)
    (closed hubs : ℕ) (now : Circuit) : Type 0 where
  pub each : (number : ℕ) (o : Operation) (b : Block)
      → IsOperation diagram (attributes_of diagram) plan number o
      → slice_get diagram.blocks o.block ≡ Some b
      → IsUnitFor diagram plan times places closed hubs now number o b
