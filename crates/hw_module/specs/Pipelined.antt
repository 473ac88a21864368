-- The pipeline registers of a module: their names, their order and what they show (own; HDL Coder,
-- output pipelines).
use Rattle.std.specs.Prelude.{◌≡◌, ℕ, suc, ◌+◌, ◌*◌, ◌<◌, ◌≤◌, List, length, Some}
use Rattle.fx_type.specs.FxType.{width_of}
use Rattle.dg_model.specs.declared.diagram.Diagram.{Diagram}
use Rattle.dg_model.specs.declared.diagram.Block.{Block}
use Rattle.dg_model.specs.declared.resolved.Resolved.{Resolved}
use Rattle.dg_model.specs.Attributes.{attributes_of}
use Rattle.dg_model.specs.Signals.{Stimulus, Table}
use Rattle.dg_model.specs.Solves.{IsShown}
use Rattle.vl_ast.specs.declared.modules.Module.{Module}
use Rattle.vl_ast.specs.Items.{IsWire, IsRegisterOf, IsReadByAlone, registers}
use Rattle.vl_ast.specs.Runs.{Rows}
use Rattle.vl_ast.specs.Windows.{Shows, Window, AtHits}
use Rattle.hw_arcs.specs.Latencies.{latency_at}
use Rattle.hw_build.specs.Pipelined.{stage_name}
use Rattle.dg_model.specs.PlanOf.{stages_at}
use Rattle.hw_module.specs.Carries.{IsDrivenRun}
use Rattle.hw_sched.specs.Chained.{chained}
use Rattle.hw_sched.specs.Slots.{Timing}

-- the registers of an element, so many: the first takes a wire, each further one the register
-- before it, and each of these is read by no other item
pub record IsPipeline (m : Module) (block element stages : ℕ) : Type 0 where
  pub wire : List ℕ
  pub is_wire : IsWire m wire
  pub first : IsRegisterOf m (stage_name block element 1) wire
  pub wire_alone : IsReadByAlone m wire (stage_name block element 1)
  pub next : (k : ℕ) → 1 ≤ k → k < stages
      → IsRegisterOf m (stage_name block element (suc k)) (stage_name block element k)
  pub alone : (k : ℕ) → 1 ≤ k → k < stages
      → IsReadByAlone m (stage_name block element k) (stage_name block element (suc k))

-- each element of each block with registers behind it has them, and in every run register k shows
-- the entry of hit t from clock (t + lat + k p) F on for a period
pub record Pipelined (m : Module) (diagram : Diagram) (plan : Resolved)
    (timing : Timing) : Type 0 where
  pub there : (block element period : ℕ) (b : Block)
      → IsShown diagram (attributes_of diagram) block b 1 element
      → (attributes_of diagram).period_at block ≡ Some period → 1 ≤ stages_at plan block
      → IsPipeline m block element (stages_at plan block)
  pub shows : (samples : ℕ) (window : Window) (stimulus : Stimulus) (table : Table) (rows : Rows)
      (run : IsDrivenRun m diagram samples window stimulus table rows)
      → (block element k period : ℕ) (b : Block)
      → IsShown diagram (attributes_of diagram) block b 1 element
      → (attributes_of diagram).period_at block ≡ Some period → 1 ≤ k → k ≤ stages_at plan block
      → AtHits period samples
      (λ t. Shows m window run.inputs rows (stage_name block element k)
      (width_of ((attributes_of diagram).type_at block 1)) (table block 1 element t)
      ((t + latency_at timing.lat block + k * period) * plan.cycles)
      ((t + latency_at timing.lat block + (k + 1) * period) * plan.cycles))

-- its registers are no more than those that chains of registers want
abbrev pub HasFewRegisters : Module → Diagram → Resolved → Timing → Type 0
HasFewRegisters m diagram plan timing =
    length (registers m) ≤ chained diagram (attributes_of diagram) plan timing
