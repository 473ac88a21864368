-- When outputs are ready, the latencies that are declared of them, and how many multiplications a
-- module has (own).
use Rattle.std.specs.Prelude.{◌≡◌, ℕ, ◌+◌, ◌*◌, ◌<◌, not, ◌&&◌, if◌then◌else◌, List, [], length, map, filter, Some, slice_get}
use Rattle.std.specs.List.{sum}
use Rattle.math_list.specs.Numbers.{numbers_from}
use Rattle.dg_model.specs.declared.diagram.Diagram.{Diagram}
use Rattle.dg_model.specs.declared.resolved.Resolved.{Resolved}
use Rattle.dg_model.specs.Attributes.{attributes_of}
use Rattle.dg_model.specs.Signals.{Attributes}
use Rattle.hw_arcs.specs.Latencies.{latency_at}
use Rattle.hw_latency.specs.Cone.{is_marked}
use Rattle.hw_latency.specs.Shared.{multiplies, is_shared}
use Rattle.hw_latency.specs.Weight.{samples}
use Rattle.hw_sched.specs.Level.{depth_at}
use Rattle.hw_sched.specs.Slots.{Timing, base_slot, kinds_of, shared_operations, units_of_kind}

-- the clock of its period at which a block's output is ready: 0 where no shared operation stands in
-- its instant cone, else the first slot behind all of its period on a path to it
abbrev pub ready_of : Diagram → Attributes → Resolved → Timing → ℕ → ℕ
ready_of diagram attributes plan timing place =
    if is_marked timing.fed place
    then base_slot diagram attributes plan timing (samples (attributes.period_at place))
    (depth_at timing.depths place) else 0

-- a list has the clock of its period at which each block's output is ready
pub record AreReady (diagram : Diagram) (plan : Resolved) (timing : Timing)
    (ready : List ℕ) : Type 0 where
  pub size : length ready ≡ length diagram.blocks
  pub are : (place : ℕ) → place < length diagram.blocks
      → slice_get ready place ≡ Some (ready_of diagram (attributes_of diagram) plan timing place)

-- the declared latency of a block in clocks, as it stands at a root output
abbrev pub declared_latency : Diagram → Attributes → Resolved → Timing → ℕ → ℕ
declared_latency diagram attributes plan timing place =
    latency_at timing.lat place * plan.cycles + ready_of diagram attributes plan timing place

-- the shared multipliers of all kinds
abbrev pub units_in_all : Diagram → Attributes → Resolved → Timing → ℕ
units_in_all diagram attributes plan timing =
    sum (map (units_of_kind diagram attributes plan timing)
    (kinds_of diagram attributes timing [] (shared_operations diagram attributes plan)))

-- the multiplications that are shared by none: each element of a Product or Gain whose block isn't
-- shared
abbrev pub unshared : Diagram → Attributes → Resolved → ℕ
unshared diagram attributes plan =
    sum (map (λ place. attributes.width_at place 1)
    (filter (λ place. multiplies diagram place
    && not (is_shared diagram attributes plan place))
    (numbers_from 0 (length diagram.blocks))))

-- how many multiplications a module owes
abbrev pub owed : Diagram → Attributes → Resolved → Timing → ℕ
owed diagram attributes plan timing =
    units_in_all diagram attributes plan timing + unshared diagram attributes plan
