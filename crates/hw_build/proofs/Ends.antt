-- An end of a block, as a chain is asked for it by the times of a schedule, is offered what it is to be offered.
use Rattle.std.proofs.Common.{◌≡◌, ℕ, ◌+◌, ◌<◌, ◌≤◌, true, ℤ, length, Option, Some, None, subst, refl, arith}
use Rattle.std.specs.Prelude.{◌^◌, is_some, slice_get}
use Rattle.dg_model.specs.declared.diagram.Diagram.{Diagram}
use Rattle.dg_model.specs.declared.diagram.Block.{Block}
use Rattle.dg_model.specs.declared.nested.Target.{Target}
use Rattle.dg_model.specs.Attributes.{attributes_of}
use Rattle.dg_model.specs.Solves.{shown_ports}
use Rattle.hw_net.specs.Circuit.{Circuit}
use Rattle.hw_net.specs.Growing.{Extends}
use Rattle.hw_lines.specs.Chain.{source_of, reader_of, IsUse, IsAnswer}
use Rattle.hw_shows.specs.Timing.{Timing, IsEdgeInTime}
use Rattle.hw_shows.specs.Timed.{lag_into, Feeds, IsInTime, IsTimed}
use Rattle.hw_build.specs.Places.{Places}
use Rattle.hw_build.specs.inner.Facts.{IsOfferedBy}
use Rattle.hw_build.specs.inner.Lines.{frame_behind, use_into}
use Rattle.hw_build.proofs.Calls.{plain_use, late_use}
use Rattle.hw_build.proofs.Lines.{plain_offered, late_offered}
use Rattle.hw_shows.proofs.Delays.{some_period}

-- the base samples that registers add
abbrev pub added : Option ℕ → ℕ
added None = 0
added (Some lag) = lag

module _ (diagram : Diagram) (timing : Timing) (places : Places)
    (timed : IsTimed diagram (attributes_of diagram) timing) (block : ℕ) (b : Block) (target : Target) (from p : ℕ)
    (at : slice_get diagram.blocks block ≡ Some b) (showing : 1 ≤ shown_ports b.kind b.outputs)
    (feeds : Feeds diagram block b target from) (is : (attributes_of diagram).period_at from ≡ Some p)
  where
    pub end : IsInTime diagram (attributes_of diagram) timing block b target from p
    end = timed.edges block b target from p at showing feeds is

    pub own_some : 0 < end.own
    own_some = some_period end.own timing.cycles (timing.ready block) (timed.ready block end.own end.period)

    pub source_some : 0 < p
    source_some = some_period p timing.cycles (timing.ready from) (timed.ready from p is)

    in_time_by : (lag : Option ℕ) → lag_into diagram (attributes_of diagram) block b target p ≡ lag → IsEdgeInTime timing from p block end.own lag
    in_time_by lag e = subst (IsEdgeInTime timing from p block end.own) e end.edge

    -- the use that a chain is asked for
    pub end_use : (lag : Option ℕ) → lag_into diagram (attributes_of diagram) block b target p ≡ lag
        → (hub : ℕ) (kept : ℤ) → end.own ≤ 4096 → timing.latency block + added lag < 2 ^ 62
        → IsUse (source_of hub (frame_behind timing p from) kept (is_some lag))
        (use_into timing from p block end.own lag)
    end_use None e hub kept short early = plain_use timing from block p end.own hub kept own_some short (in_time_by None e) (omega (arith, early))
    end_use (Some lag) e hub kept short early = late_use timing from block p end.own hub kept own_some short lag (in_time_by (Some lag) e) early

    -- its answer is what the end is offered
    pub end_offered : (closed hubs : ℕ) (before after : Circuit) → hubs ≤ length before.nets → Extends before after
        → before.cycles ≡ timing.cycles → (lag : Option ℕ)
        → lag_into diagram (attributes_of diagram) block b target p ≡ lag
        → (hub number : ℕ) (kept first : ℤ) → (is_some lag ≡ true → kept ≡ first)
        → IsAnswer before after (source_of hub (frame_behind timing p from) kept (is_some lag))
        (reader_of (source_of hub (frame_behind timing p from) kept (is_some lag))
        (use_into timing from p block end.own lag)) number
        → IsOfferedBy diagram timing places closed hubs after block b target from first hub number
    end_offered closed hubs before after small grown cycles None e hub number kept first same answer =
        plain_offered closed hubs before after small grown timing cycles from block p end.own hub number
        ((attributes_of diagram).period_at from) ((attributes_of diagram).period_at block)
        (lag_into diagram (attributes_of diagram) block b target) is end.period
        kept first e (in_time_by None e) own_some answer
    end_offered closed hubs before after small grown cycles (Some lag) e hub number kept first same answer =
        late_offered closed hubs before after small grown timing cycles from block p end.own hub number
        ((attributes_of diagram).period_at from) ((attributes_of diagram).period_at block)
        (lag_into diagram (attributes_of diagram) block b target) is end.period
        lag first e (in_time_by (Some lag) e) source_some
        (subst (λ (v : ℤ). IsAnswer before after (source_of hub (frame_behind timing p from) v true)
        (reader_of (source_of hub (frame_behind timing p from) v true)
        (use_into timing from p block end.own (Some lag))) number) (same refl) answer)
