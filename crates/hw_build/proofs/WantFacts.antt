-- The wants of a schedule's ends may be asked of chains.
use Rattle.std.proofs.Common.{◌≡◌, ℕ, ◌+◌, ◌*◌, ◌<◌, ◌≤◌, ℤ, true, false, Bool, Option, None, Some, ap, sym, ◌∙◌, subst, refl, arith, mul-le-mul_right}
use Rattle.std.specs.Prelude.{◌^◌, is_some, slice_get}
use Rattle.std.proofs.lemmas.Option.{same_Some}
use Rattle.dg_model.specs.declared.diagram.Diagram.{Diagram}
use Rattle.dg_model.specs.declared.diagram.Block.{Block}
use Rattle.dg_model.specs.declared.kind.Kind.{Kind}
use Rattle.dg_model.specs.declared.kind.Kind.TheVariants.{Delay}
use Rattle.dg_model.specs.declared.nested.Target.{Target}
use Rattle.dg_model.specs.declared.nested.Target.TheVariants.{Port, Enable}
use Rattle.dg_model.specs.declared.resolved.Resolved.{Resolved}
use Rattle.dg_model.specs.Attributes.{attributes_of}
use Rattle.dg_model.specs.Hits.{is_slow_to_fast}
use Rattle.dg_model.specs.declared.row.Reading.{Reading}
use Rattle.dg_model.specs.Library.{row_of}
use Rattle.dg_model.specs.Solves.{shown_ports}
use Rattle.dg_model.specs.Wires.{period_into}
use Rattle.hw_latency.specs.Laws.{LatenciesAreSmall}
use Rattle.hw_net.specs.Circuit.{Circuit}
use Rattle.hw_lines.specs.declared.source.Source.{Source}
use Rattle.hw_lines.specs.declared.source.Use.{Use}
use Rattle.hw_lines.specs.Chain.{source_of, IsSource, IsUse}
use Rattle.hw_sched.specs.Laws.{PeriodsAreShort}
use Rattle.hw_sched.specs.Scheduled.{IsScheduled}
use Rattle.hw_sched.specs.Slots.{Timing as Times}
use Rattle.hw_shows.specs.Timing.{Timing, latency_after}
use Rattle.hw_shows.specs.Timed.{lag_of, lag_into, Feeds, IsInTime, IsTimed}
use Rattle.hw_build.specs.declared.wants.Want.{Want}
use Rattle.hw_build.specs.Places.{Places}
use Rattle.hw_build.specs.Times.{timing_by}
use Rattle.hw_build.specs.inner.Asks.{IsEndWant, IsHubNet}
use Rattle.hw_build.specs.inner.Lines.{frame_behind, use_into}
use Rattle.hw_build.specs.inner.Wants.{first_of, source_by, IsWant}
use Rattle.hw_build.proofs.Ends.{end, end_use, added, source_some}
use Rattle.hw_build.proofs.Limits.{little_late, little_behind}
use Rattle.hw_build.proofs.EndOffers.{source_is}

module _ (diagram : Diagram) (timing : Timing) (places : Places) (now : Circuit) (block : ℕ) (b : Block) (target : Target) (from : ℕ) (first : ℤ) (hub : ℕ) where
  pub want_is : (p : ℕ) (want : Want) → IsTimed diagram (attributes_of diagram) timing
      → slice_get diagram.blocks block ≡ Some b → 1 ≤ shown_ports b.kind b.outputs
      → Feeds diagram block b target from → (attributes_of diagram).period_at from ≡ Some p
      → (is : IsEndWant diagram timing block b target from p first hub want) → IsHubNet now hub (first_of want.feed.first) → p ≤ 4096 → is.own ≤ 4096 → latency_after timing p from < 2 ^ 62
      → timing.latency block + added (lag_into diagram (attributes_of diagram) block b target p) < 2 ^ 62 → IsWant now want
  want_is p want timed at showing feeds moves is net short own_short early late =
      let in_time : IsInTime diagram (attributes_of diagram) timing block b target from p = end diagram timing places timed block b target from p at showing feeds moves in
      let lag : Option ℕ = lag_into diagram (attributes_of diagram) block b target p in
      let own : is.own ≡ in_time.own = same_Some is.own in_time.own (sym is.period ∙ in_time.period) in
      let source : Source = source_of hub (frame_behind timing p from) (first_of want.feed.first) (is_some lag) in
      let same : ◌≡◌ {A = Source} (source_by want.feed) source = source_is diagram timing places 0 0 now block b target from first hub p want is in
      let to : ◌≡◌ {A = Use} want.to (use_into timing from p block in_time.own lag) = is.to_is ∙ ap (λ (o : ℕ). use_into timing from p block o lag) own in
      let asked : IsUse source (use_into timing from p block in_time.own lag) =
      end_use diagram timing places timed block b target from p at showing feeds moves lag refl hub
      (first_of want.feed.first) (omega (arith, own_short, own)) late in
      record {
        source = subst (λ (s : Source). IsSource now s) (sym same)
            (record {
              net = net.net;
              is = net.is;
              word = net.word;
              first = net.first_in;
              some =
                  source_some diagram timing places timed block b target from p at showing feeds moves;
              most =
                  short;
              early = early;
            });
        asked = subst (λ (s : Source). IsUse s want.to) (sym same) (subst (λ (u : Use). IsUse source u) (sym to) asked);
      }

-- ---- by a schedule

delay_small : (kind : Kind) → (row_of kind).parameters → (row_of kind).timing.delay ≤ 1024
delay_small (Delay delay initial reset) has = has.0.1
delay_small _ has = omega arith

lag_small : (reading : Reading) (delay : ℕ) (enable : Option ℕ) (slower : Bool) (period : ℕ) → delay ≤ 1024 → period ≤ 4096 → added (lag_of reading delay enable slower period) ≤ 1024 * 4096
lag_small Reading.Now delay enable slower period few short = omega arith
lag_small Reading.Before delay None slower period few short =
    let a : delay * period ≤ 1024 * period = mul-le-mul_right period few in
    omega (arith, a, short)
lag_small Reading.Before delay (Some control) slower period few short = omega arith
lag_small Reading.BeforeIfSlower delay enable true period few short = omega (arith, short)
lag_small Reading.BeforeIfSlower delay enable false period few short = omega arith

pub lag_into_small : (diagram : Diagram) (block : ℕ) (b : Block) (target : Target) (period : ℕ)
    → (row_of b.kind).parameters → period ≤ 4096
    → added (lag_into diagram (attributes_of diagram) block b target period) ≤ 1024 * 4096
lag_into_small diagram block b (Port port) period has short =
    lag_small (row_of b.kind).timing.reads (row_of b.kind).timing.delay b.enable
    (is_slow_to_fast (period_into diagram (attributes_of diagram) block 1)
    ((attributes_of diagram).period_at block)) period (delay_small b.kind has) short
lag_into_small diagram block b Enable period has short = omega arith

module _ (small : LatenciesAreSmall) (short : PeriodsAreShort) (diagram : Diagram) (plan : Resolved) (times : Times)
    (places : Places) (s : IsScheduled diagram plan times)
    (timed : IsTimed diagram (attributes_of diagram) (timing_by diagram plan times)) (now : Circuit) where
  -- each want of an end of the schedule may be asked, where the hub has a word that has what the chain has first
  pub end_may_ask : (block : ℕ) (b : Block) (target : Target) (from p : ℕ) (first : ℤ) (hub : ℕ) (want : Want)
      → slice_get diagram.blocks block ≡ Some b → (row_of b.kind).parameters → 1 ≤ shown_ports b.kind b.outputs
      → Feeds diagram block b target from → (attributes_of diagram).period_at from ≡ Some p
      → IsEndWant diagram (timing_by diagram plan times) block b target from p first hub want → IsHubNet now hub (first_of want.feed.first) → IsWant now want
  end_may_ask block b target from p first hub want at has showing feeds moves is net =
      let wide = short diagram from p s.checked moves in
      let own_wide = short diagram block is.own s.checked is.period in
      let behind = little_behind small short diagram plan times s from p moves in
      let late = little_late small short diagram plan times s block in
      let lag = lag_into_small diagram block b target p has wide in
      want_is diagram (timing_by diagram plan times) places now block b target from first hub p want timed at
      showing feeds moves is net wide own_wide (omega (arith, behind)) (omega (arith, late, lag))
