-- What the code finds of a line by its arc is what a chain is asked for.
use Rattle.std.proofs.Common.{◌≡◌, ℕ, ◌+◌, ◌-◌, ◌<◌, ◌≤◌, ℤ, pos, Bool, Option, None, Some, ap, sym, ◌∙◌, subst, refl, arith}
use Rattle.std.specs.Prelude.{◌^◌, is_some, slice_get}
use Rattle.math_num.specs.Word.{IsWord, InWord}
use Rattle.fx_type.specs.declared.kind.FxType.{FxType}
use Rattle.fx_type.specs.FxType.{IsType, InRange, is_signed, width_of}
use Rattle.fx_type.proofs.Ranges.{InRange-zero, type-word, range-word}
use Rattle.dg_model.specs.declared.diagram.Diagram.{Diagram}
use Rattle.dg_model.specs.declared.diagram.Block.{Block}
use Rattle.dg_model.specs.declared.diagram.Edge.{Edge}
use Rattle.dg_model.specs.declared.nested.Target.TheVariants.{Port}
use Rattle.dg_model.specs.declared.resolved.Resolved.{Resolved}
use Rattle.dg_model.specs.Attributes.{attributes_of}
use Rattle.dg_model.specs.Library.{row_of}
use Rattle.dg_model.specs.PlanOf.{stages_at}
use Rattle.dg_model.specs.Solves.{shown_ports}
use Rattle.dg_model.specs.Wires.{driver_of}
use Rattle.hw_latency.specs.Cone.{is_marked}
use Rattle.hw_latency.specs.Laws.{LatenciesAreSmall}
use Rattle.hw_latency.specs.Weight.{is_registered, slack_into, samples, arc_into, arc_from, arc_between}
use Rattle.hw_net.specs.Circuit.{Circuit}
use Rattle.hw_net.specs.Netlist.{HasWord}
use Rattle.hw_lines.specs.declared.source.Use.{Use}
use Rattle.hw_sched.specs.Laws.{LinesAreEdges, EdgesJoinPeriods, PeriodsAreShort}
use Rattle.hw_sched.specs.Scheduled.{IsScheduled}
use Rattle.hw_sched.specs.Slots.{Timing as Times}
use Rattle.hw_shows.specs.Timing.{Timing, latency_after, IsEdgeInTime}
use Rattle.hw_shows.specs.Timed.{lag_into, IsTimed}
use Rattle.hw_build.specs.Places.{Places}
use Rattle.hw_build.specs.Times.{timing_by}
use Rattle.hw_build.specs.inner.Asks.{IsHubNet}
use Rattle.hw_build.specs.inner.Lines.{use_into}
use Rattle.hw_build.proofs.Ends.{end, added}
use Rattle.hw_build.proofs.EdgeLags.{lag_is_slack}
use Rattle.hw_build.proofs.Limits.{little_late}
use Rattle.hw_build.proofs.WantFacts.{lag_into_small}

use_by : (timing : Timing) (from p block own seen : ℕ) (lag : Option ℕ) → seen ≡ timing.latency block + added lag
    → ◌≡◌ {A = Use} (record { shift = seen - latency_after timing p from; period = own })
    (use_into timing from p block own lag)
use_by timing from p block own seen None e =
    let same : seen - latency_after timing p from ≡ timing.latency block - latency_after timing p from =
    omega (arith, e) in ap (λ (n : ℕ). record { shift = n; period = own }) same
use_by timing from p block own seen (Some lag) e = ap (λ (n : ℕ). record { shift = n - latency_after timing p from; period = own }) e

no_later : (timing : Timing) (from p block own : ℕ) (lag : Option ℕ) → IsEdgeInTime timing from p block own lag → latency_after timing p from ≤ timing.latency block + added lag
no_later timing from p block own None edge = let low = edge.behind in omega (arith, low)
no_later timing from p block own (Some lag) edge = let low = edge.behind in omega (arith, low)

-- what a line from a block of a period asks
pub record IsLineAsked (diagram : Diagram) (timing : Timing) (from p block : ℕ) (lag : Option ℕ) (registered : ℕ → Bool) (seen : ℕ) : Type 0 where
  pub own : ℕ
  pub period : (attributes_of diagram).period_at block ≡ Some own
  pub late : latency_after timing p from ≤ seen
  pub near : seen < 2 ^ 62
  pub asked : ◌≡◌ {A = Use} (record { shift = seen - latency_after timing p from; period = own }) (use_into timing from p block own lag)
  pub has : is_some lag ≡ registered own

module _ (lines : LinesAreEdges) (joins : EdgesJoinPeriods) (small : LatenciesAreSmall) (short : PeriodsAreShort)
    (diagram : Diagram) (plan : Resolved) (times : Times) (places : Places) (s : IsScheduled diagram plan times)
    (timed : IsTimed diagram (attributes_of diagram) (timing_by diagram plan times)) where
  pub slack_is : (from p block own : ℕ) (b : Block) → (attributes_of diagram).period_at from ≡ Some p → (attributes_of diagram).period_at block ≡ Some own → slice_get diagram.blocks block ≡ Some b
      → (arc_between diagram (attributes_of diagram) plan times.fed from block).slack ≡ slack_into (is_registered b own p) b own p
  slack_is from p block own b moves period at =
      ap (λ (o : Option ℕ). (arc_from diagram (attributes_of diagram) plan times.fed from block o).slack) moves
      ∙ ap (λ (o : Option ℕ). (arc_into from block (is_marked times.fed from) (stages_at plan from) p (samples o) (slice_get diagram.blocks block)).slack) period
      ∙ ap (λ (o : Option Block). (arc_into from block (is_marked times.fed from) (stages_at plan from) p own o).slack) at

  pub line_asked : (block : ℕ) (b : Block) (port p : ℕ) (edge : Edge) → slice_get diagram.blocks block ≡ Some b
      → (row_of b.kind).parameters → 1 ≤ shown_ports b.kind b.outputs → 1 ≤ port → port ≤ b.inputs
      → driver_of diagram block port ≡ Some edge → (attributes_of diagram).period_at edge.from ≡ Some p
      → IsLineAsked diagram (timing_by diagram plan times) edge.from p block
      (lag_into diagram (attributes_of diagram) block b (Port port) p) (λ own. is_registered b own p)
      ((timing_by diagram plan times).latency block
      + (arc_between diagram (attributes_of diagram) plan times.fed edge.from block).slack)
  line_asked block b port p edge at has showing from to drives moves =
      let number = lines diagram block port edge drives in
      let join = joins diagram number.0 (record { from = edge.from; from_port = edge.from_port; to = block; target = Port port }) b p s.checked number.1 at moves in
      let own : ℕ = join.0 in
      let lag : Option ℕ = lag_into diagram (attributes_of diagram) block b (Port port) p in
      let told = lag_is_slack diagram block b port edge.from edge.from_port p own s.checked at join.1 in
      let slack = slack_is edge.from p block own b moves join.1.period at in
      let seen : (timing_by diagram plan times).latency block
      + (arc_between diagram (attributes_of diagram) plan times.fed edge.from block).slack
      ≡ (timing_by diagram plan times).latency block + added lag =
      ap (λ (n : ℕ). (timing_by diagram plan times).latency block + n) (slack ∙ sym told.1) in
      let in_time = end diagram (timing_by diagram plan times) places timed block b (Port port) edge.from p at showing (edge, from, to, drives, refl) moves in
      let low = no_later (timing_by diagram plan times) edge.from p block in_time.own lag in_time.edge in
      let early = little_late small short diagram plan times s block in
      let few = lag_into_small diagram block b (Port port) p has (short diagram edge.from p s.checked moves) in
      record {
        own = own;
        period = join.1.period;
        late = omega (arith, low, seen);
        near = omega (arith, early, few, seen);
        asked = use_by (timing_by diagram plan times) edge.from p block own
            ((timing_by diagram plan times).latency block
            + (arc_between diagram (attributes_of diagram) plan times.fed edge.from block).slack) lag seen;
        has = told.0;
      }

-- the hub of an element has a word, which has the numbers of its type
pub hub_net : (now : Circuit) (hub : ℕ) (type : FxType) (v : ℤ) → IsType type → InRange type v → HasWord now.nets hub (width_of type) (is_signed type) → IsHubNet now hub v
hub_net now hub type v is range word = record {
  net = word.net;
  is = word.is;
  word = subst (λ (w : ℕ). IsWord w word.net.signed) (sym word.wide) (subst (λ (sg : Bool). IsWord (width_of type) sg) (sym word.sign) (type-word type is));
  first_in = subst (λ (w : ℕ). InWord w word.net.signed v) (sym word.wide) (subst (λ (sg : Bool). InWord (width_of type) sg v) (sym word.sign) (range-word type v range));
}

pub plain_hub : (now : Circuit) (hub : ℕ) (type : FxType) → IsType type → HasWord now.nets hub (width_of type) (is_signed type) → IsHubNet now hub (pos 0)
plain_hub now hub type is word = hub_net now hub type (pos 0) is (InRange-zero type) word
