-- What registers of an edge add is what the edge makes up for.
use Rattle.std.proofs.Common.{◌≡◌, ℕ, ◌*◌, Bool, true, false, Option, None, Some, ap, sym, ◌∙◌, refl}
use Rattle.std.specs.Prelude.{◌&&◌, not, nat_lt, if◌then◌else◌, is_some, slice_get}
use Rattle.std.proofs.lemmas.Bool.{false≢true}
use Rattle.std.proofs.lemmas.Option.{none-some}
use Rattle.dg_model.specs.declared.diagram.Diagram.{Diagram}
use Rattle.dg_model.specs.declared.diagram.Block.{Block}
use Rattle.dg_model.specs.declared.nested.Target.TheVariants.{Port}
use Rattle.dg_model.specs.Attributes.{attributes_of}
use Rattle.dg_model.specs.Checked.{IsChecked}
use Rattle.dg_model.specs.Hits.{is_slow_to_fast}
use Rattle.dg_model.specs.Instant.{is_now}
use Rattle.dg_model.specs.declared.row.Reading.{Reading}
use Rattle.dg_model.specs.Library.{row_of}
use Rattle.dg_model.specs.Rate.{joins_periods}
use Rattle.dg_model.specs.Wires.{period_into}
use Rattle.hw_latency.specs.Weight.{is_free, is_registered, behind, slack_into}
use Rattle.hw_sched.specs.Laws.{JoinsPeriods}
use Rattle.hw_shows.specs.Timed.{lag_of, lag_into}
use Rattle.hw_build.proofs.Ends.{added}
use Rattle.hw_build.proofs.ScheduleTimes.{free_of_control}

-- by how much an edge is late, if it has registers
abbrev pub lag_by : Bool → ℕ → Option ℕ
lag_by true lag = Some lag
lag_by false lag = None

rate_lag : (delay source : ℕ) (slower b : Bool) → not slower ≡ not b → lag_of Reading.BeforeIfSlower delay None slower source ≡ lag_by (true && not (not b)) (if b then source else 0)
rate_lag delay source true true e = refl
rate_lag delay source false false e = refl
rate_lag delay source true false e = absurd (false≢true e)
rate_lag delay source false true e = absurd (false≢true (sym e))

lag_told : (source own delay : ℕ) (reading : Reading) (enable : Option ℕ) (slower : Bool)
    → (joins_periods reading ≡ false → own ≡ source) → (joins_periods reading ≡ true → enable ≡ None)
    → is_now reading slower ≡ is_now reading (nat_lt own source)
    → lag_of reading delay enable slower source ≡ lag_by (is_free enable && not (is_now reading (nat_lt own source))) (behind reading delay own source)
lag_told source own delay Reading.Now None slower same free now = refl
lag_told source own delay Reading.Now (Some control) slower same free now = refl
lag_told source own delay Reading.Before None slower same free now = ap (λ (p : ℕ). Some (delay * p)) (sym (same refl))
lag_told source own delay Reading.Before (Some control) slower same free now = refl
lag_told source own delay Reading.BeforeIfSlower None slower same free now = rate_lag delay source slower (nat_lt own source) now
lag_told source own delay Reading.BeforeIfSlower (Some control) slower same free now = absurd (none-some control (sym (free refl)))

-- of a line
pub lag_is : (diagram : Diagram) (block : ℕ) (b : Block) (port from from_port source own : ℕ) → IsChecked diagram
    → slice_get diagram.blocks block ≡ Some b
    → JoinsPeriods diagram
    (record { from = from; from_port = from_port; to = block; target = Port port }) b source own
    → lag_into diagram (attributes_of diagram) block b (Port port) source ≡ lag_by (is_registered b own source) (behind (row_of b.kind).timing.reads (row_of b.kind).timing.delay own source)
lag_is diagram block b port from from_port source own checked at joins =
    lag_told source own (row_of b.kind).timing.delay (row_of b.kind).timing.reads b.enable
    (is_slow_to_fast (period_into diagram (attributes_of diagram) block 1)
    ((attributes_of diagram).period_at block)) joins.same
    (free_of_control diagram block b checked.wired at) joins.now

added_by : (b : Bool) (lag : ℕ) → (is_some (lag_by b lag) ≡ b) × (added (lag_by b lag) ≡ (if b then lag else 0))
added_by true lag = (refl, refl)
added_by false lag = (refl, refl)

-- it has registers where it is registered, and these add its slack
pub lag_is_slack : (diagram : Diagram) (block : ℕ) (b : Block) (port from from_port source own : ℕ)
    → IsChecked diagram → slice_get diagram.blocks block ≡ Some b
    → JoinsPeriods diagram
    (record { from = from; from_port = from_port; to = block; target = Port port }) b source own
    → (is_some (lag_into diagram (attributes_of diagram) block b (Port port) source) ≡ is_registered b own source)
    × (added (lag_into diagram (attributes_of diagram) block b (Port port) source)
    ≡ slack_into (is_registered b own source) b own source)
lag_is_slack diagram block b port from from_port source own checked at joins =
    let e = lag_is diagram block b port from from_port source own checked at joins in
    let by = added_by (is_registered b own source) (behind (row_of b.kind).timing.reads (row_of b.kind).timing.delay own source) in
    (ap is_some e ∙ by.0, ap added e ∙ by.1)
