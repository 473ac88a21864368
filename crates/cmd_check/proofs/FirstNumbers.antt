-- When the first number of a block is shown.
use Rattle.std.proofs.Common.{◌≡◌, ℕ, ◌+◌, ◌*◌, ◌<◌, List, length, get_or, ap, ◌∙◌}
use Rattle.std.proofs.lemmas.Option.{get_or_from_slice_get}
use Rattle.dg_model.specs.declared.diagram.Diagram.{Diagram}
use Rattle.dg_model.specs.declared.resolved.Resolved.{Resolved}
use Rattle.dg_model.specs.Attributes.{attributes_of}
use Rattle.hw_arcs.specs.Latencies.{latency_at}
use Rattle.hw_sched.specs.Ready.{AreReady, ready_of}
use Rattle.hw_sched.specs.Slots.{Timing}
use Rattle.cmd_check.specs.Gathered.{clocks_at}

pub shown_at : (diagram : Diagram) (plan : Resolved) (timing : Timing) (given lat ready : List ℕ) (block cycles clocks sum : ℕ) → block < length diagram.blocks → AreReady diagram plan timing given →
    lat ≡ timing.lat → ready ≡ given → cycles ≡ plan.cycles → clocks ≡ get_or lat block 0 * cycles → sum ≡ clocks + get_or ready block 0 → sum ≡ clocks_at diagram plan timing block
shown_at diagram plan timing given lat ready block cycles clocks sum there are lat_is ready_is cycles_is product sum_is =
    let waits : get_or given block 0 ≡ ready_of diagram (attributes_of diagram) plan timing block =
    get_or_from_slice_get given block (ready_of diagram (attributes_of diagram) plan timing block) 0
    (are.are block there) in
    let frames : clocks ≡ latency_at timing.lat block * plan.cycles = product ∙ ap (λ n. get_or lat block 0 * n) cycles_is ∙ ap (λ (xs : List ℕ). get_or xs block 0 * plan.cycles) lat_is in
    sum_is ∙ ap (λ n. n + get_or ready block 0) frames ∙ ap (λ n. latency_at timing.lat block * plan.cycles + n) (ap (λ (xs : List ℕ). get_or xs block 0) ready_is ∙ waits)
