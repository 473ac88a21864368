use Rattle.std.proofs.Common.{false, Bool, List, refl, ap, sym, ◌∙◌, slice_index_or}
use Rattle.hw_latency.specs.Weight.{samples}
use Rattle.hw_sched.specs.Answer.{timing_of}
use Rattle.hw_sched.proofs.Outputs.{fed_is}
use Rattle.hw_sched.proofs.readying.ready_at.Goals as goal

pub returns-then-as_slice-place : goal.returns-then-as_slice-place
returns-then-as_slice-place c = λ plan are.
    fed_is c.args.checked.now.diagram plan
    (timing_of c.args.latencies.now c.args.depths.now) c.args.bases.now c.args.place c.from.result
    (slice_index_or c.args.depths.now c.args.place 0) c.at.result are
    (ap (λ (marks : List Bool). slice_index_or marks c.args.place false) (sym c.as_slice.ensures) ∙ c.if-as_slice-place.true)
    (c.from.ensures ∙ c.samples.ensures ∙ ap samples c.period.ensures) refl c.at.ensures
