use Rattle.std.proofs.Common.{List, subst}
use Rattle.hw_arcs.specs.declared.arc.Arc.{Arc}
use Rattle.hw_arcs.specs.Latencies.{IsFeasible}
use Rattle.hw_latency.specs.Weight.{latency_arcs}
use Rattle.hw_latency.proofs.One.{arcs_are_one}
use Rattle.hw_latency.proofs.laws.latency_cycles_leave_none.Goals as goal

pub returns : goal.returns
returns c = λ diagram plan cycle total lat is feasible.
    c.gaining_cycles_leave_none.ensures (latency_arcs diagram plan is.fed) cycle total lat is.gains
    (subst (λ (arcs : List Arc). IsFeasible arcs lat) (arcs_are_one diagram plan feasible.fed is.fed feasible.are_fed is.are_fed) feasible.feasible)
