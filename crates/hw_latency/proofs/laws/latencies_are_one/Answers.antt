use Rattle.std.proofs.Common.{List, subst, arith}
use Rattle.hw_arcs.specs.declared.arc.Arc.{Arc}
use Rattle.hw_arcs.specs.Latencies.{IsFeasible}
use Rattle.hw_latency.proofs.One.{arcs_are_one}
use Rattle.hw_latency.proofs.laws.latencies_are_one.Goals as goal

pub returns : goal.returns
returns c = λ diagram plan lat other place are too.
    let same = arcs_are_one diagram plan are.fed too.fed are.are_fed too.are_fed in
    let back = arcs_are_one diagram plan too.fed are.fed too.are_fed are.are_fed in
    let low = are.least.least other (subst (λ (arcs : List Arc). IsFeasible arcs other) back too.least.feasible) place in
    let high = too.least.least lat (subst (λ (arcs : List Arc). IsFeasible arcs lat) same are.least.feasible) place in
    omega (arith, low, high)
