use Rattle.std.proofs.Common.{ap, ◌∙◌, arith}
use Rattle.std.proofs.lemmas.Int.{ints}
use Rattle.dg_model.specs.declared.diagram.Diagram.{Diagram}
use Rattle.hw_latency.proofs.FromArcs.{gaining_found, latencies_found, whole_among}
use Rattle.hw_latency.proofs.latencies.latencies_of.Goals as goal

pub latencies-requires-clause-whole : goal.latencies-requires-clause-whole
latencies-requires-clause-whole c =
    whole_among c.args.checked.now.diagram c.args.checked.now.order c.order.result.now c.as_slice-count.result.now
    c.order.ensures (c.as_slice-count.ensures ∙ ap (λ (d : Diagram). d.blocks) c.diagram.ensures)
    c.keeps_rules.ensures.ordered

pub returns-in-Least-clause-least : goal.returns-in-Least-clause-least
returns-in-Least-clause-least c =
    latencies_found c.args.checked.now.diagram c.args.plan.now c.in_ok-fed.fed.items c.as_slice.result.now
    c.from_vec.result c.in_ok-arcs.arcs.items c.as_slice-2.result.now c.as_slice-count.result.now c.in-Least.lat
    c.in-Least.tight c.in_ok-lat.field-0
    c.in_ok-fed.ensures c.as_slice.ensures.value c.from_vec.ensures c.in_ok-arcs.ensures.is
    c.as_slice-2.ensures.value (c.as_slice-count.ensures ∙ ap (λ (d : Diagram). d.blocks) c.diagram.ensures)
    c.in-Least.is c.in_ok-lat.ensures

pub returns-in-Gains-clause-broken : goal.returns-in-Gains-clause-broken
returns-in-Gains-clause-broken c =
    let gains =
    gaining_found c.args.checked.now.diagram c.args.plan.now c.in_ok-fed.fed.items c.as_slice.result.now c.in_ok-arcs.arcs.items c.as_slice-2.result.now _ c.in-Gains.gaining c.in_ok-lat.field-0
    c.as_slice.ensures.value c.in_ok-arcs.ensures.is c.as_slice-2.ensures.value c.in-Gains.is c.in_ok-lat.ensures in
    record {
      sum = c.in-Gains.gaining.total;
      cycle = record { fed = c.in_ok-fed.fed.items; are_fed = c.in_ok-fed.ensures; gains = gains.cycle; begins = gains.begins };
      total_is = omega (arith, ints, gains.small);
    }
