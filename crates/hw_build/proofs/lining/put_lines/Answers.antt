use Rattle.std.proofs.Common.{rules, ◌<◌, length}
use Rattle.std.specs.Prelude.{◌^◌}
use Rattle.dg_tables.specs.Laws.{IsOrdered}
use Rattle.hw_build.specs.inner.DesignTimes.{times_for}
use Rattle.hw_build.proofs.LineNets.{hub_places, hub_words, lines_put}
use Rattle.hw_build.proofs.lining.put_lines.Goals as goal

pub ends_are_lawful-requires : goal.ends_are_lawful-requires
ends_are_lawful-requires c =
    let ordered : IsOrdered c.args.ends.design.checked.now.diagram c.args.ends.design.checked.now.order = record { checked = c.keeps_rules.ensures.checked; ordered = c.keeps_rules.ensures.ordered } in
    let few : length c.args.net.now.nets < 2 ^ 32 = search rules in
    record {
      designed = c.requires.designed;
      hubs = hub_places c.args.ends.design.checked.now.diagram c.args.ends.design.checked.now.order
          c.requires.hubs.0 c.args.net.now c.args.ends.hubs.now c.requires.hubs.1
          c.root_elements_are_listed.ensures.inputs c.operations_prepare.ensures.types ordered few;
    }

pub put_asks-requires-clause-wants : goal.put_asks-requires-clause-wants
put_asks-requires-clause-wants c =
    let ordered : IsOrdered c.args.ends.design.checked.now.diagram c.args.ends.design.checked.now.order = record { checked = c.keeps_rules.ensures.checked; ordered = c.keeps_rules.ensures.ordered } in
    let ends = c.in_ok-gather_controls.ensures c.gather_lines.new.lines (length c.args.ends.design.checked.now.diagram.edges) c.in_ok-gather_lines.ensures in
    ends.allowed c.args.net.now (hub_words c.args.ends.design.checked.now.diagram
    c.args.ends.design.checked.now.order c.requires.hubs.0 c.args.net.now c.args.ends.hubs.now c.requires.hubs.1
    c.root_elements_are_listed.ensures.inputs c.operations_prepare.ensures.types ordered)

pub put_asks-requires-clause-numbered : goal.put_asks-requires-clause-numbered
put_asks-requires-clause-numbered c =
    let ends = c.in_ok-gather_controls.ensures c.gather_lines.new.lines (length c.args.ends.design.checked.now.diagram.edges) c.in_ok-gather_lines.ensures in
    ends.numbered

pub returns : goal.returns
returns c =
    let ends = c.in_ok-gather_controls.ensures c.gather_lines.new.lines (length c.args.ends.design.checked.now.diagram.edges) c.in_ok-gather_lines.ensures in
    lines_put c.args.ends.design.checked.now.diagram c.args.ends.design.checked.now.order
    c.args.ends.design.plan.now (times_for c.args.ends.design) c.args.ends.hubs.now c.requires.hubs.0
    c.args.net.now c.put_asks.new.net c.gather_controls.new.asks.list.items
    c.gather_controls.new.asks.wants.items
    c.gather_lines.new.lines c.gather_controls.new.controls c.in_ok-nets.nets c.ends_are_lawful.ensures
    c.root_elements_are_listed.ensures.inputs c.requires.hubs.1 c.requires.cycles c.requires.inputs ends
    c.in_ok-nets.ensures

pub gather_lines-requires-clause-can : goal.gather_lines-requires-clause-can
gather_lines-requires-clause-can c = record { designed = c.requires.designed; hubs = c.ends_are_lawful.ensures.hubs }

pub gather_controls-requires-clause-can : goal.gather_controls-requires-clause-can
gather_controls-requires-clause-can c = record { designed = c.requires.designed; hubs = c.ends_are_lawful.ensures.hubs }
