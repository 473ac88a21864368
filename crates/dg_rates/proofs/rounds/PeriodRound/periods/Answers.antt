use Rattle.std.proofs.Common.{length, map, ap, ◌∙◌, arith}
use Rattle.std.proofs.lemmas.List.{take_all}
use Rattle.dg_model.specs.Periods.{or_one}
use Rattle.dg_rates.specs.inner.Steps.{all_rests}
use Rattle.dg_rates.proofs.Steps.{rounds_are}
use Rattle.dg_rates.proofs.rounds.PeriodRound.periods.Goals as goal

pub returns : goal.returns
returns c =
    let known = c.as_slice-period-items.result.now in
    let diagram = c.args.diagram.now in
    let round = c.args.self.now in
    c.loop-period.invariant ∙ ap (map or_one)
    (take_all c.loop-period.period-index known (omega (arith, c.loop-period-test.false))
    ∙ c.as_slice-period-items.ensures.value
    ∙ rw (c.in_ok-known.ensures.values, c.as_slice.ensures)
    (rounds_are diagram (all_rests round.blocks.now) round.links.sources
    (length diagram.blocks) c.args.first.items
    (ap all_rests c.requires.blocks) c.requires.sources c.requires.first_size))
