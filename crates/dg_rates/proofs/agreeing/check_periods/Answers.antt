use Rattle.std.proofs.Common.{◌≡◌, ◌<◌, List, ℕ, Some, None, length, sym, subst, ◌∙◌}
use Rattle.std.specs.Prelude.{slice_get, All}
use Rattle.dg_model.specs.Periods.{drivers_of, period_at, sources_of}
use Rattle.dg_model.specs.Rate.{KeepsPeriods}
use Rattle.dg_rates.proofs.Agreement.{all_asked, breaks_periods, found_is, some_source}
use Rattle.dg_rates.proofs.FirstFault.{keep_more, keep_all, read_at}
use Rattle.dg_rates.proofs.agreeing.check_periods.Goals as goal
use Rattle.dg_rates.proofs.agreeing.check_periods.Goals.{After-sources_of}

-- the block stands at the place, and these drive it
stands : (c : After-sources_of) → slice_get c.args.diagram.now.blocks c.loop-place.place ≡ Some c.block-item.result
stands c = read_at c.args.diagram.now.blocks c.loop-place.place c.block-item.result (rw c.as_slice-block-items.ensures at c.loop-place-test.true) (rw c.as_slice-block-items.ensures at c.block-item.is)

driven : (c : After-sources_of) → c.sources_of.result.now ≡ sources_of c.args.diagram.now c.loop-place.place c.block-item.result
driven c = c.sources_of.ensures.value ∙ c.requires.sources.row c.loop-place.place c.block-item.result (stands c)

pub asked_of-asked-requires : goal.asked_of-asked-requires
asked_of-asked-requires c = λ some.
    subst (λ (xs : List ℕ). 0 < length xs) (sym (driven (goal.at.asked_of-asked-requires c).After-sources_of))
    (some_source (drivers_of c.args.diagram.now c.loop-place.place) c.block-item.result.enable some)

pub disagreeing-requires : goal.disagreeing-requires
disagreeing-requires c =
    let periods = c.args.periods.now in
    subst (All (λ (source : ℕ). source < length periods)) (sym c.asked_of-asked.ensures)
    (all_asked (λ source. source < length periods) (period_at periods c.loop-place.place) c.block-item.result.enable c.sources_of.result.now
    (subst (λ (count : ℕ). All (λ (source : ℕ). source < count) c.sources_of.result.now) (c.requires.size ∙ sym c.requires.periods) c.sources_of.ensures.there))

pub returns-in-Some-clause-refused : goal.returns-in-Some-clause-refused
returns-in-Some-clause-refused c =
    let point = (goal.at.returns-in-Some-clause-refused c).After-sources_of in
    let diagram = c.args.diagram.now in
    let periods = c.args.periods.now in
    let place = c.loop-place.place in
    let block = c.block-item.result in
    breaks_periods diagram periods place block c.in-Some.source c.in_ok-fault.fault (stands point)
    (found_is diagram periods place block c.sources_of.result.now c.joins_periods.result c.asked_of-asked.result.now
    (Some c.in-Some.source)
    (driven point) c.joins_periods.ensures c.asked_of-asked.ensures c.in-Some.ensures.first)
    c.loop-place.invariant c.in_ok-fault.ensures

pub loop-place-preserved : goal.loop-place-preserved
loop-place-preserved c =
    let point = (goal.at.loop-place-preserved c).After-sources_of in
    let diagram = c.args.diagram.now in
    let periods = c.args.periods.now in
    let place = c.loop-place.place in
    let block = c.block-item.result in
    keep_more diagram (KeepsPeriods diagram periods) place block (stands point)
    (found_is diagram periods place block c.sources_of.result.now c.joins_periods.result c.asked_of-asked.result.now
    None (driven point) c.joins_periods.ensures c.asked_of-asked.ensures
    (sym c.in_default.is ∙ c.disagreeing.ensures.first))
    c.loop-place.invariant

pub returns-clause-kept : goal.returns-clause-kept
returns-clause-kept c =
    let diagram = c.args.diagram.now in
    keep_all diagram (KeepsPeriods diagram c.args.periods.now) c.loop-place.place (rw c.as_slice-block-items.ensures at c.loop-place-test.false) c.loop-place.invariant
