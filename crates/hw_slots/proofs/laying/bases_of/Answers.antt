use Rattle.std.proofs.Common.{ℕ, get_or, subst, sym}
use Rattle.std.proofs.lemmas.Option.{slice_get-get_or}
use Rattle.hw_slots.specs.declared.operation.Span.{Span}
use Rattle.hw_slots.specs.Answer.{IsShort}
use Rattle.hw_slots.proofs.Totals.{laid_none, laid_more, is_short}
use Rattle.hw_slots.proofs.laying.bases_of.Goals as goal

abbrev none : Span
none = record { start = 0; have = 0 }

pub loop-place-init : goal.loop-place-init
loop-place-init c = laid_none c.args.operations.now c.args.multipliers c.args.periods.now c.new-bases.result

pub loop-place-preserved : goal.loop-place-preserved
loop-place-preserved c =
    let at = slice_get-get_or c.args.periods.now c.loop-place.place none c.loop-place-test.true in
    laid_more c.args.operations.now c.args.multipliers c.args.periods.now c.args.widths.now c.args.levels.now
    c.loop-place.bases c.lay_out.new.bases c.loop-place.place
    (get_or c.args.periods.now c.loop-place.place none) c.get.result c.in_ok-need.need at
    c.requires.widths c.requires.levels c.get.ensures c.in_ok-need.ensures.need c.in_ok-need.ensures.bases c.in_ok-need.ensures.elsewhere c.if-need-have.false c.loop-place.invariant

pub returns-then-need-have-clause-short : goal.returns-then-need-have-clause-short
returns-then-need-have-clause-short c =
    let at = slice_get-get_or c.args.periods.now c.loop-place.place none c.loop-place-test.true in
    let span = get_or c.args.periods.now c.loop-place.place none in
    subst (λ (period : ℕ). IsShort c.args.operations.now c.args.multipliers c.args.periods.now period c.in_ok-need.need span.have) (sym c.in-Ok.ensures.1)
    (is_short c.args.operations.now c.args.multipliers c.args.periods.now c.args.widths.now c.args.levels.now
    c.loop-place.bases c.loop-place.place
    (get_or c.args.periods.now c.loop-place.place none) c.get.result c.in_ok-need.need at
    c.requires.widths c.requires.levels c.get.ensures c.in_ok-need.ensures.need c.if-need-have.true c.loop-place.invariant)
