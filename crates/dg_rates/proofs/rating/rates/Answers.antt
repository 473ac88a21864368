use Rattle.std.proofs.Common.{◌≡◌, List, inl, inr, length, map, ap, subst, ◌∙◌}
use Rattle.std.specs.Prelude.{codes}
use Rattle.std.proofs.lemmas.List.{length-map}
use Rattle.std.proofs.lemmas.Result.{err_from_is_err_and}
use Rattle.dg_waves.specs.Rounds.{after_rounds}
use Rattle.dg_model.specs.declared.fault.Shown.TheVariants.{Word}
use Rattle.dg_model.specs.declared.rule.Rule.{Rule}
use Rattle.dg_model.specs.Faults.{AllKeep, BreaksAt}
use Rattle.dg_model.specs.Periods.{Period, next_periods, or_one, periods_of}
use Rattle.dg_model.specs.Rate.{BreaksRate, KeepsDeclared, KeepsPeriods, shown_periods}
use Rattle.dg_rates.proofs.BasePeriods.{all_above}
use Rattle.dg_model.proofs.Propagation.{length_periods}
use Rattle.dg_model.proofs.Refusals.{refused_as}
use Rattle.dg_rates.proofs.rating.rates.Goals as goal

pub base_period-base-requires : goal.base_period-base-requires
base_period-base-requires c = all_above c.args.diagram.now c.requires

pub returns-in_err-first-clause-refused : goal.returns-in_err-first-clause-refused
returns-in_err-first-clause-refused c =
    let diagram = c.args.diagram.now in
    let p = err_from_is_err_and c.from_residual.result c.from_residual.ensures.1 in
    rw (p.1, p.2)
    (refused_as (BreaksAt diagram Rule.Rate (KeepsDeclared diagram) (λ place block. Word (codes "declared")))
    (BreaksRate diagram) c.in_err-first.field-0.0 (λ fault broken. inl broken) c.in_err-first.ensures.refused)

pub check_periods-requires-clause-periods : goal.check_periods-requires-clause-periods
check_periods-requires-clause-periods c =
    let diagram = c.args.diagram.now in
    let same : c.as_slice.result.now ≡ periods_of diagram =
    c.as_slice.ensures ∙ c.in-Ok.ensures ∙ ap (λ first. map or_one (after_rounds (next_periods diagram) (length diagram.blocks) first)) c.in_ok-first.ensures.known in
    ap length same ∙ length_periods diagram

pub returns-in-Ok-check_periods-clause-kept : goal.returns-in-Ok-check_periods-clause-kept
returns-in-Ok-check_periods-clause-kept c =
    let diagram = c.args.diagram.now in
    let same : c.as_slice.result.now ≡ periods_of diagram =
    c.as_slice.ensures ∙ c.in-Ok.ensures ∙ ap (λ first. map or_one (after_rounds (next_periods diagram) (length diagram.blocks) first)) c.in_ok-first.ensures.known in
    record {
      declared = c.in_ok-first.ensures.kept;
      periods = subst (λ (periods : List Period). AllKeep diagram (KeepsPeriods diagram periods)) same c.in-Ok-check_periods.ensures.kept;
    }

pub returns-in-Ok-check_periods-clause-periods : goal.returns-in-Ok-check_periods-clause-periods
returns-in-Ok-check_periods-clause-periods c =
    let diagram = c.args.diagram.now in
    c.in-Ok.ensures ∙ ap (λ first. map or_one (after_rounds (next_periods diagram) (length diagram.blocks) first)) c.in_ok-first.ensures.known

pub returns-in-Err-check_periods-clause-refused : goal.returns-in-Err-check_periods-clause-refused
returns-in-Err-check_periods-clause-refused c =
    let diagram = c.args.diagram.now in
    let same : c.as_slice.result.now ≡ periods_of diagram =
    c.as_slice.ensures ∙ c.in-Ok.ensures ∙ ap (λ first. map or_one (after_rounds (next_periods diagram) (length diagram.blocks) first)) c.in_ok-first.ensures.known in
    refused_as (BreaksAt diagram Rule.Rate (KeepsPeriods diagram c.as_slice.result.now) (shown_periods diagram c.as_slice.result.now)) (BreaksRate diagram) c.in-Err-check_periods.fault
    (λ fault broken. inr (record {
      declared = c.in_ok-first.ensures.kept;
      periods = subst (λ (periods : List Period). BreaksAt diagram Rule.Rate (KeepsPeriods diagram periods) (shown_periods diagram periods) fault) same broken;
    }))
    c.in-Err-check_periods.ensures.refused

pub periods-requires-clause-first_size : goal.periods-requires-clause-first_size
periods-requires-clause-first_size c = ap length c.in_ok-first.ensures.known ∙ length-map c.args.diagram.now.blocks _
