use Rattle.std.proofs.Common.{inl, inr}
use Rattle.std.proofs.lemmas.Result.{err_from_is_err_and}
use Rattle.dg_model.specs.Checked.{BreaksRule}
use Rattle.dg_model.specs.Dimension.{BreaksDimension}
use Rattle.dg_model.specs.TypeRule.{BreaksType}
use Rattle.dg_model.proofs.Refusals.{refused_as}
use Rattle.dg_rules.proofs.checking.propagation.Goals as goal

pub returns-in_err-widths-clause-broken : goal.returns-in_err-widths-clause-broken
returns-in_err-widths-clause-broken c =
    let p = err_from_is_err_and c.from_residual.result c.from_residual.ensures.1 in
    rw (p.1, p.2) (refused_as (BreaksDimension c.args.diagram.now) (BreaksRule c.args.diagram.now) c.in_err-widths.field-0.0 (λ fault broken. inl broken) c.in_err-widths.ensures.refused)

pub returns-in_err-typed-clause-broken : goal.returns-in_err-typed-clause-broken
returns-in_err-typed-clause-broken c =
    let p = err_from_is_err_and c.from_residual-in_err-typed.result c.from_residual-in_err-typed.ensures.1 in
    rw (p.1, p.2) (refused_as (BreaksType c.args.diagram.now)
    (BreaksRule c.args.diagram.now) c.in_err-typed.field-0.0
    (λ fault broken. inr (inl (record { dimensions = c.in_ok-widths.ensures.kept; types = broken })))
    c.in_err-typed.ensures.refused)

pub timing_of-requires : goal.timing_of-requires
timing_of-requires c = record { wired = c.requires; dimensions = c.in_ok-widths.ensures.kept; types = c.in_ok-typed.ensures.kept }

pub returns-in-Ok : goal.returns-in-Ok
returns-in-Ok c = record {
  checked = c.in-Ok.ensures.checked;
  propagated = record {
    widths = c.in_ok-widths.ensures.widths;
    types = c.in_ok-typed.ensures.results;
    params = c.in_ok-typed.ensures.params;
    periods = c.in-Ok.ensures.periods;
    order = c.in-Ok.ensures.order;
  };
  broken = tt;
}

pub returns-in-Err : goal.returns-in-Err
returns-in-Err c = record { checked = tt; propagated = tt; broken = c.in-Err.ensures.broken }
