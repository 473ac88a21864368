use Rattle.std.proofs.Common.{inl, inr}
use Rattle.std.proofs.lemmas.Result.{err_from_is_err_and}
use Rattle.dg_model.specs.Attributes.{attributes_of}
use Rattle.dg_model.specs.Checked.{BreaksRule}
use Rattle.dg_model.specs.Loop.{BreaksLoop}
use Rattle.dg_model.specs.Rate.{BreaksRate}
use Rattle.dg_model.proofs.Refusals.{refused_as}
use Rattle.dg_rules.proofs.checking.timing_of.Goals as goal

pub returns-in_err-periods-clause-broken : goal.returns-in_err-periods-clause-broken
returns-in_err-periods-clause-broken c =
    let p = err_from_is_err_and c.from_residual.result c.from_residual.ensures.1 in
    rw (p.1, p.2) (refused_as (BreaksRate c.args.diagram.now)
    (BreaksRule c.args.diagram.now) c.in_err-periods.field-0.0
    (λ fault broken. inr (inr (inl (record {
      dimensions = c.requires.dimensions;
      types =
          c.requires.types;
      rates = broken;
    })))) c.in_err-periods.ensures.refused)

pub returns-in-Ok : goal.returns-in-Ok
returns-in-Ok c = record {
  checked = record {
    wired = c.requires.wired;
    dimensions = c.requires.dimensions;
    types = c.requires.types;
    rates = c.in_ok-periods.ensures.kept;
    loops = c.in-Ok.ensures.kept;
  };
  periods = c.in_ok-periods.ensures.periods;
  order = c.in-Ok.ensures.order;
  broken = tt;
}

pub returns-in-Err-clause-broken : goal.returns-in-Err-clause-broken
returns-in-Err-clause-broken c =
    let diagram = c.args.diagram.now in
    refused_as (BreaksLoop diagram (attributes_of diagram)) (BreaksRule diagram) c.in-Err.fault
    (λ fault broken. inr (inr (inr (record { dimensions = c.requires.dimensions; types = c.requires.types; rates = c.in_ok-periods.ensures.kept; loops = broken })))) c.in-Err.ensures.broken
