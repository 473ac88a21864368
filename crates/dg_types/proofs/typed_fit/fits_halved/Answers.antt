use Rattle.std.proofs.Common.{arith}
use Rattle.dg_types.proofs.FractionRanges.{halved_up, halved_down, halved_far}
use Rattle.dg_types.proofs.typed_fit.fits_halved.Goals as goal
use Rattle.dg_types.proofs.typed_fit.fits_halved.Goals.{then-fraction, else-fraction}

pub returns-in_default : goal.returns-in_default
returns-in_default c =
    let f = c.args.fraction in
    halved_far f.negative f.over f.under c.args.bits c.args.by f.over_some (omega (arith, f.over_few, f.under_few, c.in_default.ensures))

pub returns : goal.returns
returns c =
    let f = c.args.fraction in
    elim c.if-fraction.branch [
      | then-fraction w ↦ rw (c.is_below.ensures, c.in-Some.ensures, w.if-fraction.true) (halved_down f.over f.under c.args.bits c.args.by c.if-fraction.number f.over_some w.number-is)
      | else-fraction w ↦ rw (c.is_below.ensures, c.in-Some.ensures, w.if-fraction.false) (halved_up f.over f.under c.args.bits c.args.by c.if-fraction.number w.number-is)
    ]
