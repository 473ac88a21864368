use Rattle.std.proofs.Common.{◌≤◌, arith}
use Rattle.dg_types.proofs.FractionRanges.{between, between_far, above, above_far}
use Rattle.dg_types.proofs.typed_fit.fits_doubled.Goals as goal

pub returns-in-Some : goal.returns-in-Some
returns-in-Some c =
    let f = c.args.fraction in
    rw (c.is_below.ensures, c.in-Some.ensures, c.shifted_down-half.ensures) (between f.negative f.over f.under c.args.bits c.args.by c.requires.doubled c.if-by-bits.true)

pub returns-in-None : goal.returns-in-None
returns-in-None c =
    let f = c.args.fraction in
    between_far f.negative f.over f.under c.args.bits c.args.by c.requires.doubled c.if-by-bits.true (omega (arith, f.over_few, f.under_few, c.in-None.ensures))

pub returns-in-Some-shifted_up : goal.returns-in-Some-shifted_up
returns-in-Some-shifted_up c =
    let f = c.args.fraction in
    let few : c.args.bits ≤ c.args.by = omega arith in
    rw (c.is_below-in-Some-shifted_up.ensures, c.in-Some-shifted_up.ensures, c.shifted_down-half-else-by-bits.ensures) (above f.negative f.over f.under c.args.bits c.args.by c.requires.doubled few)

pub returns-in-None-shifted_up : goal.returns-in-None-shifted_up
returns-in-None-shifted_up c =
    let f = c.args.fraction in
    let few : c.args.bits ≤ c.args.by = omega arith in
    above_far f.negative f.over f.under c.args.bits c.args.by c.requires.doubled few (omega (arith, f.over_few, f.under_few, c.in-None-shifted_up.ensures))
