use Rattle.std.proofs.Common.{◌≡◌, ◌<◌, Bool, ap, sym, ◌∙◌, arith}
use Rattle.std.specs.Int.{w16}
use Rattle.std.proofs.lemmas.Int.{to_z-of_z}
use Rattle.dg_types.specs.inner.TypeFit.{bits_of}
use Rattle.dg_types.proofs.FracFits.{fits_is, zero_fits, some_negative}
use Rattle.dg_types.proofs.typed_param.fits_at.Goals as goal
use Rattle.dg_types.proofs.typed_param.fits_at.Goals.{then-signed, else-signed}

pub returns-then-decimal-eq0 : goal.returns-then-decimal-eq0
returns-then-decimal-eq0 c = sym (zero_fits c.args.decimal c.args.signed c.args.width c.args.frac c.if-decimal-eq0.true)

pub returns : goal.returns
returns c =
    let some : 0 < c.args.decimal.digits = omega (arith, c.if-decimal-eq0.false) in
    let is = fits_is c.args.decimal c.args.signed c.args.width c.args.frac c.requires.word (some_negative c.args.decimal c.args.signed some c.requires.sign) in
    let frac = to_z-of_z w16 c.args.frac c.ranges.frac in
    let bits : c.from.result ≡ bits_of c.args.signed c.args.width = elim c.if-signed.branch [
      | then-signed w ↦ c.from.ensures ∙ w.bits-is ∙ sym (ap (λ (s : Bool). bits_of s c.args.width) w.if-signed.true)
      | else-signed w ↦ c.from.ensures ∙ w.bits-is ∙ sym (ap (λ (s : Bool). bits_of s c.args.width) w.if-signed.false)
    ] in
    c.fits.ensures ∙ rw (c.fraction_of.ensures.negative, c.fraction_of.ensures.over, c.fraction_of.ensures.under, bits, frac) (sym is)
