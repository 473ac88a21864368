use Rattle.std.proofs.Common.{◌∙◌, arith}
use Rattle.std.proofs.lemmas.Grind.{common_steps}
use Rattle.fx_text.proofs.DigitLemmas.{long_more}
use Rattle.fx_text.proofs.digits.read_capped.Goals as goal

pub loop-digit-preserved : goal.loop-digit-preserved
loop-digit-preserved c = record {
  read =
      long_more c.args.digits.now c.loop-digit.digit-index c.loop-digit.value c.saturating_add-value.result (omega arith)
      c.if-not-is_ascii_digit.ensures.cases
      (omega arith)
      ∙ c.loop-digit.invariant.read;
  digits = grind (arith, common_steps);
  fits = omega arith;
}

pub returns : goal.returns
returns c = grind (arith, common_steps)
