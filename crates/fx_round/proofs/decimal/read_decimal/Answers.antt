use Rattle.std.proofs.Common.{◌≡◌, subst, rules}
use Rattle.std.specs.Prelude.{codes}
use Rattle.fx_round.specs.DecimalText.{IsNumeral}
use Rattle.fx_round.proofs.NumeralForms.{true_is_none, false_is_none, long_iff}
use Rattle.fx_round.proofs.decimal.read_decimal.Goals as goal

pub returns-then-eq-clause-too_long : goal.returns-then-eq-clause-too_long
returns-then-eq-clause-too_long c =
    let is : c.args.text.now ≡ codes "true" = search rules in
    (λ h. cc, λ long. absurd (true_is_none (subst IsNumeral is long.numeral)))

pub returns-then-eq-2-clause-too_long : goal.returns-then-eq-2-clause-too_long
returns-then-eq-2-clause-too_long c =
    let is : c.args.text.now ≡ codes "false" = search rules in
    (λ h. cc, λ long. absurd (false_is_none (subst IsNumeral is long.numeral)))

pub returns-else-eq-2-clause-too_long : goal.returns-else-eq-2-clause-too_long
returns-else-eq-2-clause-too_long c = long_iff c.args.text.now c.read_number.result c.read_number.ensures
