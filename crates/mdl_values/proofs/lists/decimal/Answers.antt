use Rattle.std.proofs.Common.{sym, subst, Option}
use Rattle.fx_type.specs.declared.decimal.Decimal.{Decimal}
use Rattle.fx_round.specs.DecimalText.{IsDecimal}
use Rattle.mdl_values.specs.Reads.{Finds}
use Rattle.mdl_values.proofs.DecimalLemmas.{decimal_found}
use Rattle.mdl_values.proofs.lists.decimal.Goals as goal

pub returns : goal.returns
returns c =
    subst (λ (found : Option Decimal). Finds (IsDecimal c.args.text.now) found) (sym c.ok.ensures.value)
    (decimal_found c.args.text.now c.read_decimal.result c.read_decimal.ensures.ok c.read_decimal.ensures.not_a_number c.read_decimal.ensures.too_long)
