use Rattle.std.proofs.Common.{List, ◌++◌, drop}
use Rattle.std.specs.List.{AllZip}
use Rattle.fx_round.specs.DecimalText.{IsDecimal}
use Rattle.fx_type.specs.declared.decimal.Decimal.{Decimal}
use Rattle.mdl_values.proofs.lists.decimals.Given as goal

abbrev pub invariant-loop-element : goal.invariant-loop-element
invariant-loop-element l = (more : List Decimal) → AllZip IsDecimal (drop l.element-index l.texts) more → AllZip IsDecimal l.texts (l.list ++ more)
