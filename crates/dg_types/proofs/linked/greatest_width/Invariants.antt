use Rattle.std.proofs.Common.{◌≡◌, drop, max}
use Rattle.dg_types.specs.inner.Widths.{source_widths}
use Rattle.math_list.specs.Numbers.{greatest}
use Rattle.dg_types.proofs.linked.greatest_width.Given as goal

abbrev pub invariant-loop-source : goal.invariant-loop-source
invariant-loop-source l = max l.most (greatest (source_widths l.values (drop l.source-index l.sources))) ≡ max l.least (greatest (source_widths l.values l.sources))
