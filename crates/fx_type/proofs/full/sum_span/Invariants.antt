use Rattle.std.proofs.Common.{take}
use Rattle.fx_type.specs.Span.{IsSpan, sum_of, least_term, greatest_term}
use Rattle.fx_type.proofs.full.sum_span.Given as goal

abbrev pub invariant-loop-subtracted : goal.invariant-loop-subtracted
invariant-loop-subtracted l =
    IsSpan (sum_of (least_term l.frac) (take l.subtracted-index l.terms)) (sum_of (greatest_term l.frac) (take l.subtracted-index l.terms)) l.total
