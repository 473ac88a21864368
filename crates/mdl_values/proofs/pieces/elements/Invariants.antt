use Rattle.std.proofs.Common.{◌≡◌}
use Rattle.mdl_values.specs.Pieces.{with_words, joined, elements_of}
use Rattle.mdl_values.proofs.ElementLemmas.{left, left_size}
use Rattle.mdl_values.proofs.pieces.elements.Given as goal

abbrev pub invariant-loop-rest : goal.invariant-loop-rest
invariant-loop-rest l = with_words l.elements (joined l.separator (left l.separator l.rest)) ≡ elements_of l.text

abbrev pub decreases-loop-rest : goal.decreases-loop-rest
decreases-loop-rest l = left_size l.rest
