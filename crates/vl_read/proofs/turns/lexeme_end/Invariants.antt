use Rattle.vl_read.specs.inner.Turns.{GoOn}
use Rattle.vl_read.proofs.turns.lexeme_end.Given as goal

abbrev pub invariant-loop-end : goal.invariant-loop-end
invariant-loop-end l = GoOn l.mode l.bytes l.start l.end
