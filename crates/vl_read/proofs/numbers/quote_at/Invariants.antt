use Rattle.std.proofs.Common.{◌≡◌, ◌+◌, drop}
use Rattle.vl_read.specs.inner.Lexemes.{quote_place}
use Rattle.vl_read.proofs.numbers.quote_at.Given as goal

abbrev pub invariant-loop-i : goal.invariant-loop-i
invariant-loop-i l = l.i + quote_place (drop l.i l.bytes) ≡ quote_place l.bytes
