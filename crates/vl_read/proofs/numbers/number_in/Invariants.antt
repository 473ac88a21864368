use Rattle.std.proofs.Common.{◌≡◌, drop}
use Rattle.vl_read.specs.inner.Lexemes.{number_after}
use Rattle.vl_read.proofs.numbers.number_in.Given as goal

abbrev pub invariant-loop-byte : goal.invariant-loop-byte
invariant-loop-byte l = number_after l.base l.number (drop l.byte-index l.digits) ≡ number_after l.base 0 l.digits
