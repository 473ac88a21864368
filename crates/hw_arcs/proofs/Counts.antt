-- A test as a count.
use Rattle.std.proofs.Common.{ℕ, Bool, cond}

abbrev pub one_if : Bool → ℕ
one_if b = cond b 1 0
