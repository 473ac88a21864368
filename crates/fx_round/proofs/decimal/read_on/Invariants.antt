use Rattle.std.proofs.Common.{◌≡◌, ℕ, ◌^◌, ◌≤◌, min, take}
use Rattle.std.specs.Str.Parse.{digits_value_after}
use Rattle.fx_round.proofs.decimal.read_on.Given as goal

abbrev pub invariant-loop-byte : goal.invariant-loop-byte
invariant-loop-byte l = record {
  value : (n : ℕ) → l.fn.start ≡ min n (10 ^ 18) → l.number ≡ min (digits_value_after 10 n (take l.byte-index l.digits)) (10 ^ 18);
  bound : l.number ≤ 10 ^ 18;
}
