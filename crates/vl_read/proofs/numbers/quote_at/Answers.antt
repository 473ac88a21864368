use Rattle.std.proofs.Common.{ℕ, arith, rules}
use Rattle.std.specs.Prelude.{◌==◌, not}
use Rattle.std.proofs.lemmas.Bool.Decides.{nat_tests}
use Rattle.std.proofs.lemmas.List.Sums.{prefix_len-drop_all, prefix_len-drop_no, prefix_len-drop_yes}
use Rattle.vl_read.proofs.numbers.quote_at.Goals as goal

pub returns-then-byte-eq39-clause-value : goal.returns-then-byte-eq39-clause-value
returns-then-byte-eq39-clause-value c =
    omega (arith, c.loop-i.invariant, prefix_len-drop_no (λ (byte : ℕ). not (byte == 39)) c.args.bytes.now c.loop-i.i 0 c.loop-i-test.true (search (rules, nat_tests)))

pub loop-i-preserved : goal.loop-i-preserved
loop-i-preserved c =
    omega (arith, c.loop-i.invariant, prefix_len-drop_yes (λ (byte : ℕ). not (byte == 39)) c.args.bytes.now c.loop-i.i 0 c.loop-i-test.true (search (rules, nat_tests)))

pub returns-clause-value : goal.returns-clause-value
returns-clause-value c =
    omega (arith, c.loop-i.invariant, c.loop-i-test.false, c.loop-i.auto.i-end, prefix_len-drop_all (λ (byte : ℕ). not (byte == 39)) c.args.bytes.now c.loop-i.i c.loop-i-test.false)
