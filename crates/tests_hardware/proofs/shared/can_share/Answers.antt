use Rattle.std.proofs.Common.{rules, ◌≡◌, true, arith, below_more}
use Rattle.tests_hardware.proofs.TestOperations.{shared-of}
use Rattle.tests_hardware.proofs.shared.can_share.Goals as goal

pub loop-j-preserved : goal.loop-j-preserved
loop-j-preserved c =
    let is : c.is_apart.result ≡ true = search rules in
    below_more _ _ c.loop-j.invariant (c.is_apart.ensures is)

pub returns : goal.returns
returns c =
    let are : c.are_operations.result ≡ true = search rules in
    λ used. shared-of c.args.net.now c.args.operations.now c.in_ok-count.count (c.are_operations.ensures are)
    (λ i h. c.loop-j.invariant i (omega (arith, h, c.loop-j-test.false)))
    (c.are_used.ensures used) c.in_ok-count.ensures
