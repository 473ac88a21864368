use Rattle.std.proofs.Common.{◌≡◌, ◌-◌, ℕ, IfOk, subst}
use Rattle.vl_emit.specs.Names.{Wire}
use Rattle.vl_emit.specs.inner.Operators.{test_of}
use Rattle.vl_emit.specs.inner.Ready.{slot_in}
use Rattle.vl_emit.proofs.conditions.adding.Goals as goal

pub slot_test-last-requires : goal.slot_test-last-requires
slot_test-last-requires c = c.requires.frame

pub operand-requires : goal.operand-requires
operand-requires c = record { is = c.requires.frame.is; there = c.requires.enable }

pub test_of-test-requires : goal.test_of-test-requires
test_of-test-requires c = c.operand.ensures.word

pub returns : goal.returns
returns c =
    let last = subst (λ (clocks : ℕ). IfOk c.slot_test-last.result (λ e. e ≡ slot_in c.args.source c.args.frame (clocks - 1))) c.clocks.ensures c.slot_test-last.ensures in
    let test = subst (λ (w : Wire). IfOk c.test_of-test.result (λ e. e ≡ test_of w)) c.operand.ensures.wire c.test_of-test.ensures in
    c.with_enable.ensures _ (c.binary.ensures _ _ last test)
