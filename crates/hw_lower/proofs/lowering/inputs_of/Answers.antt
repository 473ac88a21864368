use Rattle.std.proofs.Common.{◌≡◌, length, arith}
use Rattle.hw_lower.proofs.Arguments.{inputs-more}
use Rattle.hw_lower.proofs.lowering.inputs_of.Goals as goal

pub loop-input-preserved : goal.loop-input-preserved
loop-input-preserved c = inputs-more c.loop-input.plan c.put_alone.new.plan c.args.types.now c.loop-input.input c.put_alone.result c.loop-input.invariant (rw c.word_of.ensures at c.put_alone.ensures)

pub returns : goal.returns
returns c =
    let e : c.loop-input.input ≡ length c.args.types.now = omega (arith, c.loop-input.auto.input-end, c.loop-input-test.false) in
    rw e at c.loop-input.invariant
