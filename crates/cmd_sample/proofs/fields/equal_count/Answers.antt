use Rattle.std.proofs.Common.{◌+◌, ◌∙◌, sym, arith}
use Rattle.cmd_sample.specs.Summary.{equal_in}
use Rattle.cmd_sample.proofs.Texts.{sum_more}
use Rattle.cmd_sample.proofs.fields.equal_count.Goals as goal

pub loop-sample-preserved : goal.loop-sample-preserved
loop-sample-preserved c =
    let few = c.equal_in-equal.ensures.few in
    let before = c.loop-sample.invariant.1 in
    ((λ i. c.loop-sample.invariant.0 i + c.equal_in-equal.ensures.is i) ∙ sym (sum_more (equal_in c.args.response.now c.args.told.now) c.loop-sample.sample), omega (arith, few, before))
