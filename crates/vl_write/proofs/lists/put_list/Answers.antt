use Rattle.std.proofs.Common.{refl}
use Rattle.vl_write.proofs.Joins.{all_joined, none-joined, one_more}
use Rattle.vl_write.proofs.Puts.{both}
use Rattle.vl_write.proofs.lists.put_list.Goals as goal

pub loop-part-init : goal.loop-part-init
loop-part-init g c = none-joined c.args.between.now g.P.Part.text_of c.args.parts.now c.args.out.now

pub loop-part-preserved : goal.loop-part-preserved
loop-part-preserved g c =
    one_more c.args.between.now g.P.Part.text_of c.args.parts.now c.loop-part.part-index c.part-item.result
    c.loop-part-test.true c.part-item.is c.loop-part.invariant refl (both c.put.ensures c.spell.ensures)

pub returns : goal.returns
returns g c = all_joined c.args.between.now g.P.Part.text_of c.args.parts.now c.loop-part.part-index c.loop-part.invariant c.loop-part-test.false
