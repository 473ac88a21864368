use Rattle.vl_write.proofs.Joins.{AreJoined}
use Rattle.vl_write.proofs.lists.put_list.Given as goal

abbrev pub invariant-loop-part : goal.invariant-loop-part
invariant-loop-part g l = AreJoined l.between g.P.Part.text_of l.parts l.initial.out l.out l.before l.part-index
