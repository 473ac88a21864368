use Rattle.std.proofs.Common.{arith}
use Rattle.std.proofs.lemmas.Result.{on_ok_weaker}
use Rattle.vl_eval.proofs.Merges.{arranged-through}
use Rattle.vl_eval.proofs.arranging.unite_and_sort.Goals as goal

pub rearrange-requires-clause-ordered : goal.rearrange-requires-clause-ordered
rearrange-requires-clause-ordered c = c.in_ok-unite.ensures.ordered

pub rearrange-requires-clause-few : goal.rearrange-requires-clause-few
rearrange-requires-clause-few c = let few = c.in_ok-unite.ensures.few in omega (arith, few, c.requires.few)

pub returns : goal.returns
returns c =
    on_ok_weaker c.rearrange.result (arranged-through c.args.base c.args.built.now c.unite.new.built c.rearrange.new.built c.in_ok-unite.ensures) c.rearrange.ensures
