use Rattle.std.proofs.Common.{List, map, subst}
use Rattle.std.proofs.lemmas.List.{take_all}
use Rattle.vl_ast.specs.declared.designs.Instance.{Instance}
use Rattle.vl_hier.specs.inner.Index.{IsIndexOf}
use Rattle.vl_hier.proofs.NamePlaces.{next-name}
use Rattle.vl_hier.proofs.index.Index.of_instances.Goals as goal

pub loop-place-preserved : goal.loop-place-preserved
loop-place-preserved c =
    next-name (λ (x : Instance). x.name) c.args.instances.now c.loop-place.place c.index-instances-place.result c.loop-place-test.true c.index-instances-place.is
    c.loop-place.index c.add.new.self c.bytes.result.now c.bytes.ensures c.in_ok-add.ensures c.loop-place.invariant

pub returns : goal.returns
returns c = subst (λ (xs : List Instance). IsIndexOf (map (λ (x : Instance). x.name) xs) c.loop-place.index)
    (take_all c.loop-place.place c.args.instances.now c.loop-place-test.false)
    c.loop-place.invariant
