use Rattle.std.proofs.Common.{List, map, subst}
use Rattle.std.proofs.lemmas.List.{take_all}
use Rattle.vl_ast.specs.declared.designs.Link.{Link}
use Rattle.vl_hier.specs.inner.Index.{IsIndexOf}
use Rattle.vl_hier.proofs.NamePlaces.{next-name}
use Rattle.vl_hier.proofs.index.Index.of_links.Goals as goal

pub loop-place-preserved : goal.loop-place-preserved
loop-place-preserved c =
    next-name (λ (x : Link). x.port) c.args.links.now c.loop-place.place c.index-links-place.result c.loop-place-test.true c.index-links-place.is
    c.loop-place.index c.add.new.self c.bytes.result.now c.bytes.ensures c.in_ok-add.ensures c.loop-place.invariant

pub returns : goal.returns
returns c = subst (λ (xs : List Link). IsIndexOf (map (λ (x : Link). x.port) xs) c.loop-place.index)
    (take_all c.loop-place.place c.args.links.now c.loop-place-test.false)
    c.loop-place.invariant
