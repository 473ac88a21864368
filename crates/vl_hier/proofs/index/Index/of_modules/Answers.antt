use Rattle.std.proofs.Common.{List, map, subst}
use Rattle.std.proofs.lemmas.List.{take_all}
use Rattle.vl_ast.specs.declared.modules.Module.{Module}
use Rattle.vl_hier.specs.inner.Index.{IsIndexOf}
use Rattle.vl_hier.proofs.NamePlaces.{next-name}
use Rattle.vl_hier.proofs.index.Index.of_modules.Goals as goal

pub loop-place-preserved : goal.loop-place-preserved
loop-place-preserved c =
    next-name (λ (x : Module). x.name) c.args.modules.now c.loop-place.place c.index-modules-place.result c.loop-place-test.true c.index-modules-place.is
    c.loop-place.index c.add.new.self c.bytes.result.now c.bytes.ensures c.in_ok-add.ensures c.loop-place.invariant

pub returns : goal.returns
returns c = subst (λ (xs : List Module). IsIndexOf (map (λ (x : Module). x.name) xs) c.loop-place.index)
    (take_all c.loop-place.place c.args.modules.now c.loop-place-test.false)
    c.loop-place.invariant
