use Rattle.std.proofs.Common.{ap, flat_map}
use Rattle.std.proofs.lemmas.List.{take_all}
use Rattle.vl_ast.specs.declared.designs.Instance.{Instance}
use Rattle.vl_ast.proofs.Listings.{lists-as, none-put, one-more}
use Rattle.vl_hier.specs.Flat.{nets_by}
use Rattle.vl_hier.specs.inner.Tables.{module_by}
use Rattle.vl_hier.proofs.flattening.put_all_nets.Goals as goal

pub loop-one-init : goal.loop-one-init
loop-one-init c = none-put c.args.out.now

pub loop-one-preserved : goal.loop-one-preserved
loop-one-preserved c =
    one-more c.args.all.now c.loop-one.one-index c.one-item.result c.loop-one-test.true c.one-item.is
    (λ (i : Instance). nets_by i.name (module_by c.args.modules.now i.of)) c.loop-one.invariant c.put_nets.ensures

pub returns : goal.returns
returns c = lists-as (ap (flat_map (λ (i : Instance). nets_by i.name (module_by c.args.modules.now i.of))) (take_all c.loop-one.one-index c.args.all.now c.loop-one-test.false)) c.loop-one.invariant
