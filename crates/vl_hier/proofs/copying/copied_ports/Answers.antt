use Rattle.std.proofs.Common.{◌∙◌, take}
use Rattle.std.proofs.lemmas.List.{map-id, take_all}
use Rattle.vl_ast.specs.declared.modules.Port.{Port}
use Rattle.vl_ast.proofs.Listings.{holds-as, one-held}
use Rattle.vl_hier.proofs.copying.copied_ports.Goals as goal

pub loop-port-init : goal.loop-port-init
loop-port-init c = c.begin-out.ensures

pub loop-port-preserved : goal.loop-port-preserved
loop-port-preserved c =
    one-held c.args.ports.now c.loop-port.port-index c.port-item.result c.loop-port-test.true c.port-item.is (λ (x : Port). x) c.loop-port.invariant (c.put.ensures _ c.copied_port.ensures)

pub returns : goal.returns
returns c =
    let i = c.loop-port.port-index in
    let all = c.args.ports.now in
    c.finish.ensures all (holds-as (map-id (take i all) ∙ take_all i all c.loop-port-test.false) c.loop-port.invariant)
