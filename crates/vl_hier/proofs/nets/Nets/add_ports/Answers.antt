use Rattle.std.proofs.Common.{◌++◌, List, append-nil, flat_map, refl, subst, sym, take}
use Rattle.std.proofs.lemmas.List.{take_all}
use Rattle.vl_ast.specs.declared.modules.Port.{Port}
use Rattle.vl_ast.specs.Nets.{Declared, port_declared as declared_port}
use Rattle.vl_hier.specs.inner.Nets.{AreNets, port_declared}
use Rattle.vl_hier.proofs.NetKeys.{grown}
use Rattle.vl_hier.proofs.nets.Nets.add_ports.Goals as goal

pub loop-port-init : goal.loop-port-init
loop-port-init c = λ declared are. subst (λ (ds : List Declared). AreNets ds c.args.self.now) (sym (append-nil declared)) are

pub loop-port-preserved : goal.loop-port-preserved
loop-port-preserved c = λ declared are.
    let ports = c.args.ports.now in
    let i = c.loop-port.port-index in
    let port = c.port-item.result in
    grown (λ (ds : List Declared). AreNets ds c.add.new.self) port_declared ports i port c.loop-port-test.true c.port-item.is declared
    (c.in_ok-add.ensures (declared ++ flat_map port_declared (take i ports)) (declared_port port) (sym c.bytes.ensures) refl refl (c.loop-port.invariant declared are))

pub returns : goal.returns
returns c = λ declared are.
    subst (λ (ports : List Port). AreNets (declared ++ flat_map port_declared ports) c.loop-port.self)
    (take_all c.loop-port.port-index c.args.ports.now c.loop-port-test.false)
    (c.loop-port.invariant declared are)
