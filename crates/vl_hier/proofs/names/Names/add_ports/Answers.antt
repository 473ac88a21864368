use Rattle.std.proofs.Common.{[], ◌∷◌, ◌++◌, ℕ, List, append-nil, flat_map, subst, sym, take}
use Rattle.std.proofs.lemmas.List.{take_all}
use Rattle.vl_ast.specs.declared.modules.Port.{Port}
use Rattle.vl_hier.specs.inner.Names.{AreNames, port_names}
use Rattle.vl_hier.proofs.NetKeys.{grown}
use Rattle.vl_hier.proofs.names.Names.add_ports.Goals as goal

pub loop-port-init : goal.loop-port-init
loop-port-init c = λ names are. subst (λ (ns : List (List ℕ)). AreNames ns c.args.self.now) (sym (append-nil names)) are

pub loop-port-preserved : goal.loop-port-preserved
loop-port-preserved c = λ names are.
    let ports = c.args.ports.now in
    let i = c.loop-port.port-index in
    grown (λ (ns : List (List ℕ)). AreNames ns c.add.new.self) port_names ports i c.port-item.result c.loop-port-test.true c.port-item.is names
    (subst (λ (n : List ℕ). AreNames ((names ++ flat_map port_names (take i ports)) ++ n ∷ []) c.add.new.self) c.bytes.ensures
    (c.in_ok-add.ensures (names ++ flat_map port_names (take i ports)) (c.loop-port.invariant names are)))

pub returns : goal.returns
returns c = λ names are.
    subst (λ (xs : List Port). AreNames (names ++ flat_map port_names xs) c.loop-port.self)
    (take_all c.loop-port.port-index c.args.ports.now c.loop-port-test.false)
    (c.loop-port.invariant names are)
