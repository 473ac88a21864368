use Rattle.std.proofs.Common.{◌≡◌, ℕ, ◌+◌, ◌-◌, subst, arith, ◌∙◌}
use Rattle.hw_build.specs.inner.HubPlaces.{hub_start}
use Rattle.hw_build.specs.inner.ElementLoop.{Reaches, port_start}
use Rattle.hw_build.proofs.HubNumbers.{block_ends}
use Rattle.dg_model.specs.Solves.{shown_ports}
use Rattle.hw_build.proofs.blocks.put_ports.Goals as goal

pub loop-port-init : goal.loop-port-init
loop-port-init c =
    let same : hub_start c.args.owner.setting.design.checked.now.diagram c.args.owner.block
    ≡ port_start c.args.owner.setting.design.checked.now.diagram c.args.owner.block c.args.owner.one.now 0 =
    omega arith in
    subst (λ (n : ℕ). Reaches c.args.owner.setting c.args.net.now n) same c.requires.before

pub put_port-requires-clause-before : goal.put_port-requires-clause-before
put_port-requires-clause-before c =
    let same : c.loop-port.port ≡ (c.loop-port.port + 1) - 1 = omega arith in
    subst (λ (n : ℕ). Reaches c.args.owner.setting c.loop-port.net (port_start c.args.owner.setting.design.checked.now.diagram c.args.owner.block c.args.owner.one.now n)) same c.loop-port.invariant

pub loop-port-preserved : goal.loop-port-preserved
loop-port-preserved c = c.in_ok-put_port.ensures

pub put_port-requires-clause-other : goal.put_port-requires-clause-other
put_port-requires-clause-other c = c.requires.other

pub put_port-requires-clause-to : goal.put_port-requires-clause-to
put_port-requires-clause-to c =
    let end = c.shown_ports-port-end.ensures in
    omega (arith, end, c.loop-port-test.true)

pub returns : goal.returns
returns c =
    let done : c.loop-port.port ≡ c.shown_ports-port-end.result = omega (arith, c.loop-port-test.false, c.loop-port.auto.port-end) in
    let wide : c.loop-port.port ≡ shown_ports c.args.owner.one.now.kind c.args.owner.one.now.outputs = done ∙ c.shown_ports-port-end.ensures in
    subst (λ (n : ℕ). Reaches c.args.owner.setting c.loop-port.net n)
    (block_ends c.args.owner.setting.design.checked.now.diagram c.args.owner.block c.args.owner.one.now
    c.requires.is c.requires.other)
    (subst (λ (n : ℕ). Reaches c.args.owner.setting c.loop-port.net (port_start c.args.owner.setting.design.checked.now.diagram c.args.owner.block c.args.owner.one.now n)) wide c.loop-port.invariant)

pub put_inputs-requires-clause-is : goal.put_inputs-requires-clause-is
put_inputs-requires-clause-is c = c.requires.is

pub put_inputs-requires-clause-bare : goal.put_inputs-requires-clause-bare
put_inputs-requires-clause-bare c = c.requires.bare

pub put_port-requires-clause-inputs : goal.put_port-requires-clause-inputs
put_port-requires-clause-inputs c = c.in_ok-put_inputs.ensures
