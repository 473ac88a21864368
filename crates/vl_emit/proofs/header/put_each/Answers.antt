use Rattle.std.proofs.Common.{◌≡◌, ◌<◌, ◌∙◌, ◌∷◌, [], if◌then◌else◌, ap, length, map, subst, sym}
use Rattle.std.proofs.lemmas.List.{get_or_default, take_all}
use Rattle.vl_ast.specs.Header.{DataPort, input_port, output_port}
use Rattle.vl_ast.proofs.Listings.{lists-as, none-put, one-mapped}
use Rattle.hw_net.specs.declared.netlist.Net.{Net}
use Rattle.hw_net.specs.declared.netlist.NetPort.{NetPort}
use Rattle.vl_emit.specs.Header.{data_port}
use Rattle.vl_emit.specs.inner.Ready.{port_of}
use Rattle.vl_emit.proofs.Lists.{net-read}
use Rattle.vl_emit.proofs.header.put_each.Goals as goal

pub loop-port-init : goal.loop-port-init
loop-port-init c = none-put c.args.out.now

pub loop-port-preserved : goal.loop-port-preserved
loop-port-preserved c =
    let n = c.args.netlist.now in
    let i = c.loop-port.port-index in
    let port = c.port-item.result in
    let below = c.loop-port-test.true in
    let there : port.net < length n.nets = subst (λ (p : NetPort). p.net < length n.nets) (get_or_default c.args.own.now i _ port below ∙ sym c.port-item.is) (c.requires i below) in
    let net = net-read n.nets _ port.net _ c.nets.ensures c.index-nets-port.is there in
    let width = c.from.ensures ∙ ap (λ (n : Net). n.width) net in
    let same : record { name = c.bytes-name.result.now; width = c.from.result; signed = c.index-nets-port.result.signed; period = c.from-period.result; latency = port.latency } ≡ data_port n port =
    (λ i. record { name = c.bytes-name.ensures i; width = width i; signed = (net i).signed; period = c.from-period.ensures i; latency = port.latency }) in
    one-mapped c.args.own.now i port below c.port-item.is (port_of c.args.input n) c.loop-port.invariant
    (lists-as (ap (λ (d : DataPort). (if c.args.input then input_port d else output_port d) ∷ []) same) c.put_data_port.ensures)

pub returns : goal.returns
returns c = lists-as (ap (map (port_of c.args.input c.args.netlist.now)) (take_all c.loop-port.port-index c.args.own.now c.loop-port-test.false)) c.loop-port.invariant
