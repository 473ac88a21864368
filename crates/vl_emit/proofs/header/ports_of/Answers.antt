use Rattle.std.proofs.Common.{true, false, ap, map, subst, sym}
use Rattle.vl_ast.proofs.Listings.{both, has-more, lists-as}
use Rattle.vl_emit.specs.inner.Ready.{AreThere, port_of}
use Rattle.vl_emit.proofs.header.ports_of.Goals as goal

pub put_each-requires : goal.put_each-requires
put_each-requires c = subst (AreThere c.args.netlist.now) (sym c.inputs.ensures) c.requires.inputs

pub put_each-requires-2 : goal.put_each-requires-2
put_each-requires-2 c = subst (AreThere c.args.netlist.now) (sym c.outputs.ensures) c.requires.outputs

pub returns : goal.returns
returns c =
    let n = c.args.netlist.now in
    let ins = lists-as (ap (map (port_of true n)) c.inputs.ensures) c.put_each.ensures in
    let outs = lists-as (ap (map (port_of false n)) c.outputs.ensures) c.put_each-2.ensures in
    let put = both c.put_bit_port.ensures (both c.put_bit_port-2.ensures (both c.put_bit_port-3.ensures (both ins (both c.put_bit_port-4.ensures outs)))) in
    has-more c.begin-out.ensures put
