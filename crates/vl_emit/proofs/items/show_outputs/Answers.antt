use Rattle.std.proofs.Common.{◌≡◌, ◌<◌, ℕ, List, IfOk, ap, get_or, length, map, subst, take}
use Rattle.std.proofs.lemmas.List.{take_all}
use Rattle.vl_ast.specs.declared.expressions.Expr.TheVariants.{Name}
use Rattle.vl_ast.specs.declared.modules.ModItem.{ModItem}
use Rattle.vl_ast.proofs.Listings.{lists-as, none-put, one-mapped}
use Rattle.hw_net.specs.declared.netlist.NetPort.{NetPort}
use Rattle.vl_emit.specs.Names.{Wire}
use Rattle.vl_emit.specs.inner.NetItems.{naming_of, output_item}
use Rattle.vl_emit.specs.inner.Ready.{circuit_of}
use Rattle.vl_emit.proofs.items.show_outputs.Goals as goal

pub loop-output-init : goal.loop-output-init
loop-output-init c = none-put c.args.out.now

pub loop-output-preserved : goal.loop-output-preserved
loop-output-preserved c =
    let outs : List NetPort = (circuit_of c.args.source).outputs in
    let i : ℕ = c.loop-output.output-index in
    let x : NetPort = c.output-item.result in
    let f : NetPort → ModItem = output_item (naming_of (circuit_of c.args.source)) in
    let is : x ≡ get_or outs i x = subst (λ (os : List NetPort). x ≡ get_or os i x) c.outputs-output-items.ensures c.output-item.is in
    let below : i < length outs = subst (λ (os : List NetPort). i < length os) c.outputs-output-items.ensures c.loop-output-test.true in
    let value = subst (λ (w : Wire). IfOk c.operand_name-value.result (λ e. e ≡ Name w.name)) c.operand.ensures.wire c.operand_name-value.ensures in
    let name = subst (λ (text : List ℕ). IfOk c.copy-name.result (λ made. made ≡ text)) c.bytes.ensures c.copy-name.ensures in
    one-mapped outs i x below is f c.loop-output.invariant (c.put_assignment.ensures _ _ name value)

pub returns : goal.returns
returns c =
    let i = c.loop-output.output-index in
    let all = subst (λ (os : List NetPort). take i os ≡ os) c.outputs-output-items.ensures (take_all i _ c.loop-output-test.false) in
    lists-as (ap (map (output_item (naming_of (circuit_of c.args.source)))) all) c.loop-output.invariant
