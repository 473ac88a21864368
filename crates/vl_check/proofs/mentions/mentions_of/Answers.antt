use Rattle.std.proofs.Common.{◌++◌, ◌∷◌, [], map, take, length, sym, ap, subst, ◌≤◌, ◌∙◌}
use Rattle.std.specs.List.{flat_map}
use Rattle.std.proofs.lemmas.List.{append-nil, take_all}
use Rattle.std.proofs.lemmas.Result.{IfOk-weaker}
use Rattle.vl_ast.specs.declared.modules.Port.{Port}
use Rattle.vl_ast.specs.Nets.{port_declared, Declares, item_mentions}
use Rattle.vl_check.specs.inner.Mentions.{net_declared, shown}
use Rattle.vl_check.proofs.ExpressionNames.{has-as, has-more, joined-further, mapped-further, none-had}
use Rattle.vl_check.proofs.mentions.mentions_of.Goals as goal

pub loop-port-init : goal.loop-port-init
loop-port-init c = none-had c.new.result c.new.ensures.items

pub loop-port-preserved : goal.loop-port-preserved
loop-port-preserved c =
    let before = map (λ (port : Port). Declares (port_declared port)) (take c.loop-port.port-index c.args.source.now.ports) in
    has-as ((λ i. before ++ Declares (net_declared (c.port_kind.ensures i) (c.bytes.ensures i) c.port-item.result.width c.port-item.result.signed) ∷ [])
    ∙ sym (mapped-further (λ (port : Port). Declares (port_declared port)) c.as_slice-port-items.result.now
    c.args.source.now.ports c.loop-port.port-index c.port-item.result c.as_slice-port-items.ensures
    c.loop-port-test.true c.port-item.is))
    (has-more c.loop-port.invariant c.push_net.ensures)

pub loop-item-init : goal.loop-item-init
loop-item-init c =
    let ports = c.args.source.now.ports in
    let past : length ports ≤ c.loop-port.port-index = subst (λ xs. length xs ≤ c.loop-port.port-index) c.as_slice-port-items.ensures c.loop-port-test.false in
    has-as (ap (map (λ (port : Port). Declares (port_declared port))) (take_all c.loop-port.port-index ports past)
    ∙ sym (append-nil (map (λ (port : Port). Declares (port_declared port)) ports))) c.loop-port.invariant

pub loop-item-preserved : goal.loop-item-preserved
loop-item-preserved c =
    let source = c.args.source.now in
    let ports = map (λ (port : Port). Declares (port_declared port)) source.ports in
    has-as (joined-further item_mentions ports c.as_slice-item-items.result.now source.items c.loop-item.item-index
    c.item-item.result c.as_slice-item-items.ensures c.loop-item-test.true c.item-item.is)
    (has-more c.loop-item.invariant c.push_item.ensures)

pub returns : goal.returns
returns c =
    let source = c.args.source.now in
    let ports = map (λ (port : Port). Declares (port_declared port)) source.ports in
    let past : length source.items ≤ c.loop-item.item-index = subst (λ xs. length xs ≤ c.loop-item.item-index) c.as_slice-item-items.ensures c.loop-item-test.false in
    IfOk-weaker c.all_of.result _ _
    (λ all are. ap shown are.1 ∙ c.loop-item.invariant.whole are.0 ∙ ap (λ xs. ports ++ flat_map item_mentions xs) (take_all c.loop-item.item-index source.items past)) c.all_of.ensures
