use Rattle.std.proofs.Common.{◌++◌, List, append-nil, flat_map, subst, sym, take}
use Rattle.std.proofs.lemmas.List.{take_all}
use Rattle.vl_ast.specs.declared.modules.ModItem.{ModItem}
use Rattle.vl_ast.specs.Nets.{Declared}
use Rattle.vl_hier.specs.inner.Nets.{AreNets, item_declared}
use Rattle.vl_hier.proofs.NetKeys.{grown}
use Rattle.vl_hier.proofs.nets.Nets.add_items.Goals as goal

pub loop-item-init : goal.loop-item-init
loop-item-init c = λ declared are. subst (λ (ds : List Declared). AreNets ds c.args.self.now) (sym (append-nil declared)) are

pub loop-item-preserved : goal.loop-item-preserved
loop-item-preserved c = λ declared are.
    let items = c.args.items.now in
    let i = c.loop-item.item-index in
    grown (λ (ds : List Declared). AreNets ds c.add_item.new.self) item_declared items i c.item-item.result c.loop-item-test.true c.item-item.is declared
    (c.in_ok-add_item.ensures (declared ++ flat_map item_declared (take i items)) (c.loop-item.invariant declared are))

pub returns : goal.returns
returns c = λ declared are.
    subst (λ (items : List ModItem). AreNets (declared ++ flat_map item_declared items) c.loop-item.self)
    (take_all c.loop-item.item-index c.args.items.now c.loop-item-test.false)
    (c.loop-item.invariant declared are)
