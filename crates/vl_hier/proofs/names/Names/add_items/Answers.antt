use Rattle.std.proofs.Common.{◌++◌, ℕ, List, append-nil, flat_map, subst, sym, take}
use Rattle.std.proofs.lemmas.List.{take_all}
use Rattle.vl_ast.specs.declared.modules.ModItem.{ModItem}
use Rattle.vl_hier.specs.inner.Names.{AreNames, item_names}
use Rattle.vl_hier.proofs.NetKeys.{grown}
use Rattle.vl_hier.proofs.names.Names.add_items.Goals as goal

pub loop-item-init : goal.loop-item-init
loop-item-init c = λ names are. subst (λ (ns : List (List ℕ)). AreNames ns c.args.self.now) (sym (append-nil names)) are

pub loop-item-preserved : goal.loop-item-preserved
loop-item-preserved c = λ names are.
    let items = c.args.items.now in
    let i = c.loop-item.item-index in
    grown (λ (ns : List (List ℕ)). AreNames ns c.add_item.new.self) item_names items i c.item-item.result c.loop-item-test.true c.item-item.is names
    (c.in_ok-add_item.ensures (names ++ flat_map item_names (take i items)) (c.loop-item.invariant names are))

pub returns : goal.returns
returns c = λ names are.
    subst (λ (xs : List ModItem). AreNames (names ++ flat_map item_names xs) c.loop-item.self)
    (take_all c.loop-item.item-index c.args.items.now c.loop-item-test.false)
    (c.loop-item.invariant names are)
