use Rattle.std.proofs.Common.{◌≡◌, ◌<◌, ℕ, List, ap, get_or, length, map, subst, take}
use Rattle.std.proofs.lemmas.List.{take_all}
use Rattle.vl_ast.specs.declared.modules.ModItem.{ModItem}
use Rattle.vl_ast.proofs.Listings.{lists-as, none-put, one-mapped}
use Rattle.st_wrap.specs.inner.CoreNames.{renamed_item}
use Rattle.st_wrap.proofs.renaming.put_core.Goals as goal

pub loop-item-init : goal.loop-item-init
loop-item-init c = none-put c.args.out.now

pub loop-item-preserved : goal.loop-item-preserved
loop-item-preserved c =
    let core : List ModItem = c.args.core.now.items in
    let i : ℕ = c.loop-item.item-index in
    let x : ModItem = c.item-item.result in
    let is : x ≡ get_or core i x = subst (λ (xs : List ModItem). x ≡ get_or xs i x) c.as_slice-item-items.ensures c.item-item.is in
    let below : i < length core = subst (λ (xs : List ModItem). i < length xs) c.as_slice-item-items.ensures c.loop-item-test.true in
    one-mapped core i x below is renamed_item c.loop-item.invariant c.put_renamed.ensures

pub returns : goal.returns
returns c =
    let i = c.loop-item.item-index in
    lists-as (ap (map renamed_item) (subst (λ (xs : List ModItem). take i xs ≡ xs) c.as_slice-item-items.ensures (take_all i _ c.loop-item-test.false))) c.loop-item.invariant
