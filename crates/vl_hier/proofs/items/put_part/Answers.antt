use Rattle.std.proofs.Common.{◌+◌, Bool, if◌then◌else◌, List, [], ◌∷◌, ap, flat_map, subst, sym, take}
use Rattle.std.proofs.lemmas.List.{take_all}
use Rattle.vl_ast.specs.declared.making.Listing.{Listing}
use Rattle.vl_ast.specs.declared.modules.ModItem.{ModItem}
use Rattle.vl_ast.specs.Listing.{Lists}
use Rattle.vl_ast.proofs.Listings.{lists-as, none-put, one-more}
use Rattle.vl_inner.specs.Names.{name_by}
use Rattle.vl_inner.specs.Renamed.{renamed_item}
use Rattle.vl_hier.specs.inner.Puts.{part_items}
use Rattle.vl_hier.proofs.items.put_part.Goals.{then-is_of, else-is_of}
use Rattle.vl_hier.proofs.items.put_part.Goals as goal

pub loop-item-init : goal.loop-item-init
loop-item-init c = none-put c.args.out.now

pub loop-item-preserved : goal.loop-item-preserved
loop-item-preserved c =
    let x = c.item-item.result in
    let f = part_items c.args.part (name_by c.args.naming) in
    let i = c.loop-item.item-index in
    let all = c.args.items.now in
    let put : List ModItem → Bool → List ModItem = λ items b. if b then items else [] in
    elim c.if-is_of.branch [
      | then-is_of w ↦ (
          let one = lists-as (ap (put (renamed_item (name_by c.args.naming) x ∷ [])) w.if-is_of.ensures) w.put_renamed.ensures in
          subst (λ (o : Listing ModItem). Lists c.args.out.now o (flat_map f (take (i + 1) all))) (sym w.out-is)
          (one-more all i x c.loop-item-test.true c.item-item.is f c.loop-item.invariant one))
      | else-is_of w ↦ (
          let one = lists-as (ap (put (renamed_item (name_by c.args.naming) x ∷ [])) w.if-is_of.ensures) (none-put c.loop-item.out) in
          subst (λ (o : Listing ModItem). Lists c.args.out.now o (flat_map f (take (i + 1) all))) (sym w.out-is)
          (one-more all i x c.loop-item-test.true c.item-item.is f c.loop-item.invariant one))
    ]

pub returns : goal.returns
returns c =
    let f = part_items c.args.part (name_by c.args.naming) in
    lists-as (ap (flat_map f) (take_all c.loop-item.item-index c.args.items.now c.loop-item-test.false)) c.loop-item.invariant
