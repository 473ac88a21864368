use Rattle.std.proofs.Common.{◌≡◌, ◌∙◌, ◌+◌, ◌<◌, Bool, if◌then◌else◌, [], ◌∷◌, IfOk, ℕ, List, ap, flat_map, get_or, length, subst, sym, take}
use Rattle.std.proofs.lemmas.List.{take_all}
use Rattle.vl_ast.specs.declared.making.Listing.{Listing}
use Rattle.vl_ast.specs.declared.modules.ModItem.{ModItem}
use Rattle.vl_ast.specs.declared.modules.ModItem.TheVariants.{Wire}
use Rattle.vl_ast.specs.declared.modules.Port.{Port}
use Rattle.vl_ast.specs.Listing.{Lists}
use Rattle.vl_ast.proofs.Listings.{lists-as, none-put, one-more}
use Rattle.st_wrap.specs.inner.Names.{inner_name, is_shared}
use Rattle.st_wrap.specs.inner.CoreNames.{wires_for}
use Rattle.st_wrap.proofs.renaming.put_wires.Goals.{then-not-is_shared, else-not-is_shared}
use Rattle.st_wrap.proofs.renaming.put_wires.Goals as goal

-- the wires of one more port behind those of the ports before it
more-wires : {ports items : List Port} {i : ℕ} {x : Port} {old mid new out : Listing ModItem} → items ≡ ports
    → x ≡ get_or items i x → i < length items → Lists old mid (flat_map wires_for (take i ports))
    → Lists mid new (wires_for x) → out ≡ new
    → Lists old out (flat_map wires_for (take (i + 1) ports))
more-wires {ports} {items} {i} {x} {old} {mid} {new} {out} same is below before put now =
    subst (λ (o : Listing ModItem). Lists old o (flat_map wires_for (take (i + 1) ports))) (sym now)
    (subst (λ (xs : List Port). Lists old mid (flat_map wires_for (take i xs))
    → Lists old new (flat_map wires_for (take (i + 1) xs))) same
    (λ all. one-more items i x below is wires_for all put) before)

pub loop-port-init : goal.loop-port-init
loop-port-init c = none-put c.args.out.now

pub loop-port-preserved : goal.loop-port-preserved
loop-port-preserved c =
    let x = c.port-item.result in
    let wire : ModItem = Wire x.signed x.width (inner_name x.name) in
    elim c.if-not-is_shared.branch [
      | then-not-is_shared w ↦ (
          let name = subst (λ (name : List ℕ). IfOk w.inner_name-name.result (λ text. text ≡ inner_name name)) w.bytes-then-not-is_shared.ensures w.inner_name-name.ensures in
          let put = lists-as (ap (λ (b : Bool). if b then [] else wire ∷ []) (w.if-not-is_shared.ensures ∙ ap is_shared c.bytes.ensures)) (w.put_declaration.ensures _ name) in
          more-wires c.as_slice-port-items.ensures c.port-item.is c.loop-port-test.true c.loop-port.invariant put w.out-is)
      | else-not-is_shared w ↦ (
          let put = lists-as (ap (λ (b : Bool). if b then [] else wire ∷ []) (w.if-not-is_shared.ensures ∙ ap is_shared c.bytes.ensures)) (none-put c.loop-port.out) in
          more-wires c.as_slice-port-items.ensures c.port-item.is c.loop-port-test.true c.loop-port.invariant put w.out-is)
    ]

pub returns : goal.returns
returns c =
    let i = c.loop-port.port-index in
    lists-as (ap (flat_map wires_for) (subst (λ (xs : List Port). take i xs ≡ xs) c.as_slice-port-items.ensures (take_all i _ c.loop-port-test.false))) c.loop-port.invariant
