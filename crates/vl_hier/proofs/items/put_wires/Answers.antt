use Rattle.std.proofs.Common.{◌≡◌, ◌+◌, ◌∙◌, Bool, if◌then◌else◌, [], ◌∷◌, IfOk, ℕ, List, ap, flat_map, subst, sym, take}
use Rattle.std.proofs.lemmas.List.{take_all}
use Rattle.vl_ast.specs.declared.making.Listing.{Listing}
use Rattle.vl_ast.specs.declared.modules.ModItem.{ModItem}
use Rattle.vl_ast.specs.declared.modules.ModItem.TheVariants.{Wire}
use Rattle.vl_ast.specs.Listing.{Lists}
use Rattle.vl_ast.proofs.Listings.{lists-as, none-put, one-more}
use Rattle.vl_inner.specs.Names.{inner_name, is_shared}
use Rattle.vl_hier.specs.Flat.{port_wire}
use Rattle.vl_hier.proofs.items.put_wires.Goals.{then-not-is_shared, else-not-is_shared}
use Rattle.vl_hier.proofs.items.put_wires.Goals as goal

pub loop-port-init : goal.loop-port-init
loop-port-init c = none-put c.args.out.now

pub loop-port-preserved : goal.loop-port-preserved
loop-port-preserved c =
    let x = c.port-item.result in
    let head = c.args.head.now in
    let i = c.loop-port.port-index in
    let all = c.args.ports.now in
    let wire : ModItem = Wire x.signed x.width (inner_name head x.name) in
    let put : Bool → List ModItem = λ b. if b then [] else wire ∷ [] in
    elim c.if-not-is_shared.branch [
      | then-not-is_shared w ↦ (
          let name = subst (λ (name : List ℕ). IfOk w.inner_name-name.result (λ text. text ≡ inner_name head name)) w.bytes-then-not-is_shared.ensures w.inner_name-name.ensures in
          let one = lists-as (ap put (w.if-not-is_shared.ensures ∙ ap is_shared c.bytes.ensures)) (w.put_declaration.ensures _ name) in
          subst (λ (o : Listing ModItem). Lists c.args.out.now o (flat_map (port_wire head) (take (i + 1) all))) (sym w.out-is)
          (one-more all i x c.loop-port-test.true c.port-item.is (port_wire head) c.loop-port.invariant one))
      | else-not-is_shared w ↦ (
          let one = lists-as (ap put (w.if-not-is_shared.ensures ∙ ap is_shared c.bytes.ensures)) (none-put c.loop-port.out) in
          subst (λ (o : Listing ModItem). Lists c.args.out.now o (flat_map (port_wire head) (take (i + 1) all))) (sym w.out-is)
          (one-more all i x c.loop-port-test.true c.port-item.is (port_wire head) c.loop-port.invariant one))
    ]

pub returns : goal.returns
returns c = lists-as (ap (flat_map (port_wire c.args.head.now)) (take_all c.loop-port.port-index c.args.ports.now c.loop-port-test.false)) c.loop-port.invariant
