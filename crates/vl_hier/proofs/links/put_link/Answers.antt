use Rattle.std.proofs.Common.{◌≡◌, ◌∙◌, ◌&&◌, not, if◌then◌else◌, false, true, IfOk, ℕ, List, [], ◌∷◌, ap, subst, sym}
use Rattle.vl_ast.specs.declared.expressions.Expr.TheVariants.{Name}
use Rattle.vl_ast.specs.declared.modules.ModItem.{ModItem}
use Rattle.vl_ast.specs.declared.modules.ModItem.TheVariants.{Assign}
use Rattle.vl_ast.proofs.Listings.{lists-as}
use Rattle.vl_inner.specs.Names.{inner_name, is_shared}
use Rattle.vl_hier.specs.declared.links.Way.{Way}
use Rattle.vl_hier.specs.Flat.{is_input}
use Rattle.vl_hier.specs.inner.Puts.{link_items}
use Rattle.vl_hier.proofs.links.put_link.Goals as goal

pub returns-then-input : goal.returns-then-input
returns-then-input c =
    let head = c.args.head.now in
    let link = c.args.link.now in
    let ports = c.args.ports.now in
    let item : ModItem = Assign (inner_name head link.port) (Name link.net) in
    let inner = subst (λ (name : List ℕ). IfOk c.inner_name-inner.result (λ text. text ≡ inner_name head name)) c.bytes-port.ensures c.inner_name-inner.ensures in
    let net = subst (λ (name : List ℕ). IfOk c.copy-net.result (λ text. text ≡ name)) c.bytes.ensures c.copy-net.ensures in
    let shared : false ≡ is_shared link.port = c.if-is_shared.ensures ∙ ap is_shared c.bytes-port.ensures in
    let input : true ≡ is_input ports link.port = c.if-input.ensures ∙ ap (is_input ports) c.bytes-port.ensures in
    let is = (λ i. if not (shared i) && input i then item ∷ [] else []) ∙ ap (λ (way : Way). link_items way ports head link) (sym c.in-Inward.is) in
    lists-as is (c.put_assignment.ensures (inner_name head link.port) (Name link.net) inner (c.named.ensures link.net net))

pub returns-then-not-input : goal.returns-then-not-input
returns-then-not-input c =
    let head = c.args.head.now in
    let link = c.args.link.now in
    let ports = c.args.ports.now in
    let item : ModItem = Assign link.net (Name (inner_name head link.port)) in
    let inner = subst (λ (name : List ℕ). IfOk c.inner_name-inner.result (λ text. text ≡ inner_name head name)) c.bytes-port.ensures c.inner_name-inner.ensures in
    let net = subst (λ (name : List ℕ). IfOk c.copy-net.result (λ text. text ≡ name)) c.bytes.ensures c.copy-net.ensures in
    let shared : false ≡ is_shared link.port = c.if-is_shared.ensures ∙ ap is_shared c.bytes-port.ensures in
    let input : false ≡ is_input ports link.port = c.if-not-input.ensures ∙ ap (is_input ports) c.bytes-port.ensures in
    let is = (λ i. if not (shared i) && not (input i) then item ∷ [] else []) ∙ ap (λ (way : Way). link_items way ports head link) (sym c.in-Outward.is) in
    lists-as is (c.put_assignment-then-not-input.ensures link.net (Name (inner_name head link.port)) net (c.named-then-not-input.ensures (inner_name head link.port) inner))
