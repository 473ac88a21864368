use Rattle.std.proofs.Common.{ℕ, List, ap}
use Rattle.vl_ast.specs.declared.modules.Attr.{Attr}
use Rattle.vl_ast.specs.declared.modules.ModItem.{ModItem}
use Rattle.vl_ast.specs.declared.modules.Module.{Module}
use Rattle.vl_ast.specs.declared.modules.Port.{Port}
use Rattle.vl_ast.proofs.Listings.{has-more}
use Rattle.vl_ast.proofs.making.whole_module.Goals as goal

pub returns : goal.returns
returns c all listed ports items =
    let made : (List ℕ × List Attr) × (List Port × List ModItem) → Module = λ parts. record { name = parts.0.0; attrs = parts.0.1; ports = parts.1.0; items = parts.1.1 } in
    let attrs = c.finish.ensures _ (has-more c.begin-attrs.ensures (c.put.ensures _ c.attribute.ensures)) in
    ap made (c.in_ok-name.ensures _ _ (c.both-head.ensures _ _ c.copy.ensures attrs) (c.both.ensures all listed (c.finish-2.ensures all ports) (c.finish-3.ensures listed items)))
