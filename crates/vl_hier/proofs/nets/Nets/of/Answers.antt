use Rattle.std.proofs.Common.{[], ◌++◌, List, flat_map, subst}
use Rattle.vl_ast.specs.declared.modules.ModItem.{ModItem}
use Rattle.vl_ast.specs.declared.modules.Port.{Port}
use Rattle.vl_hier.specs.inner.Nets.{AreNets, item_declared, port_declared}
use Rattle.vl_hier.proofs.nets.Nets.of.Goals as goal

pub returns : goal.returns
returns c =
    let ports = c.as_slice.result.now in
    let items = c.as_slice-2.result.now in
    subst (λ (parts : List Port × List ModItem). AreNets (flat_map port_declared parts.0 ++ flat_map item_declared parts.1) c.add_items.new.self)
    (λ k. (c.as_slice.ensures k, c.as_slice-2.ensures k))
    (c.in_ok-add_items.ensures (flat_map port_declared ports) (c.in_ok-add_ports.ensures [] c.new-nets.ensures))
