use Rattle.std.proofs.Common.{[], ◌++◌, List, flat_map, subst}
use Rattle.vl_ast.specs.declared.modules.ModItem.{ModItem}
use Rattle.vl_ast.specs.declared.modules.Port.{Port}
use Rattle.vl_hier.specs.inner.Names.{AreNames, instance_names, item_names, port_names}
use Rattle.vl_hier.proofs.names.Names.of.Goals as goal

pub returns : goal.returns
returns c =
    let instances = c.args.instances.now in
    let ports = c.as_slice.result.now in
    subst (λ (parts : List Port × List ModItem). AreNames ((flat_map instance_names instances ++ flat_map port_names parts.0) ++ flat_map item_names parts.1) c.add_items.new.self)
    (λ k. (c.as_slice.ensures k, c.as_slice-2.ensures k))
    (c.in_ok-add_items.ensures (flat_map instance_names instances ++ flat_map port_names ports)
    (c.in_ok-add_ports.ensures (flat_map instance_names instances) (c.in_ok-add_instances.ensures [] c.new-names.ensures)))
