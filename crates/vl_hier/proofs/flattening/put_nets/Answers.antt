use Rattle.std.proofs.Common.{◌≡◌, ◌++◌, ◌∙◌, List, Some, ap, filter, flat_map, map}
use Rattle.vl_ast.specs.declared.modules.ModItem.{ModItem}
use Rattle.vl_ast.specs.Drivers.{declares}
use Rattle.vl_ast.proofs.Listings.{both, lists-as}
use Rattle.vl_inner.specs.Names.{inner_name}
use Rattle.vl_inner.specs.Renamed.{renamed_item}
use Rattle.vl_hier.specs.declared.items.Part.TheVariants.{Nets}
use Rattle.vl_hier.specs.Flat.{nets_by, port_wire}
use Rattle.vl_hier.specs.inner.Tables.{module_by}
use Rattle.vl_hier.proofs.Filters.{part-renamed}
use Rattle.vl_hier.proofs.flattening.put_nets.Goals as goal

pub returns-in-Some : goal.returns-in-Some
returns-in-Some c =
    let name = c.bytes-name.ensures in
    let head = c.bytes-name.result.now in
    let wires : List ModItem = flat_map (port_wire head) c.as_slice.result.now in
    let parts = ap (λ (items : List ModItem). wires ++ items) (part-renamed Nets (inner_name head) c.as_slice-in-Some.result.now) in
    let are : wires ++ map (renamed_item (inner_name head)) (filter declares c.as_slice-in-Some.result.now)
    ≡ nets_by c.args.one.now.name (Some c.in-Some.of.now) =
    (λ i. flat_map (port_wire (name i)) (c.as_slice.ensures i)
    ++ map (renamed_item (inner_name (name i))) (filter declares (c.as_slice-in-Some.ensures i))) in
    let found = c.in-Some.ensures ∙ ap (module_by c.args.modules.now) c.bytes.ensures in
    lists-as (parts ∙ are ∙ ap (nets_by c.args.one.now.name) found) (both c.put_wires.ensures c.put_part.ensures)
