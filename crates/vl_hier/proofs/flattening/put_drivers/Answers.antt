use Rattle.std.proofs.Common.{◌≡◌, ◌++◌, ◌∙◌, not, List, Some, append_assoc, ap, filter, flat_map, map}
use Rattle.vl_ast.specs.declared.modules.ModItem.{ModItem}
use Rattle.vl_ast.specs.Drivers.{declares}
use Rattle.vl_ast.proofs.Listings.{both, lists-as}
use Rattle.vl_inner.specs.Names.{inner_name}
use Rattle.vl_inner.specs.Renamed.{renamed_item}
use Rattle.vl_hier.specs.declared.items.Part.TheVariants.{Drivers}
use Rattle.vl_hier.specs.Flat.{drivers_by, inward, outward}
use Rattle.vl_hier.specs.inner.Tables.{module_by}
use Rattle.vl_hier.proofs.Filters.{part-renamed}
use Rattle.vl_hier.proofs.flattening.put_drivers.Goals as goal

pub returns-in-Some : goal.returns-in-Some
returns-in-Some c =
    let name = c.bytes-name.ensures in
    let head = c.bytes-name.result.now in
    let ins : List ModItem = flat_map (inward c.as_slice-ports.result.now head) c.as_slice-links.result.now in
    let outs : List ModItem = flat_map (outward c.as_slice-ports.result.now head) c.as_slice-links.result.now in
    let parts = ap (λ (items : List ModItem). ins ++ (outs ++ items)) (part-renamed Drivers (inner_name head) c.as_slice.result.now) in
    let are : ins ++ (outs ++ map (renamed_item (inner_name head)) (filter (λ (x : ModItem). not (declares x)) c.as_slice.result.now)) ≡ drivers_by c.args.one.now (Some c.in-Some.of.now) = (λ i.
    flat_map (inward (c.as_slice-ports.ensures i) (name i)) (c.as_slice-links.ensures i)
    ++ (flat_map (outward (c.as_slice-ports.ensures i) (name i)) (c.as_slice-links.ensures i)
    ++ map (renamed_item (inner_name (name i))) (filter (λ (x : ModItem). not (declares x)) (c.as_slice.ensures i)))) in
    let found = c.in-Some.ensures ∙ ap (module_by c.args.modules.now) c.bytes.ensures in
    lists-as (append_assoc ins outs _ ∙ parts ∙ are ∙ ap (drivers_by c.args.one.now) found) (both c.put_links.ensures c.put_part.ensures)
