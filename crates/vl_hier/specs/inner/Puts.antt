-- Which items the code puts.
use Rattle.std.specs.Prelude.{ℕ, not, Bool, if◌then◌else◌, List, [], ◌∷◌}
use Rattle.vl_ast.specs.declared.designs.Link.{Link}
use Rattle.vl_ast.specs.declared.modules.ModItem.{ModItem}
use Rattle.vl_ast.specs.declared.modules.Port.{Port}
use Rattle.vl_ast.specs.Drivers.{declares}
use Rattle.vl_inner.specs.Renamed.{Renaming, renamed_item}
use Rattle.vl_hier.specs.declared.items.Part.{Part}
use Rattle.vl_hier.specs.declared.items.Part.TheVariants.{Nets, Drivers}
use Rattle.vl_hier.specs.declared.links.Way.{Way}
use Rattle.vl_hier.specs.declared.links.Way.TheVariants.{Inward, Outward}
use Rattle.vl_hier.specs.Flat.{inward, outward}

-- the item is of this part
abbrev pub is_of : Part → ModItem → Bool
is_of Nets i = declares i
is_of Drivers i = not (declares i)

-- an item of this part, over other names
abbrev pub part_items : Part → Renaming → ModItem → List ModItem
part_items part rename i = if is_of part i then renamed_item rename i ∷ [] else []

-- what a link puts
abbrev pub link_items : Way → List Port → List ℕ → Link → List ModItem
link_items Inward ports head link = inward ports head link
link_items Outward ports head link = outward ports head link
