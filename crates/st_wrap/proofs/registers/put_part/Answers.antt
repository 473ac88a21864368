use Rattle.std.proofs.Common.{◌≡◌, IfOk, ℕ, List, ap, subst, sym}
use Rattle.vl_ast.specs.declared.making.Listing.{Listing}
use Rattle.vl_ast.specs.declared.modules.ModItem.{ModItem}
use Rattle.vl_ast.specs.Listing.{Lists}
use Rattle.vl_ast.proofs.Listings.{lists-as}
use Rattle.st_wrap.specs.declared.columns.Column.{Column}
use Rattle.st_wrap.specs.declared.registers.Part.{Part}
use Rattle.st_wrap.specs.inner.Columns.{items_for}
use Rattle.st_wrap.specs.inner.Names.{held_name}
use Rattle.st_wrap.proofs.registers.put_part.Goals as goal

-- the items of a column for a part
of-part : (column : Column) {part is : Part} {old new : Listing ModItem} → part ≡ is → Lists old new (items_for is column) → Lists old new (items_for part column)
of-part column is put = lists-as (ap (λ (part : Part). items_for part column) (sym is)) put

pub returns-in-Held : goal.returns-in-Held
returns-in-Held c =
    let name = subst (λ (name : List ℕ). IfOk c.held_name-name.result (λ text. text ≡ held_name name)) c.bytes.ensures c.held_name-name.ensures in
    of-part c.args.column.now c.in-Held.is (c.put_declaration.ensures _ name)

pub returns-in-HeldDriven : goal.returns-in-HeldDriven
returns-in-HeldDriven c = of-part c.args.column.now c.in-HeldDriven.is c.drive_input.ensures

pub returns-in-Late : goal.returns-in-Late
returns-in-Late c = of-part c.args.column.now c.in-Late.is c.declare_output.ensures

pub returns-in-LateDriven : goal.returns-in-LateDriven
returns-in-LateDriven c = of-part c.args.column.now c.in-LateDriven.is c.drive_output.ensures
