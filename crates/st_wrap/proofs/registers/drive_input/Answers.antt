use Rattle.std.proofs.Common.{◌≡◌, IfOk, ℕ, List, subst}
use Rattle.vl_ast.specs.Listing.{Lists}
use Rattle.vl_ast.proofs.Listings.{both}
use Rattle.st_wrap.specs.inner.Columns.{held_driven}
use Rattle.st_wrap.specs.inner.Names.{inner_name}
use Rattle.st_wrap.proofs.registers.drive_input.Goals as goal

pub returns : goal.returns
returns c =
    let core = subst (λ (name : List ℕ). IfOk c.inner_name-core.result (λ text. text ≡ inner_name name)) c.bytes.ensures c.inner_name-core.ensures in
    let held = c.named-held.ensures _ c.held_name.ensures in
    let shown = c.put_assignment.ensures _ _ core (c.choose-shown.ensures _ _ _ c.name_of-test.ensures c.name_of.ensures held) in
    let taken = c.put_register.ensures _ _ _ _ c.plain.ensures c.held_name-2.ensures c.moving.ensures c.name_of-2.ensures in
    subst (λ (name : List ℕ). Lists c.args.out.now c.put_register.new.out (held_driven (record c.args.column.now { name = name }))) c.bytes-name.ensures (both shown taken)
