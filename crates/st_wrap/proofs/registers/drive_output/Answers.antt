use Rattle.std.proofs.Common.{◌≡◌, ◌+◌, ◌∷◌, [], ℕ, List, IfOk, ap, arith, map, subst}
use Rattle.std.specs.List.{range_with_len}
use Rattle.vl_ast.specs.declared.expressions.Expr.TheVariants.{Name}
use Rattle.vl_ast.specs.declared.modules.ModItem.TheVariants.{Assign}
use Rattle.vl_ast.specs.Listing.{Lists}
use Rattle.vl_ast.proofs.Listings.{both, lists-as, none-put}
use Rattle.st_wrap.specs.inner.Columns.{stage_driven, stage_name}
use Rattle.st_wrap.specs.inner.Names.{late_name}
use Rattle.st_wrap.proofs.Filters.{mapped-more}
use Rattle.st_wrap.proofs.registers.drive_output.Goals as goal

pub loop-place-init : goal.loop-place-init
loop-place-init c = none-put c.args.out.now

pub loop-place-preserved : goal.loop-place-preserved
loop-place-preserved c =
    let name = subst (λ (name : List ℕ). IfOk c.late_name.result (λ text. text ≡ late_name name (c.loop-place.place + 1))) c.bytes-name.ensures c.late_name.ensures in
    let taken = c.put_register.ensures _ _ _ _ c.plain.ensures name c.moving.ensures (c.named.ensures _ c.stage_name.ensures) in
    mapped-more (stage_driven c.args.column.now) c.loop-place.place c.loop-place.invariant taken

pub returns : goal.returns
returns c =
    let column = c.args.column.now in
    let all : c.loop-place.place ≡ column.late = omega (arith, c.loop-place-test.false, c.loop-place.auto.place-end) in
    let chain = lists-as (ap (λ (n : ℕ). map (stage_driven column) (range_with_len 0 n)) all) c.loop-place.invariant in
    let put = subst (λ (name : List ℕ). Lists c.loop-place.out c.assign.new.out
    (Assign name (Name (stage_name column column.late)) ∷ [])) c.bytes-name.ensures
    (c.assign.ensures _ (c.named-shown.ensures _ c.stage_name-2.ensures)) in
    both chain put
