use Rattle.std.proofs.Common.{◌≡◌, ◌+◌, IfOk, ℕ, List, ap, arith, map, subst}
use Rattle.std.specs.List.{range_with_len}
use Rattle.vl_ast.proofs.Listings.{lists-as, none-put}
use Rattle.st_wrap.specs.inner.Names.{late_name}
use Rattle.st_wrap.specs.inner.Columns.{stage_declared}
use Rattle.st_wrap.proofs.Filters.{mapped-more}
use Rattle.st_wrap.proofs.registers.declare_output.Goals as goal

pub loop-place-init : goal.loop-place-init
loop-place-init c = none-put c.args.out.now

pub loop-place-preserved : goal.loop-place-preserved
loop-place-preserved c =
    let name = subst (λ (name : List ℕ). IfOk c.late_name-name.result (λ text. text ≡ late_name name (c.loop-place.place + 1))) c.bytes.ensures c.late_name-name.ensures in
    mapped-more (stage_declared c.args.column.now) c.loop-place.place c.loop-place.invariant (c.put_declaration.ensures _ name)

pub returns : goal.returns
returns c =
    let column = c.args.column.now in
    let all : c.loop-place.place ≡ column.late = omega (arith, c.loop-place-test.false, c.loop-place.auto.place-end) in
    lists-as (ap (λ (n : ℕ). map (stage_declared column) (range_with_len 0 n)) all) c.loop-place.invariant
