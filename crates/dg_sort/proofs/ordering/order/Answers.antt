use Rattle.std.proofs.Common.{List, ℕ, subst}
use Rattle.dg_sort.specs.inner.Cycle.{IsReadCycle}
use Rattle.dg_sort.proofs.Outcome.{order_is, loop_is_kept, loop_breaks, found_none, found_some}
use Rattle.dg_sort.proofs.ordering.order.Goals as goal

pub returns-in-None-clause-order : goal.returns-in-None-clause-order
returns-in-None-clause-order c =
    let found = found_none c.in_ok-rows.rows.items c.as_slice.result.now c.in_ok-found.found.order.items c.in_ok-found.found.first c.as_slice.ensures.value c.in-None.is c.in_ok-found.ensures in
    rw c.from_vec.ensures (order_is c.args.diagram.now c.in_ok-rows.rows.items c.in_ok-found.found.order.items c.in_ok-rows.ensures found)

pub returns-in-None-clause-kept : goal.returns-in-None-clause-kept
returns-in-None-clause-kept c =
    let found = found_none c.in_ok-rows.rows.items c.as_slice.result.now c.in_ok-found.found.order.items c.in_ok-found.found.first c.as_slice.ensures.value c.in-None.is c.in_ok-found.ensures in
    loop_is_kept c.args.diagram.now c.in_ok-rows.rows.items c.in_ok-found.found.order.items c.in_ok-rows.ensures found

pub returns-clause-broken : goal.returns-clause-broken
returns-clause-broken c =
    let found = found_some c.in_ok-rows.rows.items c.as_slice.result.now c.in_ok-found.found.order.items
    c.in_ok-found.found.first c.in-Some.first c.as_slice.ensures.value c.in-Some.is c.in_ok-found.ensures in
    let read : IsReadCycle c.in_ok-rows.rows.items c.in-Some.first c.in_ok-blocks-in-Some.blocks =
    subst (λ (rs : List (List ℕ)). IsReadCycle rs c.in-Some.first c.in_ok-blocks-in-Some.blocks)
    c.as_slice-in-Some.ensures.value c.in_ok-blocks-in-Some.ensures in
    loop_breaks c.args.diagram.now c.in_ok-rows.rows.items c.in-Some.first c.in_ok-blocks-in-Some.blocks c.in_ok-fault-in-Some.fault c.in_ok-rows.ensures found read c.in_ok-fault-in-Some.ensures
