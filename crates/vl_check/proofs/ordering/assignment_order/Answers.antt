use Rattle.std.proofs.Common.{◌≡◌, ◌<◌, List, ℕ, length, sym, ap, subst, ◌∙◌}
use Rattle.vl_ast.specs.declared.modules.Module.{Module}
use Rattle.vl_check.specs.declared.sorting.Sorted.{Sorted}
use Rattle.vl_check.specs.inner.Assignments.{IsNoted}
use Rattle.vl_check.specs.inner.Order.{AreKnown, IsCycle, IsOrder}
use Rattle.vl_check.specs.inner.SortAnswer.{IsSorted}
use Rattle.vl_check.specs.inner.CycleMarks.{AreNamed, IsBeginning, IsTurned}
use Rattle.vl_check.specs.Scope.{names_in}
use Rattle.vl_check.proofs.Loops.{reads-known, cycle-named, turned-loop, no-loop, ordering}
use Rattle.vl_check.proofs.ordering.assignment_order.Goals as goal

sorted : (reads reads' : List (List ℕ)) (found found' : Sorted) → reads' ≡ reads → found ≡ found' → IsSorted reads' found → IsSorted reads found'
sorted reads reads' found found' e same s = subst (λ f. IsSorted reads f) same (subst (λ rs. IsSorted rs found) e s)

pub sort-sorted-requires : goal.sort-sorted-requires
sort-sorted-requires g c =
    let a = c.in_ok-places.field-0 in
    let n = subst (λ xs. IsNoted c.args.scope.now xs a.places.items a.reads.items) (c.as_slice.ensures ∙ ap (λ (m : Module). m.items) (sym c.requires.0)) c.in_ok-places.ensures in
    subst (λ rs. AreKnown rs) (sym c.as_slice-2.ensures.value) (reads-known g.of c.args.scope.now a.places.items a.reads.items c.requires.1.scope c.requires.1.driven c.requires.1.once n)

pub beginning-requires : goal.beginning-requires
beginning-requires g c =
    let a = c.in_ok-places.field-0 in
    let n = subst (λ xs. IsNoted c.args.scope.now xs a.places.items a.reads.items) (c.as_slice.ensures ∙ ap (λ (m : Module). m.items) (sym c.requires.0)) c.in_ok-places.ensures in
    let s : IsCycle a.reads.items c.in-Cycle.cycle.items = sorted a.reads.items c.as_slice-2.result.now c.in_ok-order.field-0 _ c.as_slice-2.ensures.value c.in-Cycle.is c.in_ok-order.ensures in
    let named = cycle-named g.of c.args.scope.now a.places.items a.reads.items c.requires.1.scope c.requires.1.driven c.requires.1.once n c.in-Cycle.cycle.items s in
    let same = sym c.as_slice-in-Cycle.ensures.value in
    (c.requires.1.whole, (c.requires.1.scope, (subst (λ xs. 0 < length xs) same s.some, subst (λ xs. AreNamed g.of c.args.scope.now xs) same named)))

pub returns-in-Order : goal.returns-in-Order
returns-in-Order g c =
    let a = c.in_ok-places.field-0 in
    let n = subst (λ xs. IsNoted c.args.scope.now xs a.places.items a.reads.items) (c.as_slice.ensures ∙ ap (λ (m : Module). m.items) (sym c.requires.0)) c.in_ok-places.ensures in
    let s : IsOrder a.reads.items c.in-Order.order.items = sorted a.reads.items c.as_slice-2.result.now c.in_ok-order.field-0 _ c.as_slice-2.ensures.value c.in-Order.is c.in_ok-order.ensures in
    record {
      acyclic = record {
        driven = c.requires.1.driven;
        once = c.requires.1.once;
        acyclic = no-loop g.of c.args.scope.now a.places.items a.reads.items c.requires.1.scope c.requires.1.driven c.requires.1.once n c.in-Order.order.items s;
      };
      order = ordering g.of c.args.scope.now a.places.items a.reads.items c.requires.1.scope c.requires.1.driven c.requires.1.once n c.in-Order.order.items s;
    }

pub returns-in_ok-names-in-Cycle : goal.returns-in_ok-names-in-Cycle
returns-in_ok-names-in-Cycle g c =
    let a = c.in_ok-places.field-0 in
    let n = subst (λ xs. IsNoted c.args.scope.now xs a.places.items a.reads.items) (c.as_slice.ensures ∙ ap (λ (m : Module). m.items) (sym c.requires.0)) c.in_ok-places.ensures in
    let s : IsCycle a.reads.items c.in-Cycle.cycle.items = sorted a.reads.items c.as_slice-2.result.now c.in_ok-order.field-0 _ c.as_slice-2.ensures.value c.in-Cycle.is c.in_ok-order.ensures in
    let begins = subst (λ xs. IsBeginning g.of c.args.scope.now xs c.in_ok-at-in-Cycle.at) c.as_slice-in-Cycle.ensures.value c.in_ok-at-in-Cycle.ensures in
    let turned = subst (λ xs. IsTurned (names_in c.args.scope.now) xs c.in_ok-at-in-Cycle.at c.in_ok-names-in-Cycle.names) c.as_slice-in-Cycle-2.ensures.value c.in_ok-names-in-Cycle.ensures in (
      c.requires.1.driven,
      c.requires.1.once,
      turned-loop g.of c.args.scope.now a.places.items a.reads.items c.requires.1.scope c.requires.1.driven
          c.requires.1.once n c.in-Cycle.cycle.items s c.in_ok-at-in-Cycle.at begins c.in_ok-names-in-Cycle.names
          turned,
    )
