use Rattle.std.proofs.Common.{◌<◌, length, ap, sym, subst, arith}
use Rattle.dg_sort.specs.declared.search.Mark.TheVariants.{Unmet}
use Rattle.dg_sort.specs.inner.Search.{Walk, seen}
use Rattle.dg_sort.specs.inner.State.{IsState}
use Rattle.dg_sort.proofs.OrderOrLoop.{found}
use Rattle.dg_sort.proofs.SearchSteps.{begun_state, mark_is, roots_more, roots_same}
use Rattle.dg_sort.proofs.search.search_all.Goals.{in-Unmet+in_ok-search_from, in_default, In-loop-root}
use Rattle.dg_sort.proofs.search.search_all.Goals as goal

pub loop-root-init : goal.loop-root-init
loop-root-init c = record {
  state = subst (λ (walk : Walk). IsState c.args.rows.now walk) (sym c.in_ok-search.ensures) (begun_state c.args.rows.now);
  free = ap (λ (walk : Walk). walk.groups) c.in_ok-search.ensures;
  met = λ block below at. omega arith;
}

-- the place of a root is that of a mark
inside : (c : In-loop-root) → c.loop-root.root < length c.loop-root.search.marks.items
inside c = omega (arith, c.loop-root.invariant.state.places.marked, c.loop-root-test.true)

pub loop-root-preserved : goal.loop-root-preserved
loop-root-preserved c =
    let here = inside (goal.at.loop-root-preserved c).In-loop-root in
    elim c.match-index.branch [
      | in-Unmet+in_ok-search_from w ↦
          let searched = w.in_ok-search_from.ensures in
          rw w.search-is (record {
            state = searched.state;
            free = searched.free;
            met = roots_more c.args.rows.now (seen c.loop-root.search) (seen w.search_from.new.self) c.loop-root.root searched c.loop-root.invariant.met;
          })
      | in_default w ↦
          rw w.search-is (record {
            state = c.loop-root.invariant.state;
            free = c.loop-root.invariant.free;
            met = roots_same c.loop-root.search.marks.items c.loop-root.root c.index.result.now here c.index.ensures w.in_default.not-Unmet c.loop-root.invariant.met;
          })
    ]

pub returns : goal.returns
returns c =
    let end = c.loop-root-test.false in
    found c.args.rows.now (seen c.loop-root.search) c.requires.known c.loop-root.invariant.state
    c.loop-root.invariant.free
    (λ block below at. c.loop-root.invariant.met block (omega (arith, below, end)) at)

pub search_from-requires-clause-unmet : goal.search_from-requires-clause-unmet
search_from-requires-clause-unmet c =
    mark_is c.loop-root.search.marks.items c.loop-root.root c.index.result.now Unmet (inside (goal.at.search_from-requires-clause-unmet c).In-loop-root) c.index.ensures c.in-Unmet.is

pub search_from-requires-clause-state : goal.search_from-requires-clause-state
search_from-requires-clause-state c = c.loop-root.invariant.state

pub search_from-requires-clause-free : goal.search_from-requires-clause-free
search_from-requires-clause-free c = c.loop-root.invariant.free

pub search_from-requires-clause-known : goal.search_from-requires-clause-known
search_from-requires-clause-known c = c.requires.known
