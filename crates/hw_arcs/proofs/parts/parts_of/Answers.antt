use Rattle.std.proofs.Common.{ℕ, length, subst, sym}
use Rattle.std.proofs.lemmas.List.Sorted.{IsPermutation-trans}
use Rattle.hw_arcs.specs.Found.{AreKnown}
use Rattle.hw_arcs.specs.inner.Parts.{IsSearch}
use Rattle.hw_arcs.specs.inner.State.{AreRows}
use Rattle.hw_arcs.proofs.Places.{whole_moved}
use Rattle.hw_arcs.proofs.parts.parts_of.Goals as goal

pub step-requires-clause-known : goal.step-requires-clause-known
step-requires-clause-known c = subst (λ (count : ℕ). AreKnown c.args.arcs.now count) (sym c.loop-done.invariant.size) c.requires.known

pub step-requires-clause-rows : goal.step-requires-clause-rows
step-requires-clause-rows c = subst (λ (count : ℕ). AreRows c.args.arcs.now count c.args.rows.now) (sym c.loop-done.invariant.size) c.requires.rows

pub step-requires-clause-search : goal.step-requires-clause-search
step-requires-clause-search c = subst (λ (count : ℕ). IsSearch count c.loop-done.search) (sym c.loop-done.invariant.size) c.loop-done.invariant

pub loop-done-preserved : goal.loop-done-preserved
loop-done-preserved c = subst (λ (count : ℕ). IsSearch count c.step.new.self) c.loop-done.invariant.size c.in_ok-step.ensures

pub returns : goal.returns
returns c = whole_moved _ _ c.args.order.now (length c.args.rows.now)
    (IsPermutation-trans _ _ _ c.in_ok-sort_by_key.ensures.permutation c.in_ok-sort_by_key-2.ensures.permutation)
    c.in_ok-placed.ensures c.requires.whole
