use Rattle.std.proofs.Common.{List, ◌∷◌, ◌<◌, refl, subst, drop, ◌+◌, arith, sym, ap, ◌∙◌}
use Rattle.std.proofs.lemmas.Bool.{true≢false}
use Rattle.std.proofs.lemmas.List.{drop_more, drop_all}
use Rattle.dg_waves.specs.declared.waves.Change.{Change}
use Rattle.dg_waves.specs.inner.Waves.{written}
use Rattle.dg_waves.proofs.WaveRounds.{readers_marked_more}
use Rattle.math_list.proofs.Places.{length_set}
use Rattle.dg_waves.proofs.waves.write.Goals as goal

pub loop-change-preserved : goal.loop-change-preserved
loop-change-preserved g c =
    let changes = c.args.changes.now in
    let change = c.change-item.result in
    let rest = drop (c.loop-change.change-index + 1) changes in
    let readers_of = g.R.Round.readers_of c.args.round.now in
    let more = drop_more changes c.loop-change.change-index change c.loop-change-test.true ∙ ap (λ (x : Change _). x ∷ rest) (sym c.change-item.is) in
    let marked = rw c.readers.ensures at c.in_ok-let_wait.ensures.marked in
    record {
      size = length_set c.loop-change.values change.block change.value ∙ c.loop-change.invariant.size;
      marks_size = omega arith;
      there = λ k d inside. omega (arith, c.in_ok-let_wait.ensures.there k d inside, c.loop-change.invariant.marks_size);
      wait = c.in_ok-let_wait.ensures.wait;
      once = c.in_ok-let_wait.ensures.once;
      left = ap (λ (left : List (Change _)). written left c.loop-change.values) (sym more) ∙ c.loop-change.invariant.left;
      marked = readers_marked_more readers_of c.loop-change.marks c.let_wait.new.marks changes change rest marked (rw more at c.loop-change.invariant.marked);
    }

pub loop-change-init : goal.loop-change-init
loop-change-init g c = record {
  size = c.requires.size;
  marks_size = c.requires.marks_size;
  there =
      c.requires.there;
  wait = c.requires.wait;
  once = c.requires.once;
  left =
      refl;
  marked = record { marked = λ block reader changes left. absurd (true≢false (sym changes ∙ left)) };
}

pub readers-requires : goal.readers-requires
readers-requires g c = record {
  there =
      subst (λ (x : Change _). x.block < g.R.Round.count c.args.round.now) (sym c.change-item.is)
      (c.requires.changes_there c.loop-change.change-index c.change-item.result c.loop-change-test.true);
}

pub let_wait-requires-clause-blocks_there : goal.let_wait-requires-clause-blocks_there
let_wait-requires-clause-blocks_there g c =
    let there = subst (λ (x : Change _). x.block < g.R.Round.count c.args.round.now) (sym c.change-item.is)
    (c.requires.changes_there c.loop-change.change-index c.change-item.result c.loop-change-test.true) in
    rw (c.readers.ensures, c.loop-change.invariant.marks_size) (g.met.R.Round.readers_there c.args.round.now c.change-item.result.block there)

pub let_wait-requires-clause-there : goal.let_wait-requires-clause-there
let_wait-requires-clause-there g c = rw c.loop-change.invariant.marks_size c.loop-change.invariant.there

pub let_wait-requires-clause-wait : goal.let_wait-requires-clause-wait
let_wait-requires-clause-wait g c = c.loop-change.invariant.wait

pub returns-clause-written : goal.returns-clause-written
returns-clause-written g c = rw (drop_all c.loop-change.change-index c.args.changes.now (omega (arith, c.loop-change-test.false))) at c.loop-change.invariant.left

pub returns-clause-there : goal.returns-clause-there
returns-clause-there g c = c.loop-change.invariant.there

pub returns-clause-wait : goal.returns-clause-wait
returns-clause-wait g c = c.loop-change.invariant.wait

pub returns-clause-marked : goal.returns-clause-marked
returns-clause-marked g c = rw (drop_all c.loop-change.change-index c.args.changes.now (omega (arith, c.loop-change-test.false))) at c.loop-change.invariant.marked

pub bounds-values-change : goal.bounds-values-change
bounds-values-change g c =
    let there = subst (λ (x : Change _). x.block < g.R.Round.count c.args.round.now) (sym c.change-item.is)
    (c.requires.changes_there c.loop-change.change-index c.change-item.result c.loop-change-test.true) in
    omega (arith, there, c.loop-change.invariant.size)
