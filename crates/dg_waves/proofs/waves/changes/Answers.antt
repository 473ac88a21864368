use Rattle.std.proofs.Common.{◌≡◌, ℕ, ◌<◌, false, List, ◌∷◌, length, ◌+◌, get_or, set, subst, drop, arith, ◌∙◌}
use Rattle.std.proofs.lemmas.List.{drop_more, drop_all}
use Rattle.std.proofs.lemmas.List.Elements.{All-push}
use Rattle.dg_waves.specs.declared.waves.Change.{Change}
use Rattle.dg_waves.specs.inner.Waves.{MarkedWait}
use Rattle.dg_waves.proofs.WaveRounds.{sought_kept, sought_found, unmarked}
use Rattle.math_list.proofs.Places.{length_set}
use Rattle.dg_waves.proofs.waves.changes.Goals as goal
use Rattle.dg_waves.proofs.waves.changes.Goals.{in-Some+in_ok-push, in_default}

pub loop-block-preserved : goal.loop-block-preserved
loop-block-preserved g c =
    let waiting = c.args.waiting.now in
    let block = get_or waiting c.loop-block.block-index 0 in
    let rest = drop (c.loop-block.block-index + 1) waiting in
    let more : drop c.loop-block.block-index waiting ≡ block ∷ rest = drop_more waiting c.loop-block.block-index 0 (omega arith) in
    let inside : block < length c.loop-block.marks = omega (arith, c.requires.between.there c.loop-block.block-index 0 c.loop-block-test.true, c.loop-block.invariant.marks_size) in
    let wait : MarkedWait (set c.loop-block.marks block false) rest =
    unmarked c.loop-block.marks block rest inside
    (subst (λ (left : List ℕ). MarkedWait c.loop-block.marks left) more c.loop-block.invariant.wait) in
    let before = rw more at c.loop-block.invariant.sought in
    elim c.match-other_value.branch [
      | in-Some+in_ok-push w ↦
          let items = w.in_ok-push.ensures.items in
          record {
            marks_size = length_set c.loop-block.marks block false ∙ c.loop-block.invariant.marks_size;
            sought = rw (w.found-is, items) (sought_found _ _ _ (record { block = block; value = w.in-Some.value }) rest w.in-Some.ensures.next w.in-Some.ensures.other before);
            there = rw (w.found-is, items) (All-push
                (λ (change : Change _). change.block < g.R.Round.count c.args.round.now) c.loop-block.found.items
                (record { block = block; value = w.in-Some.value }) c.loop-block.invariant.there
                (omega (arith, inside, c.loop-block.invariant.marks_size)));
            wait = wait;
          }
      | in_default w ↦ record {
        marks_size = length_set c.loop-block.marks block false ∙ c.loop-block.invariant.marks_size;
        sought = rw w.found-is (sought_kept _ _ _ block rest w.in_default.ensures.next before);
        there = rw w.found-is c.loop-block.invariant.there;
        wait = wait;
      }
    ]

pub loop-block-init : goal.loop-block-init
loop-block-init g c = record {
  marks_size = c.requires.between.marks_size;
  sought = rw c.new-found.ensures.items c.requires.between.sought;
  there = rw c.new-found.ensures.items (λ k d less. absurd (omega (arith, less)));
  wait = c.requires.between.wait;
}

pub other_value-requires-clause-size : goal.other_value-requires-clause-size
other_value-requires-clause-size g c = c.requires.between.size

pub other_value-requires-clause-there : goal.other_value-requires-clause-there
other_value-requires-clause-there g c = c.requires.between.there c.loop-block.block-index 0 c.loop-block-test.true

pub other_value-requires-clause-fit : goal.other_value-requires-clause-fit
other_value-requires-clause-fit g c = c.requires.between.fit

pub returns-clause-sought : goal.returns-clause-sought
returns-clause-sought g c = rw (drop_all c.loop-block.block-index c.args.waiting.now (omega (arith, c.loop-block-test.false))) at c.loop-block.invariant.sought

pub returns-clause-there : goal.returns-clause-there
returns-clause-there g c = c.loop-block.invariant.there

pub returns-clause-none : goal.returns-clause-none
returns-clause-none g c = rw (drop_all c.loop-block.block-index c.args.waiting.now (omega (arith, c.loop-block-test.false))) at c.loop-block.invariant.wait
