use Rattle.std.proofs.Common.{◌≡◌, ℕ, Vec, Global, ◌<◌, false, Some, List, [], ◌∷◌, ◌++◌, length, ◌+◌, get_or, subst, drop, arith, length-append, ap, ◌∙◌}
use Rattle.std.proofs.lemmas.Grind.{common_steps}
use Rattle.std.proofs.lemmas.List.{drop_more}
use Rattle.std.proofs.lemmas.Option.{slice_get-get_or}
use Rattle.dg_waves.specs.inner.Waves.{Marked}
use Rattle.dg_waves.proofs.WaveRounds.{waits_more, marked_more, marked_same, counted_more}
use Rattle.dg_waves.proofs.waves.let_wait.Goals as goal
use Rattle.dg_waves.proofs.waves.let_wait.Goals.{then-not-marks-block+in_ok-push, else-not-marks-block}

pub loop-block-preserved : goal.loop-block-preserved
loop-block-preserved c =
    let blocks = c.args.blocks.now in
    let block = get_or blocks c.loop-block.block-index 0 in
    let rest = drop (c.loop-block.block-index + 1) blocks in
    let more : drop c.loop-block.block-index blocks ≡ block ∷ rest = drop_more blocks c.loop-block.block-index 0 (omega arith) in
    let before : Marked c.args.marks.now c.loop-block.marks blocks (block ∷ rest) =
    subst (λ (left : List ℕ). Marked c.args.marks.now c.loop-block.marks blocks left) more
    c.loop-block.invariant.marked in
    let inside : block < length c.loop-block.marks = omega (arith, c.requires.blocks_there c.loop-block.block-index 0 c.loop-block-test.true, c.loop-block.invariant.size) in
    elim c.if-not-marks-block.branch [
      | then-not-marks-block+in_ok-push w ↦
          let items : c.if-not-marks-block.waiting.items ≡ c.loop-block.waiting.items ++ block ∷ [] = ap (λ (v : Vec ℕ Global). v.items) w.waiting-is ∙ w.in_ok-push.ensures.items in
          record {
            size = omega arith;
            there = grind (arith, common_steps, items, c.loop-block.invariant.there);
            wait = rw (w.marks-is, items) (waits_more c.loop-block.marks c.loop-block.waiting.items block c.loop-block.invariant.wait);
            once =
                let more_marked = counted_more c.loop-block.marks block (slice_get-get_or c.loop-block.marks block false inside ∙ ap Some w.if-not-marks-block.true) in
                rw (w.marks-is, items, more_marked) (omega (arith, length-append {A = ℕ}, c.loop-block.invariant.once));
            marked = rw w.marks-is (marked_more c.args.marks.now c.loop-block.marks blocks block rest inside before);
          }
      | else-not-marks-block w ↦ record {
        size = omega arith;
        there = rw w.waiting-is c.loop-block.invariant.there;
        wait = rw (w.marks-is, w.waiting-is) c.loop-block.invariant.wait;
        once = rw (w.marks-is, w.waiting-is) c.loop-block.invariant.once;
        marked = rw w.marks-is (marked_same c.args.marks.now c.loop-block.marks blocks block rest (slice_get-get_or c.loop-block.marks block false inside ∙ ap Some w.if-not-marks-block.false) before);
      }
    ]
