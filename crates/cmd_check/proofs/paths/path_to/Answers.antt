use Rattle.std.proofs.Common.{◌-◌, ℕ, List, None, Some, Option, length, drop, ap, sym, ◌∙◌, subst, arith}
use Rattle.std.specs.Prelude.{slice_index_or}
use Rattle.std.proofs.lemmas.List.{length-set}
use Rattle.cmd_check.specs.inner.Way.{Follows}
use Rattle.cmd_check.proofs.WayBack.{block_inside, follow_begins, follow_ends, follow_more, follow_room, follow_there, tight_at, tight_inside}
use Rattle.cmd_check.proofs.PieceBytes.{none_of}
use Rattle.cmd_check.proofs.Rooms.{before_set, last_set}
use Rattle.cmd_check.proofs.paths.path_to.Goals as goal

pub loop-block-init : goal.loop-block-init
loop-block-init c =
    let room : List ℕ = c.args.room.now in
    let there = c.requires.there in
    let size = c.requires.room in
    let same = length-set room (length room - 1) c.args.end in
    record {
      way = subst (λ (path : List ℕ). Follows c.args.checked.now.diagram c.args.plan.now c.args.latencies.now c.args.end c.args.end path) (sym (last_set room c.args.end (omega (arith, there, size))))
          (follow_begins c.args.checked.now.diagram c.args.plan.now c.args.latencies.now c.args.end c.requires.latencies there);
      size = same ∙ size;
      within = omega (arith, same, there, size);
    }

pub source_of-block-requires : goal.source_of-block-requires
source_of-block-requires c = block_inside c.args.checked.now.diagram c.args.plan.now c.args.latencies.now c.args.end
    c.requires.latencies c.loop-block.block (drop c.loop-block.start c.loop-block.room) c.loop-block.invariant.way

pub bounds : goal.bounds
bounds c =
    let inside = tight_inside c.args.checked.now.diagram c.args.plan.now c.args.latencies.now c.args.end
    c.requires.latencies c.loop-block.block
    (drop c.loop-block.start c.loop-block.room) c.loop-block.invariant.way in
    let same = ap (λ (xs : List (Option ℕ)). length xs) c.as_slice-tight.ensures in
    omega (arith, inside, same)

pub overflow_sub-start-in-Some : goal.overflow_sub-start-in-Some
overflow_sub-start-in-Some c =
    let diagram = c.args.checked.now.diagram in
    let path : List ℕ = drop c.loop-block.start c.loop-block.room in
    let at = tight_at diagram c.args.plan.now c.args.latencies.now c.args.end c.requires.latencies
    c.loop-block.block path c.as_slice-tight.result.now
    (Some c.in-Some.number) c.loop-block.invariant.way c.as_slice-tight.ensures c.in-Some.is in
    let more = follow_more diagram c.args.plan.now c.args.latencies.now c.args.end c.requires.latencies
    c.loop-block.block c.in-Some.number c.source_of-block.result path c.loop-block.invariant.way at
    c.source_of-block.ensures.is c.source_of-block.ensures.there in
    let room = follow_room diagram c.args.plan.now c.args.latencies.now c.args.end c.requires.latencies
    c.source_of-block.result c.loop-block.start c.loop-block.room more c.loop-block.invariant.size
    c.loop-block.invariant.within in
    omega (arith, room)

pub loop-block-smaller : goal.loop-block-smaller
loop-block-smaller c = let some = overflow_sub-start-in-Some c in omega (arith, some)

pub loop-block-preserved : goal.loop-block-preserved
loop-block-preserved c =
    let diagram = c.args.checked.now.diagram in
    let path : List ℕ = drop c.loop-block.start c.loop-block.room in
    let at = tight_at diagram c.args.plan.now c.args.latencies.now c.args.end c.requires.latencies
    c.loop-block.block path c.as_slice-tight.result.now
    (Some c.in-Some.number) c.loop-block.invariant.way c.as_slice-tight.ensures c.in-Some.is in
    let more = follow_more diagram c.args.plan.now c.args.latencies.now c.args.end c.requires.latencies
    c.loop-block.block c.in-Some.number c.source_of-block.result path c.loop-block.invariant.way at
    c.source_of-block.ensures.is c.source_of-block.ensures.there in
    let some = overflow_sub-start-in-Some c in
    let within = c.loop-block.invariant.within in
    let size = length-set c.loop-block.room (c.loop-block.start - 1) c.source_of-block.result in
    record {
      way = subst (λ (xs : List ℕ). Follows diagram c.args.plan.now c.args.latencies.now c.args.end
          c.source_of-block.result xs) (sym (before_set c.loop-block.room c.loop-block.start
          c.source_of-block.result (omega (arith, some)) within)) more;
      size = size ∙ c.loop-block.invariant.size;
      within = omega (arith, size, within);
    }

pub returns-clause-tight : goal.returns-clause-tight
returns-clause-tight c =
    let diagram = c.args.checked.now.diagram in
    let path : List ℕ = drop c.loop-block.start c.loop-block.room in
    let none = none_of (slice_index_or c.as_slice-tight.result.now c.loop-block.block None) c.in_default.not-Some in
    let at = tight_at diagram c.args.plan.now c.args.latencies.now c.args.end c.requires.latencies
    c.loop-block.block path c.as_slice-tight.result.now None c.loop-block.invariant.way c.as_slice-tight.ensures
    none in
    follow_ends diagram c.args.plan.now c.args.latencies.now c.args.end c.requires.latencies c.loop-block.block path c.loop-block.invariant.way at

pub returns-clause-there : goal.returns-clause-there
returns-clause-there c = follow_there c.args.checked.now.diagram c.args.plan.now c.args.latencies.now c.args.end
    c.requires.latencies c.loop-block.block (drop c.loop-block.start c.loop-block.room) c.loop-block.invariant.way
