use Rattle.std.proofs.Common.{◌≡◌, ℕ, length, subst, arith}
use Rattle.std.proofs.lemmas.Option.{slice_get-get_or}
use Rattle.dg_sim.specs.inner.ProgramSteps.{AreRooms}
use Rattle.dg_sim.proofs.Start.{rooms_more}
use Rattle.dg_sim.proofs.sim.pasts_of.Goals as goal

pub returns : goal.returns
returns c =
    let memories = c.args.memories.now in
    let all : c.loop-memory.memory-index ≡ length memories = omega (arith, c.loop-memory-test.false, c.loop-memory.auto.memory-index-end) in
    subst (λ (n : ℕ). AreRooms memories c.loop-memory.pasts.items n) all c.loop-memory.invariant

pub loop-memory-preserved : goal.loop-memory-preserved
loop-memory-preserved c =
    let at = slice_get-get_or c.args.memories.now c.loop-memory.memory-index _ c.loop-memory-test.true in
    rw c.in_ok-push.ensures.items (rooms_more c.args.memories.now c.loop-memory.pasts.items c.loop-memory.memory-index _ c.in_ok-new.field-0 at c.in_ok-new.ensures c.loop-memory.invariant)
