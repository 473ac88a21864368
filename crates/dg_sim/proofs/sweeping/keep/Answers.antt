use Rattle.std.proofs.Common.{List, length, ap, arith}
use Rattle.std.proofs.lemmas.Option.{slice_get_within}
use Rattle.dg_sim.specs.declared.program.Memory.{Memory}
use Rattle.dg_sim.proofs.sweeping.keep.Goals as goal

pub returns-clause-each : goal.returns-clause-each
returns-clause-each c = λ m memory past at_memory at_past.
    let many = ap (λ (xs : List Memory). length xs) c.as_slice-memory-items.ensures in
    c.loop-m.invariant.done m memory past (omega (arith, c.loop-m-test.false, many, slice_get_within c.args.program.now.memories m memory at_memory)) at_memory at_past
