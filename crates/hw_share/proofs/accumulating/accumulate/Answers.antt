use Rattle.std.proofs.Common.{slice_index_or}
use Rattle.std.proofs.lemmas.List.Elements.{Contains-get_or}
use Rattle.hw_share.proofs.AccumulatorNets.{gathered-part, source-read}
use Rattle.hw_share.proofs.accumulating.accumulate.Goals as goal

pub gate_of-requires-clause-some : goal.gate_of-requires-clause-some
gate_of-requires-clause-some c = c.requires.some

pub gate_of-requires-clause-slots : goal.gate_of-requires-clause-slots
gate_of-requires-clause-slots c = λ k d within.
    record { cycles = c.requires.cycles; period = c.requires.period; inside = c.requires.inside (slice_index_or c.args.slots.now k d) (Contains-get_or c.args.slots.now k d within) }

pub counter-requires-clause-cycles : goal.counter-requires-clause-cycles
counter-requires-clause-cycles c = rw c.in_ok-enable.ensures.grown.appends.extends.cycles c.requires.cycles

pub counter-requires-clause-period : goal.counter-requires-clause-period
counter-requires-clause-period c = c.requires.period

pub returns : goal.returns
returns c =
    let gate = c.in_ok-enable.ensures in
    let counted = c.in_ok-counter.ensures in
    let read = source-read c.args.net.now c.gate_of.new.net c.counter.new.self c.args.frame c.args.from c.args.slots.now c.in_ok-enable.enable c.nets.result.now
    c.index-nets-from.result c.requires gate counted.counted c.nets.ensures c.index-nets-from.is in
    gathered-part c.add.result c.accumulator_is_closed.ensures c.args.net.now c.gate_of.new.net c.counter.new.self c.add.new.self c.args.frame c.args.from c.args.slots.now
    c.in_ok-enable.enable _ c.requires gate counted.counted counted.found c.add.ensures.number (rw read at c.add.ensures.grown)
