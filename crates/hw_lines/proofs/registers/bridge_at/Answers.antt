use Rattle.std.proofs.Common.{◌≡◌}
use Rattle.hw_net.proofs.Extends.{read-net}
use Rattle.hw_lines.proofs.Parts.{bridge-part}
use Rattle.hw_lines.proofs.registers.bridge_at.Goals as goal

pub returns : goal.returns
returns c =
    let there = c.requires.from in
    let read : c.index-nets-from.result ≡ there.net = read-net c.args.net.now.nets c.nets.result.now c.args.from there.net c.index-nets-from.result c.nets.ensures there.is c.index-nets-from.is in
    bridge-part c.args.net.now c.counter.new.self c.args.frame c.requires.period c.in_ok-counter.ensures.counted
    (c.in_ok-counter.field-0, c.in_ok-counter.ensures.found) c.add.new.self c.args.from there.net there.is
    there.word
    c.add.result c.args.live c.requires.live c.add.ensures.number (rw read at c.add.ensures.grown)
