use Rattle.std.proofs.Common.{◌≡◌}
use Rattle.std.specs.Int.{w128}
use Rattle.std.proofs.lemmas.Int.{to_z-of_z}
use Rattle.hw_net.proofs.Extends.{read-net}
use Rattle.hw_lines.proofs.Parts.{register-part}
use Rattle.hw_lines.proofs.registers.register_at.Goals as goal

pub returns : goal.returns
returns c =
    let there = c.requires.from.there in
    let read : c.index-nets-from.result ≡ there.net = read-net c.args.net.now.nets c.nets.result.now c.args.from there.net c.index-nets-from.result c.nets.ensures there.is c.index-nets-from.is in
    let first = to_z-of_z w128 c.args.first c.ranges.first in
    register-part c.args.net.now c.counter.new.self c.args.frame c.requires.period c.in_ok-counter.ensures.counted
    (c.in_ok-counter.field-0, c.in_ok-counter.ensures.found) c.add.new.self c.args.from there.net there.is
    there.word
    c.add.result c.args.slot c.args.first c.requires.from.has_first c.add.ensures.number (rw (read, first) at c.add.ensures.grown)
