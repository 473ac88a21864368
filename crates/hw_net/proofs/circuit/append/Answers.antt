use Rattle.std.proofs.Common.{◌≡◌, ◌∙◌, ap, length}
use Rattle.hw_net.proofs.Index.{index-kept, index-new}
use Rattle.hw_net.proofs.circuit.append.Goals as goal

pub returns-in_default-new_frame-clause-index : goal.returns-in_default-new_frame-clause-index
returns-in_default-new_frame-clause-index c =
    rw c.in_ok-push.ensures.appended (index-kept c.args.nets.now c.args.counters.now c.args.net c.requires c.in_default-new_frame.ensures)

pub returns-clause-index : goal.returns-clause-index
returns-clause-index c =
    let number : c.in-Ok.number ≡ length c.args.nets.now = c.in-Ok.ensures.1 ∙ ap length c.as_slice.ensures in
    let new = c.in-Some.ensures in
    let last = index-new c.args.nets.now c.args.counters.now c.args.net c.requires c.in-Some.frame new.0 c.put.new.self c.in-Ok.number number new.1 c.in_ok-put.ensures.found in
    rw c.in_default-push.ensures.appended last

pub returns-clause-grown : goal.returns-clause-grown
returns-clause-grown c = c.in_default-push.ensures.appended
