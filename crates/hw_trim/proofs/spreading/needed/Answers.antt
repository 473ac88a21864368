use Rattle.std.proofs.Common.{rules, ◌≡◌, false, length, replicate}
use Rattle.hw_trim.proofs.Marks.{marking-none}
use Rattle.hw_trim.proofs.spreading.needed.Goals as goal

pub mark_needed-requires-clause-marking : goal.mark_needed-requires-clause-marking
mark_needed-requires-clause-marking c =
    let items : c.in_ok-marks.marks.items ≡ replicate (length c.nets.result.now) false = c.in_ok-marks.ensures.items_if_clones_equal (search rules) in
    rw (c.as_mut_slice.ensures.value, items, c.new-order.ensures.items) (marking-none (length c.nets.result.now))
