use Rattle.std.proofs.Common.{rules, ◌≡◌, false, length, replicate, ap}
use Rattle.hw_fold.proofs.Result.{can-first}
use Rattle.hw_fold.proofs.folding.fold.Goals as goal

pub find_roots-requires-clause-begun : goal.find_roots-requires-clause-begun
find_roots-requires-clause-begun c =
    let own : c.in_ok-own.own.items ≡ replicate (length c.nets-count.result.now) false = c.in_ok-own.ensures.items_if_clones_equal (search rules) in
    let alone : c.in_ok-alone.alone.items ≡ replicate (length c.nets-count.result.now) false = c.in_ok-alone.ensures.items_if_clones_equal (search rules) in
    let done : c.in_ok-done.done.items ≡ replicate (length c.nets-count.result.now) false = c.in_ok-done.ensures.items_if_clones_equal (search rules) in
    rw (c.as_mut_slice.ensures.value, c.as_mut_slice-2.ensures.value, c.as_mut_slice-3.ensures.value, c.as_mut_slice-4.ensures.value, own, alone, done, c.in_ok-roots.ensures)
    (can-first c.args.netlist.now c.requires.runs (length c.nets-count.result.now) (ap length c.nets-count.ensures))
