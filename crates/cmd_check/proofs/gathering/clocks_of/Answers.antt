use Rattle.std.proofs.Common.{◌≡◌, ℕ, List, length, ap, arith}
use Rattle.std.proofs.lemmas.Result.{IfOk-weaker}
use Rattle.hw_rules.specs.Times.{timing_in}
use Rattle.cmd_check.proofs.FirstNumbers.{shown_at}
use Rattle.cmd_check.proofs.gathering.clocks_of.Goals as goal

pub bounds-as_slice-block : goal.bounds-as_slice-block
bounds-as_slice-block c =
    let same : length c.as_slice.result.now ≡ length c.args.planned.now.times.latencies.lat = ap (λ (xs : List ℕ). length xs) c.as_slice.ensures in
    omega (arith, c.requires.there, same, c.requires.times.latencies.size)

pub bounds-as_slice-block-2 : goal.bounds-as_slice-block-2
bounds-as_slice-block-2 c =
    let same : length c.as_slice-2.result.now ≡ length c.args.planned.now.times.slots.ready = ap (λ (xs : List ℕ). length xs) c.as_slice-2.ensures in
    omega (arith, c.requires.there, same, c.requires.times.slots.ready.size)

pub returns-in-Some : goal.returns-in-Some
returns-in-Some c =
    let planned = c.args.planned.now in
    IfOk-weaker c.total.result _ _
    (λ sum is. shown_at c.args.checked.now.diagram planned.resolved
    (timing_in planned.times) planned.times.slots.ready c.as_slice.result.now c.as_slice-2.result.now
    c.args.block c.from.result c.in-Some.clocks sum c.requires.there c.requires.times.slots.ready
    c.as_slice.ensures c.as_slice-2.ensures c.from.ensures c.in-Some.ensures.1 is) c.total.ensures
