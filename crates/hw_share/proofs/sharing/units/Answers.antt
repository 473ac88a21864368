use Rattle.std.proofs.Common.{◌≡◌, arith}
use Rattle.hw_share.proofs.Ready.{ends-ready}
use Rattle.hw_share.proofs.UnitRows.{can-keep, all-shared}
use Rattle.hw_share.proofs.sharing.units.Goals as goal

pub multipliers-requires : goal.multipliers-requires
multipliers-requires c = rw c.as_slice.ensures.value (ends-ready c.args.net.now c.ends_of.new.net c.args.operations.now c.in_ok-ends.ends.items c.requires.can c.in_ok-ends.ensures)

pub results_of-requires : goal.results_of-requires
results_of-requires c =
    let made = rw c.as_slice.ensures.value at c.in_ok-numbers.ensures in
    let first : c.ends_of.new.net.cycles ≡ c.args.net.now.cycles = c.in_ok-ends.ensures.grown.appends.extends.cycles in
    let second : c.multipliers.new.net.cycles ≡ c.ends_of.new.net.cycles = made.grown.appends.extends.cycles in
    record {
      cycles = omega (arith, first, second, c.requires.low);
      can = rw c.as_slice-2.ensures
          (can-keep c.args.net.now c.ends_of.new.net c.multipliers.new.net c.args.operations.now
          c.in_ok-ends.ends.items c.in_ok-numbers.numbers c.requires.high c.requires.can c.in_ok-ends.ensures
          made);
    }

pub returns : goal.returns
returns c =
    let made = rw c.as_slice.ensures.value at c.in_ok-numbers.ensures in
    all-shared c.register_is_closed.ensures c.args.net.now c.ends_of.new.net
    c.multipliers.new.net c.results_of.new.net c.args.operations.now c.in_ok-ends.ends.items
    c.in_ok-numbers.numbers c.in_ok-results.results
    c.requires.can c.in_ok-ends.ensures made (rw c.as_slice-2.ensures at c.in_ok-results.ensures)
