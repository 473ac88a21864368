use Rattle.std.proofs.Common.{◌≡◌, ℕ, length, slice_index_or, subst, arith}
use Rattle.std.proofs.lemmas.Option.{slice_get-get_or}
use Rattle.hw_share.specs.declared.operation.Operation.{Operation}
use Rattle.hw_share.specs.inner.Steps.{AreResults}
use Rattle.hw_share.proofs.Growth.{there-later}
use Rattle.hw_share.proofs.ResultRegisters.{results-begun, results-more, no-operation}
use Rattle.hw_share.proofs.Numbers.{zero-in}
use Rattle.hw_share.proofs.keeping.results_of.Goals as goal

pub bounds-numbers-one : goal.bounds-numbers-one
bounds-numbers-one c =
    let one : Operation = slice_index_or c.args.operations.now c.loop-one.one-index no-operation in
    c.requires.can.inside c.loop-one.one-index one (slice_get-get_or c.args.operations.now c.loop-one.one-index no-operation c.loop-one-test.true)

pub offset_bounds-numbers-one : goal.offset_bounds-numbers-one
offset_bounds-numbers-one c =
    let one : Operation = slice_index_or c.args.operations.now c.loop-one.one-index no-operation in
    let inside = c.requires.can.inside c.loop-one.one-index one (slice_get-get_or c.args.operations.now c.loop-one.one-index no-operation c.loop-one-test.true) in
    omega (arith, inside)

pub overflow_cast-one : goal.overflow_cast-one
overflow_cast-one c =
    let one : Operation = slice_index_or c.args.operations.now c.loop-one.one-index no-operation in
    record { fits = c.requires.can.low c.loop-one.one-index one (slice_get-get_or c.args.operations.now c.loop-one.one-index no-operation c.loop-one-test.true) }

pub register_at-requires : goal.register_at-requires
register_at-requires c =
    let inv = c.loop-one.invariant in
    let one : Operation = slice_index_or c.args.operations.now c.loop-one.one-index no-operation in
    let at = slice_get-get_or c.args.operations.now c.loop-one.one-index no-operation c.loop-one-test.true in
    let cycles : c.loop-one.net.cycles ≡ c.args.net.now.cycles = inv.grown.appends.extends.cycles in
    let there = there-later c.args.net.now c.loop-one.net (slice_index_or c.args.numbers.now one.unit 0) inv.grown.appends.extends (c.requires.can.there c.loop-one.one-index one at) in
    record {
      cycles = omega (arith, cycles, c.requires.cycles);
      period = c.requires.can.some c.loop-one.one-index one at;
      from = record { there = there; has_first = zero-in there.net.width there.net.signed there.word };
    }

pub loop-one-init : goal.loop-one-init
loop-one-init c = rw c.new-results.ensures (results-begun c.args.net.now c.args.operations.now c.args.numbers.now)

pub loop-one-preserved : goal.loop-one-preserved
loop-one-preserved c =
    let one : Operation = slice_index_or c.args.operations.now c.loop-one.one-index no-operation in
    let at = slice_get-get_or c.args.operations.now c.loop-one.one-index no-operation c.loop-one-test.true in
    let put = c.in_ok-result.ensures in
    rw c.in_ok-push.ensures.appended
    (results-more c.args.net.now c.loop-one.net c.register_at.new.net c.args.operations.now c.args.numbers.now
    c.loop-one.results c.loop-one.one-index c.in_ok-result.result one c.requires.can c.loop-one.invariant at
    put.is (record { appends = put.grown.appends; parts = put.grown.parts; registers = put.few }))

pub returns : goal.returns
returns c =
    let low = c.loop-one-test.false in
    let high = c.loop-one.auto.one-index-end in
    let all : c.loop-one.one-index ≡ length c.args.operations.now = omega (arith, low, high) in
    subst (λ (count : ℕ). AreResults c.args.net.now c.loop-one.net c.args.operations.now c.args.numbers.now c.loop-one.results count) all c.loop-one.invariant
