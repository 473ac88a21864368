use Rattle.std.proofs.Common.{rules, ◌≡◌, ◌∙◌, ap, sym, arith, Option, None, length, replicate, slice_index_or, subst, ℕ}
use Rattle.std.proofs.lemmas.Option.{slice_get-get_or, get_or_from_slice_get}
use Rattle.hw_share.specs.declared.operation.Operation.{Operation}
use Rattle.hw_share.specs.declared.joining.Ends.{Ends}
use Rattle.hw_share.specs.inner.ChainEnds.{IsJoined, ends_at, AreEnds}
use Rattle.hw_share.specs.inner.ClockTests.{AreTests}
use Rattle.hw_share.proofs.ClockTests.{no-tests}
use Rattle.hw_share.proofs.ResultRegisters.{no-operation}
use Rattle.hw_share.proofs.OperationLists.{length-of-none}
use Rattle.hw_share.proofs.Ends.{ends-begun, ends-more, can-join, unit-there}
use Rattle.hw_share.proofs.joining.ends_of.Goals as goal

pub index-requires : goal.index-requires
index-requires c =
    let at = slice_get-get_or c.args.operations.now c.loop-one.one-index no-operation c.loop-one-test.true in
    omega (
      arith,
      unit-there c.args.net.now c.loop-one.net c.args.operations.now c.loop-one.ends.items
          c.loop-one.one-index (slice_index_or c.args.operations.now c.loop-one.one-index no-operation) c.requires.can
          c.loop-one.invariant.0 at,
      c.loop-one.ends.ok.0,
    )

pub index_mut-requires : goal.index_mut-requires
index_mut-requires c =
    let at = slice_get-get_or c.args.operations.now c.loop-one.one-index no-operation c.loop-one-test.true in
    omega (
      arith,
      unit-there c.args.net.now c.loop-one.net c.args.operations.now c.loop-one.ends.items
          c.loop-one.one-index (slice_index_or c.args.operations.now c.loop-one.one-index no-operation) c.requires.can
          c.loop-one.invariant.0 at,
      c.loop-one.ends.ok.0,
    )

pub join-requires-clause-can : goal.join-requires-clause-can
join-requires-clause-can c =
    let one : Operation = slice_index_or c.args.operations.now c.loop-one.one-index no-operation in
    let at = slice_get-get_or c.args.operations.now c.loop-one.one-index no-operation c.loop-one-test.true in
    let inside = unit-there c.args.net.now c.loop-one.net c.args.operations.now c.loop-one.ends.items c.loop-one.one-index one c.requires.can c.loop-one.invariant.0 at in
    let known = get_or_from_slice_get c.loop-one.ends.items one.unit (ends_at c.loop-one.ends.items one.unit) c.index.result.now (slice_get-get_or c.loop-one.ends.items one.unit None inside) in
    λ old is. can-join c.args.net.now c.loop-one.net c.args.operations.now c.loop-one.ends.items
    c.loop-one.one-index one c.requires.can c.loop-one.invariant.0 at c.requires.cycles old
    (sym (c.index.ensures ∙ known) ∙ is)

pub join-requires-clause-tests : goal.join-requires-clause-tests
join-requires-clause-tests c = (c.args.net.now, c.loop-one.invariant.0.grown.appends.extends, c.loop-one.invariant.1)

pub loop-one-init : goal.loop-one-init
loop-one-init c =
    let items : c.in_ok-ends.ends.items ≡ replicate c.in_ok-count.count None = search rules in (
      ends-begun c.args.net.now c.args.operations.now c.in_ok-ends.ends.items c.in_ok-count.count items c.in_ok-count.ensures (ap length items ∙ length-of-none c.in_ok-count.count),
      subst (AreTests c.args.net.now c.args.net.now) (sym c.new-moments.ensures.empty) (no-tests c.args.net.now c.args.net.now),
    )

pub loop-one-preserved : goal.loop-one-preserved
loop-one-preserved c =
    let one : Operation = slice_index_or c.args.operations.now c.loop-one.one-index no-operation in
    let at = slice_get-get_or c.args.operations.now c.loop-one.one-index no-operation c.loop-one-test.true in
    let inside = unit-there c.args.net.now c.loop-one.net c.args.operations.now c.loop-one.ends.items c.loop-one.one-index one c.requires.can c.loop-one.invariant.0 at in
    let known = get_or_from_slice_get c.loop-one.ends.items one.unit (ends_at c.loop-one.ends.items one.unit) c.index.result.now (slice_get-get_or c.loop-one.ends.items one.unit None inside) in
    let both = c.in_ok-own.ensures c.args.net.now c.loop-one.invariant.0.grown.appends.extends c.loop-one.invariant.1 in
    let joined : IsJoined c.args.net.now c.loop-one.net c.join.new.net (ends_at c.loop-one.ends.items one.unit) one c.in_ok-own.own =
    subst (λ (k : Option Ends). IsJoined c.args.net.now c.loop-one.net c.join.new.net k one c.in_ok-own.own) (c.index.ensures ∙ known) both.0 in (
      ends-more c.args.net.now c.loop-one.net c.args.operations.now c.loop-one.ends.items c.loop-one.one-index one
          c.requires.can c.loop-one.invariant.0 at c.join.new.net c.in_ok-own.own joined,
      both.1,
    )

pub returns : goal.returns
returns c =
    let low = c.loop-one-test.false in
    let high = c.loop-one.auto.one-index-end in
    let all : c.loop-one.one-index ≡ length c.args.operations.now = omega (arith, low, high) in
    subst (λ (count : ℕ). AreEnds c.args.net.now c.loop-one.net c.args.operations.now c.loop-one.ends.items count) all c.loop-one.invariant.0
