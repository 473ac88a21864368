use Rattle.std.proofs.Common.{◌+◌, ℕ, ap, ◌∙◌, get_or, ◌≡◌, List, length, arith, subst}
use Rattle.std.proofs.lemmas.Option.{slice_get-get_or}
use Rattle.hw_slots.specs.declared.operation.Operation.{Operation}
use Rattle.hw_slots.proofs.Steps.{counts_none, counts_more, turns_none, turns_more}
use Rattle.std.proofs.lemmas.List.{take_all}
use Rattle.hw_slots.specs.inner.Counts.{AreCounts, AreTurns}
use Rattle.hw_slots.proofs.turns.turns_of.Goals as goal

abbrev none : Operation
none = record { kind = 0; period = 0; level = 0 }

pub loop-operation-init : goal.loop-operation-init
loop-operation-init c = record { turns = turns_none c.args.operations.now c.new-turns.result c.new-turns.ensures; counts = counts_none c.args.operations.now c.new-counts.result c.new-counts.ensures }

pub loop-operation-preserved : goal.loop-operation-preserved
loop-operation-preserved c =
    let at = slice_get-get_or c.args.operations.now c.loop-operation.operation-index none c.loop-operation-test.true in
    record {
      turns = rw c.in_ok-push.ensures.appended
          (turns_more c.args.operations.now c.loop-operation.operation-index
          (get_or c.args.operations.now c.loop-operation.operation-index none) c.get-turn.result
          c.loop-operation.counts c.loop-operation.turns at c.get-turn.ensures
          c.loop-operation.invariant.counts c.loop-operation.invariant.turns);
      counts = counts_more c.args.operations.now c.loop-operation.operation-index
          (get_or c.args.operations.now c.loop-operation.operation-index none) c.in_ok-count.count
          c.loop-operation.counts c.put.new.self at
          (c.in_ok-count.ensures ∙ ap (λ (n : ℕ). n + 1) c.get-turn.ensures) c.in_ok-put.ensures
          c.loop-operation.invariant.counts;
    }

pub returns-clause-turns : goal.returns-clause-turns
returns-clause-turns c =
    let low = c.loop-operation-test.false in
    let high = c.loop-operation.auto.operation-index-end in
    let all : c.loop-operation.operation-index ≡ length c.args.operations.now = omega (arith, low, high) in
    subst (λ (count : ℕ). AreTurns c.args.operations.now count c.loop-operation.turns) all c.loop-operation.invariant.turns

pub returns-clause-counts : goal.returns-clause-counts
returns-clause-counts c =
    let low = c.loop-operation-test.false in
    subst (λ (seen : List Operation). AreCounts seen c.loop-operation.counts) (take_all c.loop-operation.operation-index c.args.operations.now (omega (arith, low))) c.loop-operation.invariant.counts
