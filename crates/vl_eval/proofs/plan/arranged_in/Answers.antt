use Rattle.std.proofs.Common.{◌<◌, length, codes, subst, sym, arith}
use Rattle.std.proofs.lemmas.Option.{slice_get_within}
use Rattle.std.proofs.lemmas.Result.{IfOk-weaker}
use Rattle.vl_check.proofs.ScopeNames.{at-number}
use Rattle.vl_check.specs.Scope.{names_in}
use Rattle.vl_eval.specs.declared.arranging.Arranged.{Arranged}
use Rattle.vl_eval.specs.inner.Order.{IsArranged}
use Rattle.vl_eval.specs.inner.Ops.{IsOrdered}
use Rattle.vl_eval.specs.inner.PlanOperations.{AreNumbers}
use Rattle.vl_eval.proofs.Captures.{number-of, reset-known}
use Rattle.vl_eval.proofs.Rearrangement.{arranged-captured, arranged-wired}
use Rattle.vl_eval.proofs.Sounds.{scope-few}
use Rattle.vl_eval.proofs.plan.arranged_in.Goals as goal

pub fill-requires-clause-slots : goal.fill-requires-clause-slots
fill-requires-clause-slots c = subst (λ n. AreNumbers n c.in_ok-slots.slots.items) c.count-base.ensures c.in_ok-slots.ensures

pub arrange-requires : goal.arrange-requires
arrange-requires c =
    let done = (c.fill.ensures c.if-wanting.false).1 in
    subst (λ n. IsOrdered n c.fill.new.ops.code) (sym c.count-base.ensures) (done.captured.grows.ordered (done.wired.grows.ordered (record { at = λ k op below. absurd (omega (arith, below)) })))

pub returns : goal.returns
returns c =
    let m = c.args.source.now in
    let scope = c.args.checked.now.scope in
    let by_layer = c.meaning_by_layer.ensures.value in
    let a = c.requires.sound.acyclic in
    let few = scope-few m c.requires.sound.narrow a.driven a.once scope c.requires.scope in
    let built : Arranged = record { ops = c.fill.new.ops.code; slots = c.fill.new.slots; captures = c.fill.new.captured } in
    let slots = c.fill.new.slots.items in
    let done = (c.fill.ensures c.if-wanting.false).1 in
    let reset = number-of by_layer m scope c.requires.scope a.driven a.once few slots done.wires done.wired
    (codes "reset") (reset-known by_layer m scope c.requires.scope a.driven a.once few slots done.wires
    done.wired c.requires.sound.clocked) in
    let low = slice_get_within (names_in scope) reset.0 (codes "reset") (at-number scope.names.items reset.0 (codes "reset") reset.1) in
    let some : 0 < length (names_in scope) = omega (arith, low) in
    IfOk-weaker c.arrange.result _ _ (λ arranged sorted.
    let is = subst (λ n. IsArranged n built arranged) c.count-base.ensures sorted in
    record {
      wires = arranged.ops;
      wired = arranged-wired by_layer m scope some done.wires built arranged done.wired done.captured is;
      captured = arranged-captured by_layer m scope some done.wires built arranged done.wired done.captured is;
    }) c.arrange.ensures
