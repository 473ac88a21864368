use Rattle.std.proofs.Common.{◌≡◌, ℕ, ◌+◌, ◌++◌, ◌∷◌, List, [], Option, sym, ap, subst, arith, add-one, refl, ◌∙◌, length}
use Rattle.hw_share.specs.declared.operation.Operation.{Operation}
use Rattle.hw_build.specs.inner.DesignTimes.{times_for}
use Rattle.hw_build.specs.inner.Factors.{AreFirsts, GathersFor, first_for}
use Rattle.hw_build.specs.inner.Operands.{offered_at}
use Rattle.hw_build.specs.inner.ResultNets.{shared_width}
use Rattle.hw_build.proofs.Factors.{firsts_none, firsts_more, gathers_none, gathers_then}
use Rattle.dg_model.specs.declared.diagram.Block.{Block}
use Rattle.dg_model.specs.declared.diagram.Diagram.{Diagram}
use Rattle.hw_build.proofs.shared.gather.Goals as goal

pub loop-place-init : goal.loop-place-init
loop-place-init c =
    let diagram = c.args.design.checked.now.diagram in
    let plan = c.args.design.plan.now in
    let none : c.new-firsts.result.items ≡ [] = c.new-firsts.ensures.items in (
      subst (λ (firsts : List (Option ℕ)). AreFirsts diagram plan firsts 0) (sym none) (firsts_none diagram plan),
      subst (λ (operations : List Operation). GathersFor c.args.design c.args.operands.now c.args.net.now c.args.net.now [] operations 0 0) (sym c.requires.none)
          (gathers_none diagram plan (times_for c.args.design) (offered_at diagram c.args.operands.now) c.args.net.now [] 0 refl),
    )

pub loop-place-preserved : goal.loop-place-preserved
loop-place-preserved c =
    let diagram = c.args.design.checked.now.diagram in
    let plan = c.args.design.plan.now in
    let place : ℕ = c.loop-place.place in
    let more : c.push.new.self.items ≡ c.loop-place.firsts.items ++ c.in_ok-first.first ∷ [] = c.in_ok-push.ensures.items in
    let zero_first : first_for c.args.design place ≡ 0 + first_for c.args.design place = omega arith in
    let next : first_for c.args.design place + shared_width diagram plan place ≡ first_for c.args.design (place + 1) = ap (first_for c.args.design) (sym (add-one place)) in
    let block = subst (λ (n : ℕ). GathersFor c.args.design c.args.operands.now c.loop-place.net
    c.gather_block.new.net c.loop-place.operations.items c.gather_block.new.operations.items n
    (shared_width diagram plan place)) zero_first c.in_ok-first.ensures.more in (
      subst (λ (firsts : List (Option ℕ)). AreFirsts diagram plan firsts (place + 1)) (sym more)
          (firsts_more diagram plan c.loop-place.firsts.items place c.in_ok-first.first c.loop-place.invariant.0
          c.in_ok-first.ensures.first),
      subst (λ (n : ℕ). GathersFor c.args.design c.args.operands.now c.args.net.now c.gather_block.new.net [] c.gather_block.new.operations.items 0 n) next
          (gathers_then diagram plan (times_for c.args.design)
          (offered_at diagram c.args.operands.now) c.args.net.now c.loop-place.net c.gather_block.new.net []
          c.loop-place.operations.items c.gather_block.new.operations.items 0
          (first_for c.args.design place) (shared_width diagram plan place)
          c.loop-place.invariant.1 block),
    )

pub overflow_cast-place : goal.overflow_cast-place
overflow_cast-place c =
    let blocks : length c.as_slice-place-end.result.now ≡ length c.args.design.checked.now.diagram.blocks =
    ap (λ (bs : List Block). length bs)
    (c.as_slice-place-end.ensures ∙ ap (λ (d : Diagram). d.blocks) c.diagram.ensures) in
    record { fits = omega (arith, blocks, c.loop-place-test.true, c.requires.can.designed.scheduled.checked.wired.size) }

pub gather_block-requires-clause-can : goal.gather_block-requires-clause-can
gather_block-requires-clause-can c = c.requires.can

pub gather_block-requires-clause-there : goal.gather_block-requires-clause-there
gather_block-requires-clause-there c =
    let blocks : length c.as_slice-place-end.result.now ≡ length c.args.design.checked.now.diagram.blocks =
    ap (λ (bs : List Block). length bs)
    (c.as_slice-place-end.ensures ∙ ap (λ (d : Diagram). d.blocks) c.diagram.ensures) in
    omega (arith, blocks, c.loop-place-test.true)

pub gather_block-requires-clause-count : goal.gather_block-requires-clause-count
gather_block-requires-clause-count c = let size = c.loop-place.invariant.1.size in omega (arith, size)

pub returns-clause-firsts : goal.returns-clause-firsts
returns-clause-firsts c =
    let blocks : length c.as_slice-place-end.result.now ≡ length c.args.design.checked.now.diagram.blocks =
    ap (λ (bs : List Block). length bs)
    (c.as_slice-place-end.ensures ∙ ap (λ (d : Diagram). d.blocks) c.diagram.ensures) in
    let all : c.loop-place.place ≡ length c.args.design.checked.now.diagram.blocks = omega (arith, blocks, c.loop-place-test.false, c.loop-place.auto.place-end) in
    subst (λ (n : ℕ). AreFirsts c.args.design.checked.now.diagram c.args.design.plan.now c.loop-place.firsts.items n) all c.loop-place.invariant.0

pub returns-clause-more : goal.returns-clause-more
returns-clause-more c =
    let blocks : length c.as_slice-place-end.result.now ≡ length c.args.design.checked.now.diagram.blocks =
    ap (λ (bs : List Block). length bs)
    (c.as_slice-place-end.ensures ∙ ap (λ (d : Diagram). d.blocks) c.diagram.ensures) in
    let all : c.loop-place.place ≡ length c.args.design.checked.now.diagram.blocks = omega (arith, blocks, c.loop-place-test.false, c.loop-place.auto.place-end) in
    subst (λ (n : ℕ). GathersFor c.args.design c.args.operands.now c.args.net.now c.loop-place.net [] c.loop-place.operations.items 0 (first_for c.args.design n)) all c.loop-place.invariant.1
