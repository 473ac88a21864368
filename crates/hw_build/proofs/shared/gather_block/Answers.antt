use Rattle.std.proofs.Common.{◌≡◌, ℕ, ◌+◌, ◌++◌, ◌∷◌, [], length, sym, subst, ◌∙◌, arith, rules, false, true}
use Rattle.std.proofs.lemmas.Option.{slice_get_within}
use Rattle.hw_sched.specs.Slots.{Operation, operation}
use Rattle.hw_build.specs.inner.DesignTimes.{times_for}
use Rattle.hw_build.specs.inner.Factors.{IsGatheredFor, IsNumbered, first_for, GathersFor}
use Rattle.hw_build.specs.inner.Operands.{offered_at}
use Rattle.hw_build.proofs.Factors.{gathers_none, gathers_one, gathers_then}
use Rattle.hw_build.proofs.OperationNumbers.{operation_there}
use Rattle.dg_model.specs.Attributes.{attributes_of}
use Rattle.std.proofs.lemmas.Bool.{cond-false, cond-true}
use Rattle.hw_latency.specs.Shared.{is_shared}
use Rattle.hw_build.specs.inner.ResultNets.{shared_width}
use Rattle.hw_build.proofs.shared.gather_block.Goals as goal

pub returns-then-not-is_shared-clause-more : goal.returns-then-not-is_shared-clause-more
returns-then-not-is_shared-clause-more c =
    let diagram = c.args.design.checked.now.diagram in
    let plan = c.args.design.plan.now in
    let other : c.is_shared.result ≡ false = search rules in
    let none : shared_width diagram plan c.args.block ≡ 0 =
    cond-false {A = ℕ} (is_shared diagram (attributes_of diagram) plan c.args.block)
    ((attributes_of diagram).width_at c.args.block 1) 0 (sym c.is_shared.ensures ∙ other) in
    subst (λ (n : ℕ). GathersFor c.args.design c.args.operands.now c.args.net.now c.args.net.now
    c.args.operations.now.items c.args.operations.now.items (first_for c.args.design c.args.block) n) (sym none)
    (gathers_none diagram plan (times_for c.args.design) (offered_at diagram c.args.operands.now) c.args.net.now c.args.operations.now.items (first_for c.args.design c.args.block) c.requires.count)

pub loop-element-init : goal.loop-element-init
loop-element-init c = gathers_none c.args.design.checked.now.diagram c.args.design.plan.now
    (times_for c.args.design) (offered_at c.args.design.checked.now.diagram c.args.operands.now) c.args.net.now
    c.args.operations.now.items (first_for c.args.design c.args.block) c.requires.count

pub shared_of-requires-clause-is : goal.shared_of-requires-clause-is
shared_of-requires-clause-is c =
    let shared : c.is_shared.result ≡ true = search rules in
    let diagram = c.args.design.checked.now.diagram in
    let inside = slice_get_within _ c.args.block c.block_at-one.result.now c.block_at-one.ensures in
    let width = c.own_width-element-end.ensures in
    let test = c.loop-element-test.true in
    let there = operation_there diagram c.args.design.plan.now c.args.block c.loop-element.element inside (sym c.is_shared.ensures ∙ shared) (omega (arith, width, test)) in
    let size : c.len-number.result ≡ length c.loop-element.operations.items = omega (arith, c.len-number.ensures) in
    let number : first_for c.args.design c.args.block + c.loop-element.element ≡ c.len-number.result = sym (size ∙ c.loop-element.invariant.size) in
    subst (λ (n : ℕ). IsNumbered c.args.design n (operation c.args.block c.loop-element.element)) number there

pub loop-element-preserved : goal.loop-element-preserved
loop-element-preserved c =
    let shared : c.is_shared.result ≡ true = search rules in
    let diagram = c.args.design.checked.now.diagram in
    let plan = c.args.design.plan.now in
    let o : Operation = operation c.args.block c.loop-element.element in
    let count : ℕ = first_for c.args.design c.args.block + c.loop-element.element in
    let inside = slice_get_within _ c.args.block c.block_at-one.result.now c.block_at-one.ensures in
    let width = c.own_width-element-end.ensures in
    let test = c.loop-element-test.true in
    let there = operation_there diagram plan c.args.block c.loop-element.element inside (sym c.is_shared.ensures ∙ shared) (omega (arith, width, test)) in
    let size : c.len-number.result ≡ length c.loop-element.operations.items = omega (arith, c.len-number.ensures) in
    let number : c.len-number.result ≡ count = size ∙ c.loop-element.invariant.size in
    let made = subst (λ (n : ℕ). IsGatheredFor c.args.design c.args.operands.now c.loop-element.net c.shared_of.new.net n o c.in_ok-made.made) number c.in_ok-made.ensures.made in
    let more : c.push.new.self.items ≡ c.loop-element.operations.items ++ c.in_ok-made.made ∷ [] = c.in_ok-push.ensures.items in
    let one = gathers_one diagram plan (times_for c.args.design)
    (offered_at diagram c.args.operands.now) c.loop-element.net c.shared_of.new.net
    c.loop-element.operations.items count o c.in_ok-made.made c.loop-element.invariant.size there
    c.in_ok-made.ensures.adds made in
    rw more (gathers_then diagram plan (times_for c.args.design)
    (offered_at diagram c.args.operands.now) c.args.net.now c.loop-element.net c.shared_of.new.net
    c.args.operations.now.items c.loop-element.operations.items
    (c.loop-element.operations.items ++ c.in_ok-made.made ∷ [])
    (first_for c.args.design c.args.block) c.loop-element.element 1 c.loop-element.invariant one)

pub own_width-element-end-requires : goal.own_width-element-end-requires
own_width-element-end-requires c = record { there = slice_get_within _ c.args.block c.block_at-one.result.now c.block_at-one.ensures }

pub shared_of-requires-clause-block : goal.shared_of-requires-clause-block
shared_of-requires-clause-block c = c.block_at-one.ensures

pub returns-clause-more : goal.returns-clause-more
returns-clause-more c =
    let width = c.own_width-element-end.ensures in
    let low = c.loop-element-test.false in
    let high = c.loop-element.auto.element-end in
    let shared : c.is_shared.result ≡ true = search rules in
    let all : c.loop-element.element ≡ shared_width c.args.design.checked.now.diagram c.args.design.plan.now c.args.block =
    omega (arith, width, low, high) ∙ sym
    (cond-true {A = ℕ} (is_shared c.args.design.checked.now.diagram
    (attributes_of c.args.design.checked.now.diagram) c.args.design.plan.now c.args.block)
    ((attributes_of c.args.design.checked.now.diagram).width_at c.args.block 1) 0
    (sym c.is_shared.ensures ∙ shared)) in
    subst (λ (n : ℕ). GathersFor c.args.design c.args.operands.now c.args.net.now c.loop-element.net
    c.args.operations.now.items c.loop-element.operations.items (first_for c.args.design c.args.block) n) all
    c.loop-element.invariant
