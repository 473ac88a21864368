use Rattle.std.proofs.Common.{◌≡◌, ◌<◌, ◌≤◌, ◌++◌, ◌∷◌, [], ℕ, List, ap, sym, length, set, ◌∙◌, arith, subst}
use Rattle.std.proofs.lemmas.Bool.Decides.{nat_tests}
use Rattle.vl_check.specs.inner.Order.{IsCycle}
use Rattle.vl_check.specs.inner.Walks.{State, IsTurned}
use Rattle.vl_check.proofs.Turns.{begun-with, none-left}
use Rattle.vl_check.proofs.Limits.{nearer}
use Rattle.vl_check.proofs.sorting.search.Goals as goal

pub loop-stage-smaller : goal.loop-stage-smaller
loop-stage-smaller c =
    let step = subst (λ found. IsTurned c.args.reads.now c.loop-stage.stage c.turn.new.stage c.turn.new.stack.items c.turn.new.order.items found) c.in_default.is c.in_ok-at.ensures in
    nearer c.args.reads.now c.loop-stage.stage c.turn.new.stage c.turn.new.stack.items c.turn.new.order.items step

pub bounds-stage-root : goal.bounds-stage-root
bounds-stage-root c =
    let long = c.requires.state.walk.long in
    let root = c.requires.root in
    omega (arith, long, root)

pub offset_bounds-stage-root : goal.offset_bounds-stage-root
offset_bounds-stage-root c =
    let long = c.requires.state.walk.long in
    let root = c.requires.root in
    let low : c.args.root < length c.args.stage.now = omega (arith, long, root) in
    omega arith

pub loop-stage-init : goal.loop-stage-init
loop-stage-init c =
    let stack : c.put.new.items.items ≡ c.args.root ∷ [] = c.in_ok-put.ensures ∙ ap (λ (xs : List ℕ). xs ++ c.args.root ∷ []) c.new-stack.ensures.items in
    let begun = begun-with c.args.reads.now c.args.stage.now c.args.order.now.items c.args.root c.requires.state c.requires.root c.requires.white in
    record {
      state = subst (λ (xs : List ℕ). State c.args.reads.now (set c.args.stage.now c.args.root 1) xs c.args.order.now.items) (sym stack) begun.0;
      root = begun.1;
      higher = begun.2;
    }

pub loop-stage-preserved : goal.loop-stage-preserved
loop-stage-preserved c =
    let step = subst (λ found. IsTurned c.args.reads.now c.loop-stage.stage c.turn.new.stage c.turn.new.stack.items c.turn.new.order.items found) c.in_default.is c.in_ok-at.ensures in
    let old = c.loop-stage.invariant in
    record {
      state = step.state;
      root = let a = old.root in let b = step.higher c.args.root in omega (arith, a, b);
      higher = λ v. let a = old.higher v in let b = step.higher v in omega (arith, a, b);
    }

pub turn-requires-clause-known : goal.turn-requires-clause-known
turn-requires-clause-known c = c.requires.known

pub turn-requires-clause-state : goal.turn-requires-clause-state
turn-requires-clause-state c = c.loop-stage.invariant.state

pub split_off-requires : goal.split_off-requires
split_off-requires c =
    let cycle = subst (λ found. IsTurned c.args.reads.now c.loop-stage.stage c.turn.new.stage c.turn.new.stack.items c.turn.new.order.items found) c.in-Some.is c.in_ok-at.ensures in
    subst (λ (n : ℕ). c.in-Some.at ≤ n) (sym c.turn.new.stack.ok.0) cycle.0

pub returns-in-Some : goal.returns-in-Some
returns-in-Some c =
    let cycle = subst (λ found. IsTurned c.args.reads.now c.loop-stage.stage c.turn.new.stage c.turn.new.stack.items c.turn.new.order.items found) c.in-Some.is c.in_ok-at.ensures in
    subst (λ (xs : List ℕ). IsCycle c.args.reads.now xs) (sym c.in_ok-split_off.ensures.tail) cycle.1

pub returns : goal.returns
returns c =
    let none : length c.as_slice.result.now ≡ 0 = grind (arith, nat_tests, c.loop-stage-test.ensures) in
    let stack = none-left c.loop-stage.stack.items (sym (ap length c.as_slice.ensures.value) ∙ none) in
    let old = c.loop-stage.invariant in
    (subst (λ (xs : List ℕ). State c.args.reads.now c.loop-stage.stage xs c.loop-stage.order.items) stack old.state, old.root, old.higher)

pub turn-requires-clause-some : goal.turn-requires-clause-some
turn-requires-clause-some c =
    let some : 0 < length c.as_slice.result.now = grind (arith, nat_tests, c.loop-stage-test.ensures) in
    subst (λ (xs : List ℕ). 0 < length xs) c.as_slice.ensures.value some
