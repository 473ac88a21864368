use Rattle.std.proofs.Common.{◌≡◌, ◌+◌, ◌++◌, ◌∷◌, [], ℕ, None, arith, subst}
use Rattle.hw_build.specs.declared.asks.Ask.{Ask}
use Rattle.hw_build.specs.inner.EndSearch.{AsksAll, hub_from, unasked}
use Rattle.hw_build.proofs.AskLists.{asks_more, asks_now}
use Rattle.hw_build.proofs.asks.ask_signal.Goals as goal

pub loop-element-preserved : goal.loop-element-preserved
loop-element-preserved c =
    let one : Ask = record { hub = c.args.first + c.loop-element.element; want = None } in
    let grown : c.push.new.self.items ≡ c.loop-element.asks.list.items ++ one ∷ [] = c.in_ok-push.ensures.items in
    asks_more c.args.asks.now.list.items c.loop-element.asks.list.items c.push.new.self.items
    c.args.asks.now.wants.items c.loop-element.asks.wants.items c.loop-element.asks.wants.items
    (hub_from c.args.first) unasked c.loop-element.element c.loop-element.invariant
    (asks_now c.loop-element.asks.list.items c.push.new.self.items c.loop-element.asks.wants.items (c.args.first + c.loop-element.element) grown)

pub overflow_add-first : goal.overflow_add-first
overflow_add-first c = omega (arith, c.requires, c.loop-element-test.true)

pub returns : goal.returns
returns c =
    let all : c.loop-element.element ≡ c.args.width = omega (arith, c.loop-element-test.false, c.loop-element.auto.element-end) in
    subst (λ (n : ℕ). AsksAll c.args.asks.now.list.items c.loop-element.asks.list.items c.args.asks.now.wants.items
    c.loop-element.asks.wants.items (hub_from c.args.first) unasked n) all c.loop-element.invariant
