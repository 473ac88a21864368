use Rattle.std.proofs.Common.{arith, ◌≡◌, ℕ, subst}
use Rattle.hw_build.specs.inner.EndSearch.{AsksAll, hub_from, plain_want}
use Rattle.hw_build.proofs.AskLists.{asks_more}
use Rattle.hw_build.proofs.asks.ask_plain.Goals as goal

pub loop-element-preserved : goal.loop-element-preserved
loop-element-preserved c =
    asks_more c.args.asks.now.list.items c.loop-element.asks.list.items c.ask_later.new.asks.list.items
    c.args.asks.now.wants.items c.loop-element.asks.wants.items c.ask_later.new.asks.wants.items
    (hub_from c.args.first) (plain_want c.args.first c.args.frame c.args.to) c.loop-element.element
    c.loop-element.invariant c.in_ok-ask_later.ensures

pub returns : goal.returns
returns c =
    let done : c.loop-element.element ≡ c.args.width = omega (arith, c.loop-element-test.false, c.loop-element.auto.element-end) in
    subst (λ (n : ℕ). AsksAll c.args.asks.now.list.items c.loop-element.asks.list.items c.args.asks.now.wants.items
    c.loop-element.asks.wants.items (hub_from c.args.first) (plain_want c.args.first c.args.frame c.args.to) n)
    done c.loop-element.invariant
