use Rattle.std.proofs.Common.{rules, ◌≡◌, ◌+◌, ◌<◌, ℕ, subst}
use Rattle.std.specs.Int.{w128}
use Rattle.std.specs.Prelude.{◌^◌}
use Rattle.std.proofs.lemmas.Int.{to_z-of_z}
use Rattle.dg_model.specs.Attributes.{attributes_of}
use Rattle.hw_build.specs.inner.EndSearch.{AsksAll, hub_spread, late_want}
use Rattle.hw_build.proofs.AskLists.{asks_more, late_one}
use Rattle.hw_build.proofs.line_ends.ask_late.Goals as goal

pub overflow_add-hub : goal.overflow_add-hub
overflow_add-hub c =
    let inside : c.loop-element.element < (attributes_of c.args.checked.now.diagram).width_at c.args.block 1 = search rules in
    let few : c.args.first + c.element_in.result < 2 ^ 32 = rw c.element_in.ensures (c.requires.fits c.loop-element.element inside) in
    search (rules, few)

pub loop-element-preserved : goal.loop-element-preserved
loop-element-preserved c =
    asks_more c.args.asks.now.list.items c.loop-element.asks.list.items c.ask_later.new.asks.list.items
    c.args.asks.now.wants.items c.loop-element.asks.wants.items c.ask_later.new.asks.wants.items
    (hub_spread c.args.first c.args.width)
    (late_want c.args.checked.now.diagram c.args.block c.args.first c.args.width c.args.frame c.args.to)
    c.loop-element.element c.loop-element.invariant
    (late_one c.loop-element.asks.list.items c.ask_later.new.asks.list.items c.loop-element.asks.wants.items
    c.ask_later.new.asks.wants.items c.args.checked.now.diagram c.args.block c.args.first c.args.width
    c.loop-element.element c.element_in.result c.first_entry-initial.result c.args.frame c.args.to
    c.element_in.ensures c.first_entry-initial.ensures
    (rw (to_z-of_z w128 c.first_entry-initial.result
    (record { sfits = c.first_entry-initial.type_inv })) at c.in_ok-ask_later.ensures))

pub returns : goal.returns
returns c =
    let done : c.loop-element.element ≡ (attributes_of c.args.checked.now.diagram).width_at c.args.block 1 = search rules in
    subst (λ (n : ℕ). AsksAll c.args.asks.now.list.items c.loop-element.asks.list.items c.args.asks.now.wants.items
    c.loop-element.asks.wants.items (hub_spread c.args.first c.args.width)
    (late_want c.args.checked.now.diagram c.args.block c.args.first c.args.width c.args.frame c.args.to) n)
    done c.loop-element.invariant
