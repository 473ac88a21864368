use Rattle.std.proofs.Common.{◌≡◌, ◌∙◌, ℕ, suc, ◌+◌, ◌-◌, ◌<◌, subst, arith}
use Rattle.dg_model.specs.declared.diagram.Diagram.{Diagram}
use Rattle.dg_model.specs.Attributes.{attributes_of}
use Rattle.dg_model.specs.Solves.{IsShown, shown_width}
use Rattle.hw_build.specs.inner.HubPlaces.{hub_at}
use Rattle.hw_build.specs.inner.ElementLoop.{Reaches, port_start}
use Rattle.hw_build.proofs.HubNumbers.{hub_is, port_ends}
use Rattle.hw_build.proofs.blocks.put_port.Goals as goal

pub loop-element-init : goal.loop-element-init
loop-element-init c =
    let start : ℕ = port_start c.args.owner.setting.design.checked.now.diagram c.args.owner.block c.args.owner.one.now (c.args.port - 1) in
    let same : port_start c.args.owner.setting.design.checked.now.diagram c.args.owner.block c.args.owner.one.now
    (c.args.port - 1) ≡ port_start c.args.owner.setting.design.checked.now.diagram c.args.owner.block
    c.args.owner.one.now (c.args.port - 1) + 0 = omega arith in
    subst (λ (n : ℕ). Reaches c.args.owner.setting c.args.net.now n) same c.requires.before

pub put_element-requires-clause-before : goal.put_element-requires-clause-before
put_element-requires-clause-before c =
    let diagram : Diagram = c.args.owner.setting.design.checked.now.diagram in
    let below : c.loop-element.element < shown_width diagram
    (attributes_of diagram) c.args.owner.one.now.kind c.args.owner.block c.args.port =
    omega (arith, c.loop-element-test.true, c.shown_width-width.ensures) in
    let shown : IsShown diagram (attributes_of diagram) c.args.owner.block c.args.owner.one.now c.args.port
    c.loop-element.element = record {
      block_is = c.requires.is;
      port_from = c.requires.from;
      port_to =
          c.requires.to;
      element_below = below;
    } in
    subst (λ (n : ℕ). Reaches c.args.owner.setting c.loop-element.net n)
    (hub_is diagram c.args.owner.setting.firsts.now c.requires.set.stood c.args.owner.block c.args.owner.one.now
    c.args.port c.loop-element.element shown c.requires.other) c.loop-element.invariant

pub loop-element-preserved : goal.loop-element-preserved
loop-element-preserved c =
    let diagram : Diagram = c.args.owner.setting.design.checked.now.diagram in
    let below : c.loop-element.element < shown_width diagram
    (attributes_of diagram) c.args.owner.one.now.kind c.args.owner.block c.args.port =
    omega (arith, c.loop-element-test.true, c.shown_width-width.ensures) in
    let shown : IsShown diagram (attributes_of diagram) c.args.owner.block c.args.owner.one.now c.args.port
    c.loop-element.element = record {
      block_is = c.requires.is;
      port_from = c.requires.from;
      port_to =
          c.requires.to;
      element_below = below;
    } in
    let here = hub_is diagram c.args.owner.setting.firsts.now c.requires.set.stood c.args.owner.block c.args.owner.one.now c.args.port c.loop-element.element shown c.requires.other in
    let next : suc (hub_at c.args.owner.setting.firsts.now c.args.owner.block c.args.port c.loop-element.element)
    ≡ port_start diagram c.args.owner.block c.args.owner.one.now (c.args.port - 1)
    + (c.loop-element.element + 1) = omega (arith, here) in
    subst (λ (n : ℕ). Reaches c.args.owner.setting c.put_element.new.net n) next c.in_ok-put_element.ensures

pub returns : goal.returns
returns c =
    let diagram : Diagram = c.args.owner.setting.design.checked.now.diagram in
    let done : c.loop-element.element ≡ c.shown_width-width.result = omega (arith, c.loop-element-test.false, c.loop-element.auto.element-end) in
    let wide : c.loop-element.element ≡ shown_width diagram (attributes_of diagram) c.args.owner.one.now.kind c.args.owner.block c.args.port = done ∙ c.shown_width-width.ensures in
    subst (λ (n : ℕ). Reaches c.args.owner.setting c.loop-element.net n)
    (port_ends diagram c.args.owner.setting.firsts.now c.requires.set.stood c.args.owner.block
    c.args.owner.one.now c.args.port c.loop-element.element c.requires.from wide) c.loop-element.invariant

pub put_element-requires-clause-hand : goal.put_element-requires-clause-hand
put_element-requires-clause-hand c =
    let diagram : Diagram = c.args.owner.setting.design.checked.now.diagram in
    let below : c.loop-element.element < shown_width diagram
    (attributes_of diagram) c.args.owner.one.now.kind c.args.owner.block c.args.port =
    omega (arith, c.loop-element-test.true, c.shown_width-width.ensures) in
    record {
      shown = record { block_is = c.requires.is; port_from = c.requires.from; port_to = c.requires.to; element_below = below };
      other = c.requires.other;
      reading = c.requires.inputs;
    }
