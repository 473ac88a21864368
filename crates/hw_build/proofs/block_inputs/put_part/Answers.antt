use Rattle.std.proofs.Common.{◌≡◌, ◌<◌, ℕ, ◌+◌, ◌-◌, ◌∙◌, ap, sym, subst, arith}
use Rattle.hw_build.specs.inner.Offers.{ArePartsTo}
use Rattle.hw_build.specs.inner.Operands.{offered_at}
use Rattle.hw_build.proofs.MuxNets.{parts_more, parts_next, widths}
use Rattle.hw_build.proofs.block_inputs.put_part.Goals as goal

pub loop-left-preserved : goal.loop-left-preserved
loop-left-preserved c =
    let port : c.args.port - 1 + 1 ≡ c.args.port = let from = c.requires.from in omega (arith, from) in
    let below : c.args.port - 1 < c.args.owner.one.now.inputs = let from = c.requires.from in let to = c.requires.to in omega (arith, from, to) in
    parts_more c.args.owner.setting c.args.owner.block c.args.owner.one.now c.requires.kind.0 c.requires.kind.1
    (c.args.port - 1) c.loop-left.left c.width_at-width.result c.at.result c.loop-left.parts c.push.new.self
    below
    (c.width_at-width.ensures ∙ ap (widths c.args.owner.setting c.args.owner.block c.args.owner.one.now) (sym port)) c.loop-left-test.true
    (c.at.ensures ∙ ap (λ (p : ℕ). offered_at c.args.owner.setting.design.checked.now.diagram c.args.owner.setting.operands.now c.args.owner.block p c.loop-left.left) (sym port))
    c.in_ok-push.ensures.appended c.loop-left.invariant

pub returns : goal.returns
returns c =
    let port : c.args.port - 1 + 1 ≡ c.args.port = let from = c.requires.from in omega (arith, from) in
    let last : c.loop-left.left ≡ c.width_at-width.result = let test = c.loop-left-test.false in let end = c.loop-left.auto.left-end in omega (arith, test, end) in
    subst (λ (n : ℕ). ArePartsTo c.args.owner.setting c.args.owner.block c.args.owner.one.now n 0 c.loop-left.parts) port
    (parts_next c.args.owner.setting c.args.owner.block c.args.owner.one.now (c.args.port - 1) c.width_at-width.result c.loop-left.parts
    (c.width_at-width.ensures ∙ ap (widths c.args.owner.setting c.args.owner.block c.args.owner.one.now) (sym port))
    (subst (λ (n : ℕ). ArePartsTo c.args.owner.setting c.args.owner.block c.args.owner.one.now (c.args.port - 1) n c.loop-left.parts) last c.loop-left.invariant))
