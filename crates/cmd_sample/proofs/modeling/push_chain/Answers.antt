use Rattle.std.proofs.Common.{◌≡◌, ℕ, ◌+◌, ◌++◌, ◌∙◌, ap, subst, arith}
use Rattle.std.specs.List.{flat_map, range_with_len}
use Rattle.cmd_sample.specs.Chain.{kind_of}
use Rattle.cmd_sample.specs.inner.Parts.{part_at, part_text}
use Rattle.cmd_sample.proofs.Congruence.{next_is}
use Rattle.cmd_sample.proofs.Texts.{texts_more}
use Rattle.cmd_sample.proofs.modeling.push_chain.Goals as goal

pub loop-before-preserved : goal.loop-before-preserved
loop-before-preserved c =
    let next = c.number_after-number.ensures ∙ next_is c.args.count c.loop-before.before c.loop-before.number c.loop-before.invariant.0 in
    let kind = c.of-kind.ensures ∙ ap (kind_of (c.loop-before.before + 1)) next in
    let put = c.in_ok-push_part.ensures ∙ ap (λ kind. c.loop-before.text.items ++ part_text c.args.part (c.loop-before.before + 1) kind) kind in
    (next, texts_more (part_at c.args.part c.args.count) 1 c.loop-before.before (c.loop-before.before + 1) c.args.text.now.items c.loop-before.text.items _ c.loop-before.invariant.1 put (omega arith))

pub returns : goal.returns
returns c =
    let end : c.loop-before.before ≡ c.args.count = omega arith in
    subst (λ (n : ℕ). c.loop-before.text.items ≡ c.args.text.now.items ++ flat_map (part_at c.args.part c.args.count) (range_with_len 1 n)) end c.loop-before.invariant.1
