use Rattle.std.proofs.Common.{◌≡◌, ℕ, ◌+◌, ◌++◌, ◌∙◌, ap, subst, append_assoc, arith}
use Rattle.std.specs.Prelude.{codes}
use Rattle.std.specs.List.{flat_map, range_with_len}
use Rattle.cmd_sample.specs.ModelText.{line_text}
use Rattle.cmd_sample.proofs.Texts.{texts_more}
use Rattle.cmd_sample.proofs.modeling.push_lines_to.Goals as goal

pub loop-port-preserved : goal.loop-port-preserved
loop-port-preserved c =
    texts_more (line_text (codes "In") c.args.name.now) 2 c.loop-port.port
    (c.loop-port.port + 2) c.push_line.new.text.items c.loop-port.text.items _ c.loop-port.invariant
    c.in_ok-push_line-2.ensures (omega arith)

pub returns : goal.returns
returns c =
    let end : c.loop-port.port ≡ c.args.more = omega arith in
    let put = subst (λ (n : ℕ). c.loop-port.text.items ≡ c.push_line.new.text.items ++ flat_map (line_text (codes "In") c.args.name.now) (range_with_len 2 n)) end c.loop-port.invariant in
    put ∙ ap (λ begun. begun ++ flat_map (line_text (codes "In") c.args.name.now) (range_with_len 2 c.args.more)) c.in_ok-push_line.ensures
    ∙ append_assoc c.args.text.now.items (line_text c.args.source.now c.args.name.now 1) (flat_map (line_text (codes "In") c.args.name.now) (range_with_len 2 c.args.more))
