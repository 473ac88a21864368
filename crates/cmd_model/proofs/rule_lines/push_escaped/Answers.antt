use Rattle.std.proofs.Common.{ℕ, List, ◌++◌, get_or, take, sym, ap, ◌∙◌}
use Rattle.std.specs.List.{flat_map}
use Rattle.std.proofs.lemmas.List.{flat_map_more, take_more, take_all}
use Rattle.cmd_model.specs.RuleLine.{quoted_byte}
use Rattle.cmd_model.proofs.rule_lines.push_escaped.Goals as goal

pub loop-byte-preserved : goal.loop-byte-preserved
loop-byte-preserved c =
    let path = c.args.path.now in
    let i = c.loop-byte.byte-index in
    let before = c.args.line.now.items in
    c.in_ok-push.ensures ∙ ap (λ (said : List ℕ). c.loop-byte.line.items ++ said) c.quoted_byte-count.ensures.is ∙ ap (λ (front : List ℕ). front ++ quoted_byte (get_or path i 0)) c.loop-byte.invariant
    ∙ flat_map_more quoted_byte before (take i path) (get_or path i 0)
    ∙ ap (λ (done : List ℕ). before ++ flat_map quoted_byte done) (sym (take_more path i 0 c.loop-byte-test.true))

pub returns : goal.returns
returns c =
    c.loop-byte.invariant
    ∙ ap (λ (done : List ℕ). c.args.line.now.items ++ flat_map quoted_byte done) (take_all c.loop-byte.byte-index c.args.path.now c.loop-byte-test.false)
