use Rattle.std.proofs.Common.{◌++◌, ◌∙◌, ap}
use Rattle.std.proofs.lemmas.Result.{on_ok_weaker}
use Rattle.std.specs.List.{flat_map, range_with_len}
use Rattle.cmd_sample.specs.ModelText.{block_at, lines_at, chain_name, model_head, input_text, ends_text, end_lines, model_end}
use Rattle.cmd_sample.proofs.Texts.{six_appended}
use Rattle.cmd_sample.proofs.modeling.push_model.Goals as goal

pub returns : goal.returns
unfolding model_end
returns c =
    let last = c.bytes.ensures ∙ c.in_ok-last.ensures in
    on_ok_weaker c.push.result
    (six_appended c.args.text.now.items (model_head ++ input_text) (flat_map (block_at c.args.count) (range_with_len 1 c.args.count)) ends_text
    (flat_map (lines_at c.args.count) (range_with_len 1 c.args.count)) (end_lines (chain_name c.args.count)) model_end _ _ _ _ _ _
    c.in_ok-push_start.ensures c.in_ok-push_chain.ensures c.in_ok-push_ends.ensures c.in_ok-push_chain-2.ensures
    (c.in_ok-push_end_lines.ensures ∙ ap (λ name. c.push_chain-2.new.text.items ++ end_lines name) last))
    c.push.ensures
