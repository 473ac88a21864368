use Rattle.std.proofs.Common.{◌≡◌, ℕ, List, [], ◌++◌, codes, map, ap, ◌∙◌, append_assoc}
use Rattle.std.specs.Fmt.{decimal}
use Rattle.std.proofs.lemmas.Result.{IfOk-weaker}
use Rattle.dg_model.specs.declared.diagram.Block.{Block}
use Rattle.dg_model.specs.RuleTable.{rule_number, rule_word}
use Rattle.cmd_model.specs.RuleLine.{place_text, shown_text}
use Rattle.cmd_model.proofs.rule_lines.rule_text.Goals as goal

line_put : (rule number behind word close place shown end start one two three four five : List ℕ) → start ≡ []
    → one ≡ start ++ (rule ++ number) → two ≡ one ++ (behind ++ word) → three ≡ two ++ (close ++ place)
    → four ≡ three ++ shown → five ≡ four ++ end
    → five ≡ rule ++ number ++ behind ++ word ++ close ++ place ++ shown ++ end
line_put rule number behind word close place shown end start one two three four five z p q r s t = rw (t, s, r, q, p, z) (simp append_assoc)

pub returns : goal.returns
returns c =
    let shown = shown_text (map (λ (block : Block). block.path) c.args.blocks.now) c.args.fault.now.shown in
    let told = λ (number : ℕ) (word place : List ℕ). codes "rule " ++ decimal number ++ codes " (" ++ word ++ codes "): " ++ place_text place ++ shown ++ codes "\n" in
    let line = c.push.new.text.items in
    let line_is =
    line_put (codes "rule ") (decimal c.from.result) (codes " (") c.word.result.now (codes "): ") (place_text c.bytes.result.now) shown (codes "\n") c.new-line.result.items _ _ _ _ line
    c.new-line.ensures.items c.in_ok-push_value.ensures c.in_ok-push_value-2.ensures c.in_ok-push_value-3.ensures c.in_ok-push_shown.ensures c.in_ok-push.ensures
    ∙ ap (λ (number : ℕ). told number c.word.result.now c.bytes.result.now) (c.from.ensures ∙ c.number.ensures)
    ∙ ap (λ (word : List ℕ). told (rule_number c.args.fault.now.rule) word c.bytes.result.now) c.word.ensures
    ∙ ap (told (rule_number c.args.fault.now.rule) (rule_word c.args.fault.now.rule)) c.bytes.ensures in
    IfOk-weaker c.from_vec.result _ _ (λ text is. is ∙ line_is) c.from_vec.ensures
