use Rattle.std.proofs.Common.{ℕ, List, [], ◌++◌, map, codes, get_or, take, sym, ap, ◌∙◌, append_assoc}
use Rattle.std.specs.Prelude.{slice_index_or}
use Rattle.std.proofs.lemmas.List.{flat_map_more, take_more, take_all}
use Rattle.dg_model.specs.declared.diagram.Block.{Block}
use Rattle.cmd_model.specs.RuleLine.{cycle_text, quoted_path}
use Rattle.cmd_model.proofs.rule_lines.push_cycle.Goals as goal

pub loop-number-preserved : goal.loop-number-preserved
loop-number-preserved c =
    let paths = map (λ (block : Block). block.path) c.args.blocks.now in
    let numbers = c.args.numbers.now in
    let i = c.loop-number.number-index in
    let before = c.args.line.now.items in
    let path = quoted_path (slice_index_or paths (get_or numbers i 0) []) in
    c.in_ok-push_path_of.ensures ∙ ap (λ (front : List ℕ). front ++ path) c.in_ok-push.ensures ∙ append_assoc c.loop-number.line.items (codes " ") path
    ∙ ap (λ (front : List ℕ). front ++ (codes " " ++ path)) c.loop-number.invariant
    ∙ flat_map_more (λ block. codes " " ++ quoted_path (slice_index_or paths block [])) before (take i numbers) (get_or numbers i 0)
    ∙ ap (λ (done : List ℕ). before ++ cycle_text paths done) (sym (take_more numbers i 0 c.loop-number-test.true))

pub returns : goal.returns
returns c =
    let paths = map (λ (block : Block). block.path) c.args.blocks.now in
    c.loop-number.invariant
    ∙ ap (λ (done : List ℕ). c.args.line.now.items ++ cycle_text paths done) (take_all c.loop-number.number-index c.args.numbers.now c.loop-number-test.false)
