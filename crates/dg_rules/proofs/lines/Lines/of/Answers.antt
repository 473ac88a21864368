use Rattle.std.proofs.Common.{◌≡◌, ◌+◌, suc, cond, take, slice_get, bytes_eq, Some, sym, ap, ◌∙◌, arith}
use Rattle.std.specs.Prelude.{position}
use Rattle.std.proofs.lemmas.Map.Text.{btree_map_updates_str}
use Rattle.std.proofs.lemmas.Option.{slice_get-get_or}
use Rattle.dg_rules.proofs.PlanLines.{has, one_more}
use Rattle.dg_rules.proofs.lines.Lines.of.Goals as goal

pub loop-number-preserved : goal.loop-number-preserved
loop-number-preserved c = λ path.
    let lines = c.args.pipelines.now in
    let i = c.loop-number.number in
    let name = c.bytes.result.now in
    let line = c.index-pipelines-number.result in
    let at : slice_get lines i ≡ Some line = slice_get-get_or lines i line c.loop-number-test.true ∙ ap Some (sym c.index-pipelines-number.is) in
    let more : suc i ≡ i + 1 = omega arith in
    btree_map_updates_str name c.loop-number.by_path c.insert.new.self (Some i) c.in_ok-insert.ensures.updates path
    ∙ ap (cond (bytes_eq name path) (Some i)) (c.loop-number.invariant path)
    ∙ ap (λ text. cond (bytes_eq text path) (Some i) (position (has path) (take i lines))) c.bytes.ensures
    ∙ one_more lines i line path c.requires at
    ∙ ap (λ n. position (has path) (take n lines)) more
