use Rattle.std.proofs.Common.{List, ℕ, ◌++◌, ap, subst, ◌∙◌}
use Rattle.std.proofs.lemmas.Result.{IfOk-weaker}
use Rattle.cmd_sample.specs.Stimulus.{sample_stimulus}
use Rattle.cmd_sample.specs.Summary.{equal_count, summary_text}
use Rattle.cmd_sample.proofs.bench.summary.Goals as goal

pub returns-clause-text : goal.returns-clause-text
returns-clause-text g c =
    IfOk-weaker c.summary_text.result _ _
    (λ text is. is ∙ ap (summary_text c.args.count c.args.made) (c.equal_count.ensures ∙ ap (equal_count c.args.response.now) c.told.ensures))
    c.summary_text.ensures

pub returns-clause-told : goal.returns-clause-told
returns-clause-told g c =
    let given = c.deref.ensures.value ∙ c.in_ok-push_all.ensures ∙ ap (λ (front : List ℕ). front ++ sample_stimulus c.args.count) c.new-stimulus.ensures.items in
    IfOk-weaker c.summary_text.result _ _
    (λ text is. subst (λ (stimulus : List ℕ). g.B.Bench.may_tell c.args.verilog.now stimulus (g.B.Bench.tells c.replay.new.self)) given c.in_ok-replay.ensures)
    c.summary_text.ensures
