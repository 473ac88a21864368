use Rattle.std.proofs.Common.{List, ℕ, ap, subst, ◌∙◌}
use Rattle.cmd_sample.specs.Stimulus.{sample_stimulus}
use Rattle.cmd_sample.specs.Summary.{equal_count, summary_text}
use Rattle.fx_top.proofs.SampleOutputs.{summed}
use Rattle.fx_top.proofs.sample.summary_by.Goals as goal

pub returns-clause-made : goal.returns-clause-made
returns-clause-made g c =
    let told = g.B.Bench.tells c.summary-text.new.bench in
    summed c.args.checked.now.diagram g.B.Bench.may_tell c.args.number c.args.planned.now.resolved
    c.args.planned.now.times c.in_ok-made.made c.in-Ok-text_of.verilog c.in-Ok.response told c.in_ok-text.text
    c.requires.design c.in-Ok-text_of.ensures c.in_ok-made.ensures c.in-Ok.ensures.made
    (subst (λ (bytes : List ℕ). g.B.Bench.may_tell bytes (sample_stimulus c.args.number) told) c.bytes.ensures c.in_ok-text.ensures.told)
    (c.in_ok-text.ensures.text ∙ ap (λ (bytes : List ℕ). summary_text c.args.number c.in_ok-made.made (equal_count bytes told)) c.bytes-2.ensures)
