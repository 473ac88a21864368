use Rattle.std.proofs.Common.{◌∙◌}
use Rattle.fx_top.proofs.SampleOutputs.{outputs_there}
use Rattle.fx_top.proofs.sample.made_of.Goals as goal

pub latency_at-out-requires-clause-there : goal.latency_at-out-requires-clause-there
latency_at-out-requires-clause-there c =
    outputs_there c.args.checked.now.diagram c.root_elements_are_listed.ensures.outputs c.keeps_rules.ensures.checked.wired c.as_slice.result.now (c.as_slice.ensures ∙ c.in_ok-outputs.ensures)

pub latency_at-slow-requires-clause-there : goal.latency_at-slow-requires-clause-there
latency_at-slow-requires-clause-there c =
    outputs_there c.args.checked.now.diagram c.root_elements_are_listed.ensures.outputs c.keeps_rules.ensures.checked.wired c.as_slice-2.result.now (c.as_slice-2.ensures ∙ c.in_ok-outputs.ensures)
