use Rattle.laws_commands.proofs.laws.all_are_known.Goals as goal

pub returns : goal.returns
returns c = record {
  diagram = c.diagram_is_one.ensures;
  verdict = c.verdict_is_one.ensures.one;
  inputs = c.root_elements_are_listed.ensures.inputs;
  outputs = c.root_elements_are_listed.ensures.outputs;
  made = c.columns_are_a_stimulus.ensures.made;
  kept = c.columns_are_a_stimulus.ensures.kept;
  range = c.solved_is_in_range.ensures;
  types = c.operations_prepare.ensures.types;
  responds = c.some_response.ensures;
  above = c.periods_are_above.ensures.above;
  joins = c.edges_join_periods.ensures;
  unfed = c.unfed_are_ready.ensures;
  fits = c.ready_fits.ensures;
  sampled = c.some_response-2.ensures;
}
