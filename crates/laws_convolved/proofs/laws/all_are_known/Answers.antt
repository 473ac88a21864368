use Rattle.laws_convolved.proofs.laws.all_are_known.Goals as goal

pub returns : goal.returns
returns c = record {
  inputs = c.root_elements_are_listed.ensures.inputs;
  outputs = c.root_elements_are_listed.ensures.outputs;
  kept = c.columns_are_a_stimulus.ensures.kept;
  fit = c.operations_prepare.ensures.fit;
  lines = c.lines_are_edges.ensures.lines;
  joins = c.edges_join_periods.ensures;
  moving = c.periods_are_above.ensures.moving;
  counted = c.counted_hits_go_on.ensures;
  filters = c.filters_fit.ensures;
  convolve = c.filters_convolve.ensures;
}
