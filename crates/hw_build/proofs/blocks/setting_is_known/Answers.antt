use Rattle.hw_build.proofs.blocks.setting_is_known.Goals as goal

pub returns : goal.returns
returns c = record {
  listed = c.root_elements_are_listed.ensures.inputs;
  fit = c.operations_prepare.ensures.fit;
  valid = c.operations_prepare.ensures.types;
  widths = c.edges_stand_by_port.ensures.widths;
  storing = c.stored_is_one.ensures;
  lines = c.lines_are_edges.ensures.lines;
  controls = c.lines_are_edges.ensures.controls;
  ordered = record { checked = c.keeps_rules.ensures.checked; ordered = c.keeps_rules.ensures.ordered };
  set = c.requires;
}
