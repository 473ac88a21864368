use Rattle.cmd_model.proofs.laws.each_is_one.Goals as goal

pub returns : goal.returns
returns c = record {
  tree = c.unique.ensures;
  line = c.one_fault_line.ensures;
  nested = c.nested_is_one.ensures;
  text = c.fault_is_one.ensures;
  text_kept = c.nested_is_not_broken.ensures;
  flat = c.flat_is_one.ensures;
  lines = c.broken_is_one.ensures;
  lines_kept = c.flat_is_not_broken.ensures;
  rule = c.fault_is_one-2.ensures.one;
  same_told = c.fault_is_one-2.ensures.told;
  rule_kept = c.checked_is_not_broken.ensures;
}
