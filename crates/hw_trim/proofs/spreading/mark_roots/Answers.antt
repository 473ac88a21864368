use Rattle.std.proofs.Common.{length, ◌∙◌}
use Rattle.hw_trim.proofs.Marks.{inputs-there, labels-there}
use Rattle.hw_trim.proofs.spreading.mark_roots.Goals as goal

pub mark_ports-requires-clause-there : goal.mark_ports-requires-clause-there
mark_ports-requires-clause-there c = rw c.inputs.ensures (inputs-there c.args.netlist.now c.requires.runs (length c.args.marks.now) c.requires.size)

pub mark_labels-requires-clause-there : goal.mark_labels-requires-clause-there
mark_labels-requires-clause-there c =
    rw c.labels.ensures (labels-there c.args.netlist.now c.requires.runs (length c.mark_ports-2.new.marks)
    (c.in_ok-mark_ports-2.ensures.marks.size ∙ c.in_ok-mark_ports.ensures.marks.size ∙ c.requires.size)
    c.requires.emittable)
