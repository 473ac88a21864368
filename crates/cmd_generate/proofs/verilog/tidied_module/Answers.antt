use Rattle.cmd_generate.proofs.Streams.{core-all}
use Rattle.cmd_generate.proofs.verilog.tidied_module.Goals as goal

pub module_of-made-requires-clause-refined : goal.module_of-made-requires-clause-refined
module_of-made-requires-clause-refined c = record {
  runs = c.in_ok-tidied.ensures.runs;
  emittable = c.in_ok-tidied.ensures.emittable;
  built = c.args.netlist.now;
  is_built = c.requires.built.built;
  refines = c.in_ok-tidied.ensures.refines;
}

pub returns : goal.returns
returns c = core-all c.args.checked.now.diagram c.args.planned.now.resolved c.args.planned.now.times
    c.module_of-made.result c.module_of-made.ensures.owed c.module_of-made.ensures.spelled
    c.module_of-made.ensures.keeps
