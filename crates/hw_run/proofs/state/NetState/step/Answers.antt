use Rattle.hw_run.proofs.Steppable.{all-can-step}
use Rattle.hw_run.proofs.state.NetState.step.Goals as goal

pub sweep-requires-clause-can : goal.sweep-requires-clause-can
sweep-requires-clause-can c = all-can-step c.args.net.now c.requires.netlist
