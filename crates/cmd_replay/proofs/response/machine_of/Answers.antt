use Rattle.std.proofs.Common.{sym, ◌∙◌}
use Rattle.cmd_replay.proofs.Machines.{broken-by, machine-is}
use Rattle.cmd_replay.proofs.response.machine_of.Goals as goal

pub returns-then-is_condition-clause-refused : goal.returns-then-is_condition-clause-refused
returns-then-is_condition-clause-refused c = λ stimulus.
    broken-by c.args.verilog.now c.in-Ok.made c.in-Err.fault c.in-Ok.ensures.found c.in-Ok.ensures.few c.in-Err.ensures.fault (sym c.is_condition.ensures ∙ c.if-is_condition.true)

pub returns-in-Ok-new-clause-made : goal.returns-in-Ok-new-clause-made
returns-in-Ok-new-clause-made c =
    machine-is c.args.verilog.now c.in-Ok.made c.in-Ok-new.machine c.in-Ok.ensures.found c.in-Ok.ensures.few
    c.in-Ok-new.ensures.sound c.in-Ok-new.ensures.source c.in-Ok-new.ensures.row c.in-Ok-new.ensures.ready
