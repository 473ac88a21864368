use Rattle.cmd_check.specs.CheckText.{ports_text}
use Rattle.cmd_check.specs.Handed.{Adds}
use Rattle.cmd_check.proofs.writing.put_ports.Given as goal

abbrev pub invariant-loop-port : goal.invariant-loop-port
invariant-loop-port g l = Adds g.K.Sink.taken g.K.Sink.faults l.initial.out l.initial.pending l.out l.pending (ports_text l.checked.diagram l.place l.port)
