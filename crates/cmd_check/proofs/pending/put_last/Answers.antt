use Rattle.cmd_check.proofs.PieceBytes.{ended, ended_short}
use Rattle.cmd_check.proofs.pending.put_last.Goals as goal

pub returns-in-None : goal.returns-in-None
returns-in-None g c = ended c.args.out.now c.put_waiting.new.out c.args.pending.now c.put_waiting.new.pending c.put_waiting.ensures.adds c.in-None.is (c.put_waiting.ensures.none c.in-None.is)

pub returns-in-Some-fault : goal.returns-in-Some-fault
returns-in-Some-fault g c = ended_short c.args.out.now c.put_waiting.new.out c.args.pending.now c.put_waiting.new.pending c.in-Some-fault.fault c.put_waiting.ensures.adds c.in-Some-fault.is
