use Rattle.tests_premises.proofs.WholeFindings.{explores_whole}
use Rattle.tests_premises.proofs.laws.explores_tell.Goals as goal

pub returns : goal.returns
returns c = explores_whole c.fed_is_one.ensures c.latencies_are_one.ensures c.depths_are_one.ensures c.latency_cycles_leave_none.ensures
