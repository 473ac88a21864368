use Rattle.hw_sched.proofs.Readiness.{ready_fits}
use Rattle.hw_sched.proofs.laws.ready_fits.Goals as goal

pub returns : goal.returns
returns c = ready_fits
