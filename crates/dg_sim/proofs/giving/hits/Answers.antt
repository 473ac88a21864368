use Rattle.std.proofs.Common.{sym, eq-eqb}
use Rattle.std.proofs.Math.Nat.{mod-one}
use Rattle.dg_sim.proofs.giving.hits.Goals as goal

pub returns-then-every-eq1 : goal.returns-then-every-eq1
returns-then-every-eq1 c = rw (c.in-Some.is, c.if-every-eq1.true) (sym (eq-eqb _ 0 (mod-one c.args.t)))
