use Rattle.std.proofs.Common.{subst}
use Rattle.dg_sim.specs.declared.program.Rule.{Rule}
use Rattle.dg_sim.specs.Program.{CanGive}
use Rattle.dg_sim.proofs.readying.ready_for.Goals as goal

pub new-requires : goal.new-requires
new-requires c =
    let can = subst (λ (rule : Rule). CanGive c.args.program.now c.requires.0 rule) c.in-Works.is c.requires.1 in
    rw c.call_of.ensures can.4.prepared

pub returns-in-Works : goal.returns-in-Works
returns-in-Works c = rw c.in-Works.is (rw c.call_of.ensures at c.new.ensures)
