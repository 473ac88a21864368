use Rattle.std.proofs.Common.{subst}
use Rattle.std.specs.Int.{w128}
use Rattle.std.proofs.lemmas.Int.{to_z-of_z}
use Rattle.dg_model.specs.Operation.{Operation, OpGives}
use Rattle.dg_sim.specs.Program.{operation_at}
use Rattle.dg_sim.proofs.giving.operation_output.Goals as goal

pub alone-requires : goal.alone-requires
alone-requires c = (operation_at c.args.program.now c.args.work.now, c.requires.ready, c.requires.can)

pub output-requires-clause-prepared : goal.output-requires-clause-prepared
output-requires-clause-prepared c = rw c.call_of.ensures c.requires.ready

pub output-requires-clause-can : goal.output-requires-clause-can
output-requires-clause-can c = rw c.call_of.ensures c.requires.can

pub returns : goal.returns
returns c =
    let e = to_z-of_z w128 c.output.result (record { sfits = c.output.type_inv }) in
    rw e (subst (λ (operation : Operation). OpGives operation c.args.inputs.now c.output.result) c.call_of.ensures c.output.ensures)
