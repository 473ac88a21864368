use Rattle.std.proofs.Common.{◌≡◌, map, subst}
use Rattle.vl_ast.specs.Driven.{output_ports}
use Rattle.vl_eval.specs.Given.{driven_ports}
use Rattle.vl_eval.specs.inner.PlanOperations.{output_of, slot_of_port}
use Rattle.vl_eval.proofs.plan.plan_in.Goals as goal

pub returns-in-Ok : goal.returns-in-Ok
returns-in-Ok c =
    let m = c.args.source.now in
    let scope = c.args.checked.now.scope in
    let operations = c.in_ok-arranged.ensures in
    record {
      base = c.count-base.ensures;
      wires = operations.wires;
      wired = operations.wired;
      captured = operations.captured;
      constants = c.constants-constants.ensures;
      inputs = subst (λ xs. c.put_ports.new.inputs.items ≡ map (slot_of_port scope xs) (driven_ports m)) c.as_slice.ensures.value c.in-Ok.ensures.inputs;
      outputs = subst (λ xs. c.put_ports.new.outputs.items ≡ map (output_of scope xs) (output_ports m)) c.as_slice.ensures.value c.in-Ok.ensures.outputs;
    }
