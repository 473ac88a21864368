use Rattle.std.proofs.Common.{◌≡◌, not, ◌&&◌, bytes_eq, codes, filter, map, take}
use Rattle.vl_ast.specs.Control.{is_number_output}
use Rattle.vl_eval.specs.inner.PlanOperations.{output_of, slot_of_port}
use Rattle.vl_eval.proofs.plan.put_ports.Given as goal

abbrev pub invariant-loop-port : goal.invariant-loop-port
invariant-loop-port l =
    (l.inputs.items ≡ map (slot_of_port l.site.scope.now l.site.slots.now) (filter (λ port. port.input && not (bytes_eq port.name (codes "clk"))) (take l.port-index l.source.ports)))
    × (l.outputs.items ≡ map (output_of l.site.scope.now l.site.slots.now) (filter (is_number_output l.stalls) (take l.port-index l.source.ports)))
