use Rattle.std.proofs.Common.{◌&&◌, ◌∙◌}
use Rattle.vl_hier.proofs.TableTests.{led-is}
use Rattle.vl_hier.proofs.linking.are_ports_linked.Goals as goal

pub returns : goal.returns
returns c = λ top are.
    (λ k. c.are_of_ports.ensures k && c.each_is_led.ensures k)
    ∙ led-is top c.args.nets.now are c.args.ports.now c.args.links.now c.in_ok-by_port.by_port c.in_ok-by_name.by_name c.in_ok-by_port.ensures c.in_ok-by_name.ensures
