use Rattle.cmd_generate.proofs.Streams.{refused-ports}
use Rattle.cmd_generate.proofs.Verilogs.{written-so}
use Rattle.cmd_generate.proofs.streamed.streamed_of.Goals as goal
use Rattle.cmd_generate.specs.Streamed.{IsStreamOf}
use Rattle.hw_rules.specs.Times.{timing_in}

pub returns-in-Err-check_ports : goal.returns-in-Err-check_ports
returns-in-Err-check_ports c =
    refused-ports c.args.model.now c.args.plan.now c.in-Ok.designed.checked.diagram c.in-Ok.designed.planned.resolved (timing_in c.in-Ok.designed.planned.times) c.in-Ok.ensures.designed
    c.in-Err-check_ports.fault c.told_of-fault.result c.in-Err-check_ports.ensures.refused c.told_of-fault.ensures

pub returns-in-Ok-made : goal.returns-in-Ok-made
returns-in-Ok-made c =
    let planned = c.in-Ok.designed.planned in
    let diagram = c.in-Ok.designed.checked.diagram in (
      c.in-Ok-made.ensures.spelled,
      λ text own. record {
        diagram = diagram;
        resolved = planned.resolved;
        timing = timing_in planned.times;
        design = c.in-Ok.ensures.designed;
        kept = c.in-Ok-check_ports.ensures.kept;
        written = written-so (λ one. IsStreamOf one diagram planned.resolved (timing_in planned.times)) c.in-Ok-made.made text c.in-Ok-made.ensures.streams own;
      },
    )
