use Rattle.vl_ast.specs.declared.modules.Module.{Module}
use Rattle.hw_module.specs.Design.{IsModuleOf}
use Rattle.hw_rules.specs.Times.{timing_in}
use Rattle.cmd_generate.proofs.Verilogs.{written-so}
use Rattle.cmd_generate.proofs.verilog.verilog_of.Goals as goal

pub returns-in-Ok-made : goal.returns-in-Ok-made
returns-in-Ok-made c =
    let designed = c.in-Ok.designed in
    let core = c.in-Ok-made.ensures in (
      core.spelled,
      λ text own. record {
        diagram = designed.checked.diagram;
        resolved = designed.planned.resolved;
        timing = timing_in designed.planned.times;
        design = c.in-Ok.ensures.designed;
        written = written-so (λ (made : Module). IsModuleOf made designed.checked.diagram designed.planned.resolved (timing_in designed.planned.times)) c.in-Ok-made.made text core.owed own;
      },
    )
