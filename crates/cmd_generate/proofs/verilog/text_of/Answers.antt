use Rattle.std.proofs.lemmas.Result.{IfOk-weaker}
use Rattle.cmd_generate.proofs.Verilogs.{written-of, written-so}
use Rattle.cmd_generate.proofs.verilog.text_of.Goals as goal
use Rattle.hw_module.specs.Design.{IsModuleOf}
use Rattle.hw_rules.specs.Times.{timing_in}

pub returns : goal.returns
returns g c =
    IfOk-weaker c.write-text.result _ _
    (λ text is. written-so (λ own. IsModuleOf own c.args.checked.now.diagram c.args.planned.now.resolved (timing_in c.args.planned.now.times)) c.in_ok-made.made text c.in_ok-made.ensures.owed
    (written-of c.in_ok-made.made text c.unique.ensures c.in_ok-made.ensures.spelled is)) c.write-text.ensures.text
