use Rattle.std.proofs.Common.{◌∙◌}
use Rattle.vl_hier.proofs.LeastName.{least-begins, none-begins}
use Rattle.vl_hier.proofs.names.Names.begin_with.Goals as goal

pub returns-in-None : goal.returns-in-None
returns-in-None c = λ names are. none-begins names c.args.self.now are c.args.head.now c.in-None.ensures

pub returns-in-Some : goal.returns-in-Some
returns-in-Some c = λ names are.
    let least = c.in-Some.ensures in
    c.starts_with.ensures.value ∙ least-begins names c.args.self.now are c.args.head.now c.in-Some.least.now least.0 least.1 least.2
