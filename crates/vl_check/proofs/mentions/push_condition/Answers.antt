use Rattle.std.proofs.Common.{ap, map, sym}
use Rattle.vl_ast.specs.Nets.{Reads, condition_names}
use Rattle.vl_check.proofs.ExpressionNames.{none-put, puts-as}
use Rattle.vl_check.proofs.mentions.push_condition.Goals as goal

pub returns-in-None : goal.returns-in-None
returns-in-None c = puts-as (ap (λ condition. map Reads (condition_names condition)) (sym c.in-None.is)) (none-put c.args.mentions.now)

pub returns-in-Some : goal.returns-in-Some
returns-in-Some c = puts-as (ap (λ condition. map Reads (condition_names condition)) (sym c.in-Some.is)) c.push_names.ensures
