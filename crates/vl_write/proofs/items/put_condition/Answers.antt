use Rattle.std.proofs.Common.{codes, ap, sym, ◌∙◌}
use Rattle.vl_ast.specs.Spelling.{condition_text, expr_text}
use Rattle.vl_write.proofs.Puts.{left3, none-put, puts-as}
use Rattle.vl_write.proofs.items.put_condition.Goals as goal

pub returns-in-None : goal.returns-in-None
returns-in-None c = puts-as (ap condition_text (sym c.in-None.is)) (none-put c.args.out.now)

pub returns-in-Some : goal.returns-in-Some
returns-in-Some c = puts-as (left3 (codes "if (") (expr_text c.in-Some.condition) (codes ") ") ∙ ap condition_text (sym c.in-Some.is)) c.put_within.ensures
