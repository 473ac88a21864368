use Rattle.std.proofs.Common.{true≢false}
use Rattle.vl_eval.proofs.adding.put.Goals as goal

pub returns-in-Err : goal.returns-in-Err
returns-in-Err c = λ fine. absurd (true≢false fine)

pub returns-in_default : goal.returns-in_default
returns-in_default c = λ fine. (fine, c.in_default.ensures)
