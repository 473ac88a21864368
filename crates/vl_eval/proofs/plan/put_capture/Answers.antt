use Rattle.std.proofs.Common.{true≢false}
use Rattle.vl_eval.proofs.plan.put_capture.Goals as goal

pub returns-in-Err-clause-put : goal.returns-in-Err-clause-put
returns-in-Err-clause-put c = λ fine. absurd (true≢false fine)

pub returns-in_default-clause-put : goal.returns-in_default-clause-put
returns-in_default-clause-put c = λ fine. (fine, c.in_default.ensures.items)
