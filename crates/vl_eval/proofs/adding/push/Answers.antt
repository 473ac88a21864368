use Rattle.std.proofs.Common.{arith, true≢false}
use Rattle.vl_eval.proofs.adding.push.Goals as goal

pub returns-in_default : goal.returns-in_default
returns-in_default c = λ fine. absurd (true≢false fine)

pub returns : goal.returns
returns c = λ fine.
    let p = c.put.ensures fine in
    (p.0, record { place = omega (arith, c.in-Some.ensures, c.len.ensures); grown = p.1 })
