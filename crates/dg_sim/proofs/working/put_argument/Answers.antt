use Rattle.std.proofs.lemmas.Result.{on_ok_weaker}
use Rattle.dg_sim.proofs.working.put_argument.Goals as goal

pub returns : goal.returns
returns c =
    let number = c.offered_entry-number in
    on_ok_weaker c.push-2.result
    (λ added. (number.result, c.in_ok-push.ensures.appended, number.ensures.before c.args.turn.cell c.requires.offers.now, number.ensures.reads, added))
    c.push-2.ensures.appended
