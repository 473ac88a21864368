use Rattle.hw_slots.proofs.Tallies.{found_at}
use Rattle.hw_slots.proofs.tally.Tally.put.Goals as goal

pub returns : goal.returns
returns c = λ other later.
    rw (← c.self.view_is) (found_at c.args.owner c.args.level other later c.args.number _ _ (c.in_ok-insert.ensures.updates.0 (other, later)))
