use Rattle.std.proofs.Common.{arith}
use Rattle.hw_explore.proofs.Alike.{timed_none, timed_slower, timed_all}
use Rattle.hw_explore.proofs.timed.BySharing.at.Goals as goal

pub returns-then-multipliers-eq0 : goal.returns-then-multipliers-eq0
returns-then-multipliers-eq0 c = λ diagram are.
    let none = c.if-multipliers-eq0.true in
    timed_none diagram c.args.cycles c.args.multipliers c.args.self.now.none (omega (arith, none)) are.none

pub returns-then-cycles-eq1 : goal.returns-then-cycles-eq1
returns-then-cycles-eq1 c = λ diagram are.
    let no = c.if-multipliers-eq0.false in
    let one = c.if-cycles-eq1.true in
    timed_slower diagram c.args.cycles c.args.multipliers c.args.self.now.slower (omega (arith, no)) (omega (arith, one)) are.slower

pub returns : goal.returns
returns c = λ diagram are.
    let no = c.if-multipliers-eq0.false in
    let other = c.if-cycles-eq1.false in
    let some = c.requires in
    timed_all diagram c.args.cycles c.args.multipliers c.args.self.now.all (omega (arith, no)) (omega (arith, some, other)) are.all
