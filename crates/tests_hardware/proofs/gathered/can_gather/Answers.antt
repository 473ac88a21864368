use Rattle.std.proofs.Common.{◌≡◌, ◌*◌, ◌<◌, ◌≤◌, ◌∙◌, ℕ, true, length, rules, subst}
use Rattle.tests_hardware.proofs.gathered.can_gather.Goals as goal

pub returns : goal.returns
returns c = λ is.
    let rising = c.are_rising.ensures is in
    let there : c.is_there.result ≡ true = search rules in
    let some : 1 ≤ length c.args.slots.now = search rules in
    let cycles : 0 < c.args.net.now.cycles = search rules in
    let period : 0 < c.args.frame.period = search rules in
    let span : c.from.result * c.from-2.result ≡ c.args.frame.period * c.args.net.now.cycles = (λ j. c.from.ensures j * (c.from-2.ensures ∙ c.cycles-2.ensures) j) in
    record {
      cycles = cycles;
      period = period;
      from_there = c.is_there.ensures there;
      some = some;
      inside = λ slot d. subst (λ (x : ℕ). slot < x) span (rising.inside slot d);
      differ = rising.differ;
    }
