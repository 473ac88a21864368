use Rattle.std.proofs.Common.{◌^◌}
use Rattle.fx_type.specs.declared.rounding.Rounding.TheVariants.{Ceiling, Zero, Nearest, Round, Convergent}
use Rattle.fx_round.proofs.ByWord.{by_word, shift_by_word}
use Rattle.fx_round.proofs.split.rounded_near.Goals as goal

pub returns-in-Nearest : goal.returns-in-Nearest
returns-in-Nearest c = rw c.in-Nearest.is (by_word c.args.v c.ranges.v Nearest (2 ^ c.args.by) c.nearest.result (record { sfits = c.nearest.type_inv }) c.nearest.ensures)

pub returns-in-Ceiling : goal.returns-in-Ceiling
returns-in-Ceiling c = rw c.in-Ceiling.is (by_word c.args.v c.ranges.v Ceiling (2 ^ c.args.by) c.by_rest.result (record { sfits = c.by_rest.type_inv }) c.by_rest.ensures)

pub returns-in-Zero : goal.returns-in-Zero
returns-in-Zero c = rw c.in-Zero.is (by_word c.args.v c.ranges.v Zero (2 ^ c.args.by) c.by_rest-in-Zero.result (record { sfits = c.by_rest-in-Zero.type_inv }) c.by_rest-in-Zero.ensures)

pub returns-in-Round : goal.returns-in-Round
returns-in-Round c = rw c.in-Round.is (by_word c.args.v c.ranges.v Round (2 ^ c.args.by) c.by_rest-in-Round.result (record { sfits = c.by_rest-in-Round.type_inv }) c.by_rest-in-Round.ensures)

pub returns-in-Convergent : goal.returns-in-Convergent
returns-in-Convergent c = rw c.in-Convergent.is
    (by_word c.args.v c.ranges.v Convergent (2 ^ c.args.by) c.by_rest-in-Convergent.result
    (record { sfits = c.by_rest-in-Convergent.type_inv }) c.by_rest-in-Convergent.ensures)

pub returns-in-Floor : goal.returns-in-Floor
returns-in-Floor c = rw c.in-Floor.is (shift_by_word c.args.v c.ranges.v c.args.by)
