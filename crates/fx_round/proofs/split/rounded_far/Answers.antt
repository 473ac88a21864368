use Rattle.std.proofs.Common.{◌^◌}
use Rattle.fx_type.specs.declared.rounding.Rounding.TheVariants.{Nearest}
use Rattle.fx_round.proofs.ByWord.{by_word, shift_by_word}
use Rattle.fx_round.proofs.split.rounded_far.Goals as goal

pub returns-in-Nearest : goal.returns-in-Nearest
returns-in-Nearest c = rw c.in-Nearest.is (by_word c.args.v c.ranges.v Nearest (2 ^ c.args.by) c.nearest.result (record { sfits = c.nearest.type_inv }) c.nearest.ensures)

pub returns-in-Ceiling : goal.returns-in-Ceiling
returns-in-Ceiling c = by_word c.args.v c.ranges.v c.args.mode (2 ^ c.args.by) c.by_rest.result (record { sfits = c.by_rest.type_inv }) c.by_rest.ensures

pub returns-in-Floor : goal.returns-in-Floor
returns-in-Floor c = rw c.in-Floor.is (shift_by_word c.args.v c.ranges.v c.args.by)
