use Rattle.std.proofs.Common.{◌≡◌, ◌*◌, ◌%◌, ◌^◌, ◌≤◌, ℕ, arith, pow_pos}
use Rattle.std.proofs.lemmas.Nat.{one_shl}
use Rattle.fx_round.proofs.split.low_mask.Goals as goal

unit_of : (by : ℕ) → by ≤ 63 → 1 * 2 ^ by % 18446744073709551616 ≡ 2 ^ by
unit_of by h = one_shl by 64 (omega arith)

pub overflow_sub-by : goal.overflow_sub-by
overflow_sub-by c = omega (arith, unit_of c.args.by c.requires, pow_pos c.args.by)

pub returns : goal.returns
returns c = omega (arith, c.from.ensures, unit_of c.args.by c.requires, pow_pos c.args.by)
