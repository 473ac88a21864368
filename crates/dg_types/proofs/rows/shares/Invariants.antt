use Rattle.std.proofs.Common.{◌≡◌, map}
use Rattle.math_list.specs.Numbers.{numbers_from}
use Rattle.dg_model.specs.Widths.{share}
use Rattle.dg_types.proofs.rows.shares.Given as goal

abbrev pub invariant-loop-place : goal.invariant-loop-place
invariant-loop-place l = l.row ≡ map (share l.width l.parts) (numbers_from 0 l.place)
