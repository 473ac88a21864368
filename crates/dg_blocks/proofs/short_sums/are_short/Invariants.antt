use Rattle.std.proofs.Common.{◌<◌, ℕ, get_or}
use Rattle.fx_type.specs.declared.kind.FxType.{FxType}
use Rattle.dg_blocks.specs.Prepared.{IsShort}
use Rattle.dg_blocks.proofs.short_sums.are_short.Given as goal

abbrev pub invariant-loop-kind : goal.invariant-loop-kind
invariant-loop-kind l = (k : ℕ) (d : FxType) → k < l.kind-index → IsShort l.frac (get_or l.types k d)
