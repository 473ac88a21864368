use Rattle.std.proofs.Common.{◌≡◌, take}
use Rattle.dg_types.specs.inner.TypeLaws.{first_types}
use Rattle.dg_types.proofs.typed_round.all_explicit.Given as goal

abbrev pub invariant-loop-block : goal.invariant-loop-block
invariant-loop-block l = l.types.items ≡ first_types (take l.block-index l.blocks)
