use Rattle.std.proofs.Common.{◌≡◌, take, map, slice_index_or}
use Rattle.hw_lower.proofs.lowering.net_of.Given as goal

abbrev pub invariant-loop-place : goal.invariant-loop-place
invariant-loop-place l = l.args ≡ map (λ read. slice_index_or l.numbers read 0) (take l.place-index l.reads)
