use Rattle.std.proofs.Common.{◌≡◌, ◌+◌, ◌-◌, ◌*◌, ◌++◌, map}
use Rattle.std.specs.List.{range_with_len}
use Rattle.fir_block.specs.Expanded.{line, terms_of}
use Rattle.fir_block.proofs.expanding.put_terms.Given as goal

abbrev pub invariant-loop-k : goal.invariant-loop-k
invariant-loop-k l = l.edges ++ map (λ k. line (l.first + (l.count + k)) (l.first + 2 * l.count) (k + 1)) (range_with_len l.k (l.count - l.k)) ≡ l.initial.edges ++ (terms_of l.first l.count)
