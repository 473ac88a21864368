use Rattle.std.proofs.Common.{◌≡◌, ◌-◌, ◌++◌, map, length}
use Rattle.std.specs.List.{range_with_len}
use Rattle.fx_type.specs.declared.decimal.Decimal.{Decimal}
use Rattle.fir_block.specs.Expanded.{delay_block, delay_blocks}
use Rattle.fir_block.proofs.expanding.put_delays.Given as goal

abbrev pub invariant-loop-k : goal.invariant-loop-k
invariant-loop-k l =
    (other : Decimal) → l.blocks ++ map (delay_block other l.fir) (range_with_len l.k (l.count - l.k)) ≡ l.initial.blocks ++ map (delay_block other l.fir) (range_with_len 1 (l.count - 1))
