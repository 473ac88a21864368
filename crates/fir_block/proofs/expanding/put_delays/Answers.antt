use Rattle.std.proofs.Common.{◌≡◌, ◌∙◌, ℕ, ◌-◌, ◌++◌, map, length, refl, ap, arith}
use Rattle.std.specs.List.{range_with_len}
use Rattle.fir_block.specs.Expanded.{delay_block, delay_blocks}
use Rattle.fir_block.proofs.Remainder.{one_over, all_over}
use Rattle.fir_block.proofs.expanding.put_delays.Goals as goal

pub loop-k-init : goal.loop-k-init
loop-k-init c = λ other. refl

pub loop-k-preserved : goal.loop-k-preserved
loop-k-preserved c = λ other.
    one_over (delay_block other c.args.fir.now) c.loop-k.k _ c.loop-k.blocks _ _ _ (omega (arith, c.loop-k-test.true)) (c.loop-k.invariant other) (c.in_ok-put_delay.ensures other) refl

pub returns : goal.returns
returns c = λ other.
    all_over (delay_block other c.args.fir.now) c.loop-k.k _ c.loop-k.blocks _ (omega (arith, c.loop-k-test.false)) (c.loop-k.invariant other)
    ∙ ap (λ (n : ℕ). c.args.blocks.now ++ map (delay_block other c.args.fir.now) (range_with_len 1 (n - 1))) (ap length c.as_slice.ensures)
