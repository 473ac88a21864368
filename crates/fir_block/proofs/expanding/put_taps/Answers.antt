use Rattle.std.proofs.Common.{◌≡◌, ℕ, ◌+◌, ◌-◌, ◌*◌, ◌++◌, map, ap, refl, arith}
use Rattle.std.specs.List.{range_with_len}
use Rattle.fir_block.specs.Expanded.{line, taps_of}
use Rattle.fir_block.proofs.Remainder.{one_over, all_over}
use Rattle.fir_block.proofs.expanding.put_taps.Goals as goal

pub loop-k-init : goal.loop-k-init
loop-k-init c =
    let e : c.args.count - 0 ≡ c.args.count = omega arith in
    ap (λ (n : ℕ). c.args.edges.now ++ map (λ k. line (c.args.first + k) (c.args.first + (c.args.count + k)) 1) (range_with_len 0 n)) e

pub loop-k-preserved : goal.loop-k-preserved
loop-k-preserved c =
    one_over (λ k. line (c.args.first + k) (c.args.first + (c.args.count + k)) 1) c.loop-k.k c.args.count
    c.loop-k.edges (c.args.edges.now ++ (taps_of c.args.first c.args.count)) _ _
    (omega (arith, c.loop-k-test.true)) c.loop-k.invariant c.in_ok-join.ensures refl

pub returns : goal.returns
returns c =
    all_over (λ k. line (c.args.first + k) (c.args.first + (c.args.count + k)) 1) c.loop-k.k c.args.count
    c.loop-k.edges (c.args.edges.now ++ (taps_of c.args.first c.args.count))
    (omega (arith, c.loop-k-test.false)) c.loop-k.invariant
