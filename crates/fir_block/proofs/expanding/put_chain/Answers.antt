use Rattle.std.proofs.Common.{◌≡◌, ℕ, ◌+◌, ◌-◌, ◌*◌, ◌++◌, refl, arith}
use Rattle.fir_block.specs.Expanded.{line, chain_of}
use Rattle.fir_block.proofs.Remainder.{one_over, all_over}
use Rattle.fir_block.proofs.expanding.put_chain.Goals as goal

pub loop-k-init : goal.loop-k-init
loop-k-init c = refl

pub loop-k-preserved : goal.loop-k-preserved
loop-k-preserved c =
    one_over (λ k. line (c.args.first + (k - 1)) (c.args.first + k) 1) c.loop-k.k c.args.count c.loop-k.edges
    (c.args.edges.now ++ (chain_of c.args.first c.args.count)) _ _
    (omega (arith, c.loop-k-test.true)) c.loop-k.invariant c.in_ok-join.ensures refl

pub returns : goal.returns
returns c =
    all_over (λ k. line (c.args.first + (k - 1)) (c.args.first + k) 1) c.loop-k.k c.args.count c.loop-k.edges
    (c.args.edges.now ++ (chain_of c.args.first c.args.count))
    (omega (arith, c.loop-k-test.false)) c.loop-k.invariant
