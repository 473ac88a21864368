use Rattle.std.proofs.Common.{◌≡◌, ◌+◌, ◌-◌, ℕ, arith, subst}
use Rattle.hw_build.specs.inner.Offers.{ArePartsTo}
use Rattle.hw_build.proofs.block_inputs.put_parts.Goals as goal

pub put_part-requires-clause-kind : goal.put_part-requires-clause-kind
put_part-requires-clause-kind c = (c.in-Mux.sizes, c.in-Mux.is)

pub put_part-requires-clause-before : goal.put_part-requires-clause-before
put_part-requires-clause-before c =
    let same : c.loop-input.input ≡ (c.loop-input.input + 1) - 1 = omega arith in
    subst (λ (n : ℕ). ArePartsTo c.args.owner.setting c.args.owner.block c.args.owner.one.now n 0 c.loop-input.parts) same c.loop-input.invariant

pub loop-input-preserved : goal.loop-input-preserved
loop-input-preserved c = c.in_ok-put_part.ensures
