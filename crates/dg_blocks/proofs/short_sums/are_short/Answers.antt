use Rattle.std.proofs.Common.{ℕ, get_or, below_more, subst, to_z, of_z}
use Rattle.std.specs.Int.{w16}
use Rattle.std.proofs.lemmas.List.{get_or_default}
use Rattle.fx_type.specs.declared.kind.FxType.{FxType}
use Rattle.dg_blocks.specs.Prepared.{IsShort}
use Rattle.dg_blocks.proofs.short_sums.are_short.Goals as goal

pub loop-kind-preserved : goal.loop-kind-preserved
loop-kind-preserved c = λ k d below.
    let types = c.args.types.now in
    let i = c.loop-kind.kind-index in
    let frac = to_z w16 (of_z w16 c.args.frac) in
    below_more (λ (j : ℕ). (e : FxType) → IsShort frac (get_or types j e)) i (λ j less e. c.loop-kind.invariant j e less)
    (λ e. subst (IsShort frac) (get_or_default types i _ e c.loop-kind-test.true) (c.is_short.ensures c.if-not-is_short.false)) k below d
