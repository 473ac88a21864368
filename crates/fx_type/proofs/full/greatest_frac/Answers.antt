use Rattle.std.proofs.Common.{Bool, false, pos, to_z, of_z, ◌∙◌}
use Rattle.std.specs.Int.{w16}
use Rattle.std.proofs.lemmas.Int.{to_z-of_z}
use Rattle.fx_type.specs.declared.kind.FxType.{FxType}
use Rattle.fx_type.specs.declared.kind.FxType.TheVariants.{Num}
use Rattle.fx_type.proofs.Fracs.{bound_more, reached_more, greatest_of_all}
use Rattle.fx_type.proofs.full.greatest_frac.Goals as goal

no_term : Bool × FxType
no_term = (false, Num false 0 (pos 0))

pub loop-kind-preserved : goal.loop-kind-preserved
unfolding no_term
loop-kind-preserved c =
    let i = c.loop-kind.kind-index in
    let old = to_z w16 c.loop-kind.greatest-bits in
    let f = to_z w16 (of_z w16 c.frac.result) in
    let k = to_z-of_z w16 c.frac.result (record { sfits = c.frac.type_inv }) in
    let e = to_z-of_z w16 c.max-greatest.result (record { sfits = c.max-greatest.type_inv }) in
    rw e (record {
      bound = bound_more c.args.terms.now i no_term c.loop-kind-test.true old f c.max-greatest.result
          c.loop-kind.invariant.bound
          (k ∙ c.frac.ensures) c.max-greatest.ensures.self_bound c.max-greatest.ensures.other_bound;
      reached = reached_more c.args.terms.now i no_term c.loop-kind-test.true old f c.max-greatest.result c.loop-kind.invariant.reached (k ∙ c.frac.ensures) c.max-greatest.ensures.value;
    })

pub returns : goal.returns
returns c = greatest_of_all c.args.terms.now c.loop-kind.kind-index _ c.loop-kind-test.false c.loop-kind.invariant.bound c.loop-kind.invariant.reached
