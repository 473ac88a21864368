use Rattle.std.proofs.Common.{to_z, of_z, ◌∙◌, arith}
use Rattle.std.specs.Int.{w16}
use Rattle.std.proofs.lemmas.Int.{to_z-of_z}
use Rattle.dg_blocks.proofs.Fracs.{bound_more, reached_more}
use Rattle.dg_blocks.proofs.exact.greatest_frac.Goals as goal

pub loop-kind-preserved : goal.loop-kind-preserved
loop-kind-preserved c =
    let types = c.args.types.now in
    let i = c.loop-kind.kind-index in
    let old = to_z w16 c.loop-kind.greatest-bits in
    let f = to_z w16 (of_z w16 c.frac.result) in
    let new = c.max-greatest.result in
    let k = to_z-of_z w16 c.frac.result (record { sfits = c.frac.type_inv }) in
    let e = to_z-of_z w16 new (record { sfits = c.max-greatest.type_inv }) in
    let value = c.max-greatest.ensures in
    let inside = c.loop-kind-test.true in
    rw e (record {
      bound = bound_more types i _ inside old f new (k ∙ c.frac.ensures) c.loop-kind.invariant.bound value.self_bound value.other_bound;
      reached = reached_more types i _ inside old f new (k ∙ c.frac.ensures) c.loop-kind.invariant.reached value.value;
    })

pub returns-clause-bound : goal.returns-clause-bound
returns-clause-bound c k d inside = c.loop-kind.invariant.bound k d (omega (arith, inside, c.loop-kind-test.false))

pub returns-clause-reached : goal.returns-clause-reached
returns-clause-reached c = c.loop-kind.invariant.reached
