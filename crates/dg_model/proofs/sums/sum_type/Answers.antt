use Rattle.std.proofs.Common.{◌<◌, ℕ, length, get_or, false, ◌∙◌, arith, refl, add-one}
use Rattle.std.proofs.lemmas.List.{length-set}
use Rattle.std.proofs.lemmas.Slice.Zip.{length-zip}
use Rattle.dg_model.specs.Operation.{type_of}
use Rattle.dg_model.proofs.SumTerms.{terms-more, terms-whole, terms-valid}
use Rattle.dg_model.proofs.sums.sum_type.Goals as goal

pub loop-input-preserved : goal.loop-input-preserved
loop-input-preserved c =
    let i : ℕ = c.loop-input.input in
    let inside : i < length c.args.types.now = omega (arith, c.loop-input-test.true) in
    let room : i < length c.loop-input.terms = omega (arith, c.loop-input.invariant.long, c.requires.few) in
    record {
      long = length-set c.loop-input.terms i (get_or c.args.signs.now i false, type_of c.args.types.now i) ∙ c.loop-input.invariant.long;
      are = rw add-one (terms-more c.args.signs.now c.args.types.now c.loop-input.terms i
          (get_or c.args.signs.now i false, type_of c.args.types.now i) room
          (omega (arith, c.requires.signs)) inside refl c.loop-input.invariant.are);
    }

pub full_of-requires-clause-valid : goal.full_of-requires-clause-valid
full_of-requires-clause-valid c =
    let e = terms-whole c.args.signs.now c.args.types.now c.loop-input.terms c.loop-input.input
    (length c.args.types.now) c.requires.signs
    (omega (arith, c.loop-input.auto.input-end, c.loop-input-test.false))
    (omega (arith, c.loop-input-test.false)) c.loop-input.invariant.are in
    rw e (terms-valid c.args.signs.now c.args.types.now c.requires.types)

pub full_of-requires-clause-some : goal.full_of-requires-clause-some
full_of-requires-clause-some c =
    let e = terms-whole c.args.signs.now c.args.types.now c.loop-input.terms c.loop-input.input
    (length c.args.types.now) c.requires.signs
    (omega (arith, c.loop-input.auto.input-end, c.loop-input-test.false))
    (omega (arith, c.loop-input-test.false)) c.loop-input.invariant.are in
    rw e (omega (arith, length-zip c.args.signs.now c.args.types.now, c.requires.signs, c.requires.some))

pub full_of-requires-clause-few : goal.full_of-requires-clause-few
full_of-requires-clause-few c =
    let e = terms-whole c.args.signs.now c.args.types.now c.loop-input.terms c.loop-input.input
    (length c.args.types.now) c.requires.signs
    (omega (arith, c.loop-input.auto.input-end, c.loop-input-test.false))
    (omega (arith, c.loop-input-test.false)) c.loop-input.invariant.are in
    rw e (omega (arith, length-zip c.args.signs.now c.args.types.now, c.requires.signs, c.requires.few))

pub full_of-requires-clause-full : goal.full_of-requires-clause-full
full_of-requires-clause-full c =
    let e = terms-whole c.args.signs.now c.args.types.now c.loop-input.terms c.loop-input.input
    (length c.args.types.now) c.requires.signs
    (omega (arith, c.loop-input.auto.input-end, c.loop-input-test.false))
    (omega (arith, c.loop-input-test.false)) c.loop-input.invariant.are in
    rw e c.requires.full

pub returns : goal.returns
returns c =
    let e = terms-whole c.args.signs.now c.args.types.now c.loop-input.terms c.loop-input.input
    (length c.args.types.now) c.requires.signs
    (omega (arith, c.loop-input.auto.input-end, c.loop-input-test.false))
    (omega (arith, c.loop-input-test.false)) c.loop-input.invariant.are in
    rw e at c.full_of.ensures
