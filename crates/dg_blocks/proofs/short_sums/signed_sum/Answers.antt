use Rattle.std.proofs.Common.{◌≡◌, ◌+ℤ◌, ℤ, false, suc, get_or, take, FitsSigned, to_z, of_z, ◌∙◌, arith, add-one}
use Rattle.std.specs.Prelude.{zip}
use Rattle.std.specs.Int.{w16, w64, w128}
use Rattle.std.proofs.lemmas.Int.{ints, to_z-of_z}
use Rattle.dg_model.specs.Operation.{signed_sum, type_of, value_of}
use Rattle.dg_blocks.proofs.Sums.{term_of}
use Rattle.dg_blocks.proofs.Weights.{inside, value_fits, aligned_small, sum_step, part_fits, all_of}
use Rattle.dg_blocks.proofs.short_sums.signed_sum.Goals as goal
use Rattle.dg_blocks.proofs.short_sums.signed_sum.Goals.{After-short, After-term-total}

-- a number that fits 64 bits, in 128
wide : (v : ℤ) → FitsSigned w64 v → to_z w128 (of_z w128 v) ≡ v
wide v f = to_z-of_z w128 v (omega (arith, ints, f))

pub short-requires : goal.short-requires
short-requires c =
    let i = c.loop-input.input in
    let f = value_fits c.args.frac c.args.signs.now c.args.types.now c.args.inputs.now c.requires.sum i c.loop-input-test.true in
    rw (wide (value_of c.args.inputs.now i) f) f

-- the number in 64 bits
shortened : (c : After-short) → to_z w64 (of_z w64 c.short.result) ≡ value_of c.args.inputs.now c.loop-input.input
shortened c =
    let i = c.loop-input.input in
    let f = value_fits c.args.frac c.args.signs.now c.args.types.now c.args.inputs.now c.requires.sum i c.loop-input-test.true in
    to_z-of_z w64 c.short.result (record { sfits = c.short.type_inv }) ∙ c.short.ensures ∙ wide (value_of c.args.inputs.now i) f

pub term-total-requires-clause-high : goal.term-total-requires-clause-high
term-total-requires-clause-high c = rw (to_z-of_z w16 c.args.frac c.ranges.frac) c.requires.high

pub term-total-requires-clause-short : goal.term-total-requires-clause-short
term-total-requires-clause-short c =
    let i = c.loop-input.input in
    rw (to_z-of_z w16 c.args.frac c.ranges.frac) (c.requires.sum.short i _ (inside c.args.frac c.args.signs.now c.args.types.now c.args.inputs.now c.requires.sum i c.loop-input-test.true))

pub term-total-requires-clause-small : goal.term-total-requires-clause-small
term-total-requires-clause-small c =
    let i = c.loop-input.input in
    rw (to_z-of_z w16 c.args.frac c.ranges.frac, shortened (goal.at.term-total-requires-clause-small c).After-short)
    (aligned_small c.args.frac c.args.signs.now c.args.types.now c.args.inputs.now c.requires.sum i
    c.loop-input-test.true)

-- one more term gives the sum of one more
step : (c : After-term-total) → to_z w64 c.loop-input.total-bits +ℤ to_z w64 (of_z w64 c.term-total.result)
    ≡ signed_sum c.args.frac (take (suc c.loop-input.input) (zip c.args.signs.now c.args.types.now)) (take (suc c.loop-input.input) c.args.inputs.now)
step c =
    let i = c.loop-input.input in
    let f = to_z-of_z w16 c.args.frac c.ranges.frac in
    let r = to_z-of_z w64 c.term-total.result (record { sfits = c.term-total.type_inv }) in
    let fits = value_fits c.args.frac c.args.signs.now c.args.types.now c.args.inputs.now c.requires.sum i c.loop-input-test.true in
    let s = to_z-of_z w64 c.short.result (record { sfits = c.short.type_inv }) ∙ c.short.ensures ∙ wide (value_of c.args.inputs.now i) fits in
    let term : c.term-total.result ≡ term_of c.args.frac (get_or c.args.signs.now i false) (type_of c.args.types.now i) (value_of c.args.inputs.now i) = rw (f, s) at c.term-total.ensures in
    let before : to_z w64 c.loop-input.total-bits ≡ signed_sum c.args.frac (take i (zip c.args.signs.now c.args.types.now)) (take i c.args.inputs.now) = rw f at c.loop-input.invariant in
    rw (r, before, term) (sum_step c.args.frac c.args.signs.now c.args.types.now c.args.inputs.now c.requires.sum i c.loop-input-test.true)

pub overflow_add-total : goal.overflow_add-total
overflow_add-total c =
    rw (step (goal.at.overflow_add-total c).After-term-total) (part_fits c.args.frac c.args.signs.now c.args.types.now c.args.inputs.now c.requires.sum (suc c.loop-input.input))

pub loop-input-preserved : goal.loop-input-preserved
loop-input-preserved c =
    let f = to_z-of_z w16 c.args.frac c.ranges.frac in
    rw (f, add-one, step (goal.at.loop-input-preserved c).After-term-total)
    (to_z-of_z w64 _ (part_fits c.args.frac c.args.signs.now c.args.types.now c.args.inputs.now c.requires.sum
    (suc c.loop-input.input)))

pub returns : goal.returns
returns c =
    let f = to_z-of_z w16 c.args.frac c.ranges.frac in
    let before : to_z w64 c.loop-input.total-bits
    ≡ signed_sum c.args.frac (take c.loop-input.input (zip c.args.signs.now c.args.types.now))
    (take c.loop-input.input c.args.inputs.now) = rw f at c.loop-input.invariant in
    before ∙ all_of c.args.frac c.args.signs.now c.args.types.now c.args.inputs.now c.requires.sum c.loop-input.input c.loop-input-test.false
