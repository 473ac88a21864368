use Rattle.std.proofs.Common.{◌≡◌, ◌<◌, ◌≤◌, ◌+ℤ◌, ℤ, false, suc, length, get_or, take, to_z, of_z, FitsSigned, sym, arith, add-one}
use Rattle.std.specs.Prelude.{zip}
use Rattle.std.specs.Int.{w16, w128}
use Rattle.std.proofs.lemmas.Int.{to_z-of_z}
use Rattle.std.proofs.lemmas.List.{take_all}
use Rattle.std.proofs.lemmas.Slice.Zip.{length-zip}
use Rattle.fx_type.proofs.Ranges.{InRange-fits, frac_bounds}
use Rattle.dg_model.specs.Operation.{signed_sum, type_of, value_of}
use Rattle.dg_blocks.proofs.Sums.{part_fits, term_fits, frac_bound, sum_more, term_of}
use Rattle.dg_blocks.proofs.exact.signed_sum.Goals as goal
use Rattle.dg_blocks.proofs.exact.signed_sum.Goals.{After-term-total}

-- the frac, as 16 bits have it
frac_is : (frac : ℤ) → FitsSigned w16 frac → to_z w16 (of_z w16 frac) ≡ frac
frac_is frac fits = to_z-of_z w16 frac fits

pub term-total-requires-clause-above : goal.term-total-requires-clause-above
term-total-requires-clause-above c =
    let need = c.requires in
    let inside : c.loop-input.input < length c.args.types.now = omega (arith, need.inputs, c.loop-input-test.true) in
    let f : to_z w16 (of_z w16 c.args.frac) ≡ c.args.frac = frac_is c.args.frac c.ranges.frac in
    rw f (frac_bound c.args.frac c.args.signs.now c.args.types.now c.args.inputs.now need.types need.in_range need.signs need.inputs need.full.0 need.full.1 need.full.2 c.loop-input.input _ inside)

pub term-total-requires-clause-high : goal.term-total-requires-clause-high
term-total-requires-clause-high c =
    let full = c.requires.full in
    let f : to_z w16 (of_z w16 c.args.frac) ≡ c.args.frac = frac_is c.args.frac c.ranges.frac in
    rw (f, ← full.2) (frac_bounds full.0 full.1.valid).1

pub term-total-requires-clause-fits : goal.term-total-requires-clause-fits
term-total-requires-clause-fits c =
    let need = c.requires in
    let i = c.loop-input.input in
    let types = c.args.types.now in
    let inside : i < length types = omega (arith, need.inputs, c.loop-input-test.true) in
    let f : to_z w16 (of_z w16 c.args.frac) ≡ c.args.frac = frac_is c.args.frac c.ranges.frac in
    let value = value_of c.args.inputs.now i in
    let v : to_z w128 (of_z w128 value) ≡ value = to_z-of_z w128 value (InRange-fits (type_of types i) value (need.types i _ inside) (need.in_range i inside)) in
    rw (f, v) (term_fits c.args.frac c.args.signs.now types c.args.inputs.now need.types need.in_range need.signs need.inputs need.full.0 need.full.1 need.full.2 i inside)

-- one more term gives the sum of one more
step : (c : After-term-total) → to_z w128 c.loop-input.total-bits +ℤ to_z w128 (of_z w128 c.term-total.result)
    ≡ signed_sum c.args.frac (take (suc c.loop-input.input) (zip c.args.signs.now c.args.types.now)) (take (suc c.loop-input.input) c.args.inputs.now)
step c =
    let need = c.requires in
    let i = c.loop-input.input in
    let types = c.args.types.now in
    let value = value_of c.args.inputs.now i in
    let inside : i < length types = omega (arith, need.inputs, c.loop-input-test.true) in
    let f : to_z w16 (of_z w16 c.args.frac) ≡ c.args.frac = frac_is c.args.frac c.ranges.frac in
    let v : to_z w128 (of_z w128 value) ≡ value = to_z-of_z w128 value (InRange-fits (type_of types i) value (need.types i _ inside) (need.in_range i inside)) in
    let r : to_z w128 (of_z w128 c.term-total.result) ≡ c.term-total.result = to_z-of_z w128 c.term-total.result (record { sfits = c.term-total.type_inv }) in
    let term : c.term-total.result ≡ term_of c.args.frac (get_or c.args.signs.now i false) (type_of types i) value = rw (f, v) at c.term-total.ensures in
    let before : to_z w128 c.loop-input.total-bits ≡ signed_sum c.args.frac (take i (zip c.args.signs.now types)) (take i c.args.inputs.now) = rw f at c.loop-input.invariant in
    rw (r, before, term) (sym (sum_more c.args.frac c.args.signs.now types c.args.inputs.now need.signs need.inputs i inside))

part : (c : After-term-total) → FitsSigned w128 (signed_sum c.args.frac (take (suc c.loop-input.input) (zip c.args.signs.now c.args.types.now)) (take (suc c.loop-input.input) c.args.inputs.now))
part c =
    let need = c.requires in
    part_fits c.args.frac c.args.signs.now c.args.types.now c.args.inputs.now need.types need.in_range need.signs need.inputs need.full.0 need.full.1 need.full.2 (suc c.loop-input.input)

pub overflow_add-total : goal.overflow_add-total
overflow_add-total c = let here = (goal.at.overflow_add-total c).After-term-total in rw (step here) (part here)

pub loop-input-preserved : goal.loop-input-preserved
loop-input-preserved c =
    let here = (goal.at.loop-input-preserved c).After-term-total in
    let f : to_z w16 (of_z w16 c.args.frac) ≡ c.args.frac = frac_is c.args.frac c.ranges.frac in
    rw (f, add-one, step here) (to_z-of_z w128 _ (part here))

pub returns : goal.returns
returns c =
    let i = c.loop-input.input in
    let terms = zip c.args.signs.now c.args.types.now in
    let f : to_z w16 (of_z w16 c.args.frac) ≡ c.args.frac = frac_is c.args.frac c.ranges.frac in
    let before : to_z w128 c.loop-input.total-bits ≡ signed_sum c.args.frac (take i terms) (take i c.args.inputs.now) = rw f at c.loop-input.invariant in
    let count : length terms ≤ i = omega (arith, length-zip c.args.signs.now c.args.types.now, c.requires.signs, c.requires.inputs, c.loop-input-test.false) in
    rw (take_all i terms count, take_all i c.args.inputs.now c.loop-input-test.false) at before
