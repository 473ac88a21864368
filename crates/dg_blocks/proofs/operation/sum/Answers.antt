use Rattle.std.proofs.Common.{◌≡◌, length, to_z, of_z, sym, subst, ◌∙◌}
use Rattle.std.specs.Prelude.{zip}
use Rattle.std.specs.Int.{w16, w128}
use Rattle.std.proofs.lemmas.Int.{to_z-of_z}
use Rattle.fx_type.specs.declared.kind.FxType.{FxType}
use Rattle.fx_type.specs.FxType.{frac_of}
use Rattle.fx_type.specs.FullType.{IsFullSum}
use Rattle.fx_type.proofs.Ranges.{frac_bounds}
use Rattle.dg_model.specs.declared.op.Op.{Op}
use Rattle.dg_model.specs.Operation.{HasFullType, HasSigns, Gives, operation_of}
use Rattle.dg_blocks.proofs.Sums.{full_frac}
use Rattle.dg_blocks.proofs.operation.sum.Goals as goal
use Rattle.dg_blocks.proofs.operation.sum.Goals.{After-greatest_frac-frac}

-- the full type of the call, with the frac that the code found
full_of : (c : After-greatest_frac-frac)
    → (full : FxType) × IsFullSum (zip c.args.call.now.signs.now c.args.call.now.types.now) full × (frac_of full ≡ to_z w16 (of_z w16 c.greatest_frac-frac.result))
full_of c =
    let call = c.args.call.now in
    let found = subst (λ (op : Op). HasFullType op call.signs.now call.types.now) c.requires.is_sum c.requires.can.prepared.full_type in
    let signs : length call.signs.now ≡ length call.types.now = subst (λ (op : Op). HasSigns op call.signs.now (length call.types.now)) c.requires.is_sum c.requires.can.prepared.signs in
    let g : to_z w16 (of_z w16 c.greatest_frac-frac.result) ≡ c.greatest_frac-frac.result = to_z-of_z w16 c.greatest_frac-frac.result (record { sfits = c.greatest_frac-frac.type_inv }) in
    let e = full_frac c.greatest_frac-frac.result call.signs.now call.types.now found.0 signs found.1 c.greatest_frac-frac.ensures.bound c.greatest_frac-frac.ensures.reached in
    (found.0, found.1, e ∙ sym g)

pub signed_sum-exact-requires-clause-full : goal.signed_sum-exact-requires-clause-full
signed_sum-exact-requires-clause-full c = full_of (goal.at.signed_sum-exact-requires-clause-full c).After-greatest_frac-frac

pub exact_conversion-requires-clause-low : goal.exact_conversion-requires-clause-low
exact_conversion-requires-clause-low c =
    let full = full_of (goal.at.exact_conversion-requires-clause-low c).After-greatest_frac-frac in
    rw (← full.2) (frac_bounds full.0 full.1.valid).0

pub exact_conversion-requires-clause-high : goal.exact_conversion-requires-clause-high
exact_conversion-requires-clause-high c =
    let full = full_of (goal.at.exact_conversion-requires-clause-high c).After-greatest_frac-frac in
    rw (← full.2) (frac_bounds full.0 full.1.valid).1

pub returns : goal.returns
returns c =
    let full = full_of (goal.at.returns c).After-greatest_frac-frac in
    let s = c.signed_sum-exact.result in
    let exact : to_z w128 (of_z w128 s) ≡ s = to_z-of_z w128 s (record { sfits = c.signed_sum-exact.type_inv }) in
    let r : to_z w128 (of_z w128 c.exact_conversion.result) ≡ c.exact_conversion.result = to_z-of_z w128 c.exact_conversion.result (record { sfits = c.exact_conversion.type_inv }) in
    let converted = rw (exact, c.signed_sum-exact.ensures, ← full.2) at (c.exact_conversion.ensures full.0 full.2) in
    rw r (subst (λ (op : Op). Gives op (operation_of c.args.call.now) c.args.call.now.types.now c.args.inputs.now c.exact_conversion.result) (sym c.requires.is_sum) (full.0, full.1, converted))
