use Rattle.std.proofs.Common.{◌≡◌, ◌∙◌, ℕ, length, to_z, of_z, subst, arith}
use Rattle.std.specs.Int.{w16}
use Rattle.std.proofs.lemmas.Int.{to_z-of_z}
use Rattle.fx_type.specs.FxType.{IsType, frac_of}
use Rattle.fx_type.proofs.Ranges.{frac_bounds}
use Rattle.dg_model.specs.declared.op.Op.{Op}
use Rattle.dg_model.specs.Operation.{HasArity, type_of}
use Rattle.dg_blocks.specs.Narrow.{HasRoom}
use Rattle.dg_blocks.proofs.preparing.prepared_conversion.Goals as goal
use Rattle.dg_blocks.proofs.preparing.prepared_conversion.Goals.{After-frac}

frac_is : (c : After-frac) → to_z w16 (of_z w16 c.frac.result) ≡ frac_of (type_of c.args.call.now.types.now 0)
frac_is c = to_z-of_z w16 c.frac.result (record { sfits = c.frac.type_inv }) ∙ c.frac.ensures

valid : (c : After-frac) → IsType (type_of c.args.call.now.types.now 0)
valid c =
    let one : length c.args.call.now.types.now ≡ 1 = subst (λ (op : Op). HasArity op (length c.args.call.now.types.now)) c.requires.is_convert c.requires.can.arity in
    c.requires.can.types 0 _ (omega (arith, one))

pub new-requires-clause-low : goal.new-requires-clause-low
new-requires-clause-low c = let here = (goal.at.new-requires-clause-low c).After-frac in rw (frac_is here) (frac_bounds _ (valid here)).0

pub new-requires-clause-high : goal.new-requires-clause-high
new-requires-clause-high c = let here = (goal.at.new-requires-clause-high c).After-frac in rw (frac_is here) (frac_bounds _ (valid here)).1

pub new-requires-clause-to : goal.new-requires-clause-to
new-requires-clause-to c = c.requires.can.result

pub returns-in-Some : goal.returns-in-Some
returns-in-Some c =
    let f = frac_is (goal.at.returns-in-Some c).After-frac in
    (c.requires.is_convert, (rw f at c.in-Some.ensures.is, subst (λ (n : ℕ). HasRoom c.in-Some.narrow n) c.magnitude-bits.ensures.is c.in-Some.ensures.room))
