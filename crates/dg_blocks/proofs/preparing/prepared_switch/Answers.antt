use Rattle.std.proofs.Common.{◌≡◌, ◌∙◌, length, to_z, of_z, ap, sym, subst, arith}
use Rattle.std.specs.Int.{w16}
use Rattle.std.proofs.lemmas.Int.{to_z-of_z}
use Rattle.fx_type.specs.FxType.{IsType, frac_of}
use Rattle.fx_type.proofs.Ranges.{frac_bounds}
use Rattle.dg_model.specs.declared.op.Op.{Op}
use Rattle.dg_model.specs.Operation.{HasArity, type_of}
use Rattle.dg_blocks.proofs.preparing.prepared_switch.Goals as goal
use Rattle.dg_blocks.proofs.preparing.prepared_switch.Goals.{After-frac-frac}

frac_is : (c : After-frac-frac) → to_z w16 (of_z w16 c.frac-frac.result) ≡ frac_of (type_of c.args.call.now.types.now 0)
frac_is c = to_z-of_z w16 c.frac-frac.result (record { sfits = c.frac-frac.type_inv }) ∙ c.frac-frac.ensures

valid : (c : After-frac-frac) → IsType (type_of c.args.call.now.types.now 0)
valid c =
    let three : length c.args.call.now.types.now ≡ 3 = subst (λ (op : Op). HasArity op (length c.args.call.now.types.now)) c.requires.is_switch.2 c.requires.can.arity in
    c.requires.can.types 0 _ (omega (arith, three))

pub new-requires-clause-low : goal.new-requires-clause-low
new-requires-clause-low c = let here = (goal.at.new-requires-clause-low c).After-frac-frac in rw (frac_is here) (frac_bounds _ (valid here)).0

pub new-requires-clause-high : goal.new-requires-clause-high
new-requires-clause-high c = let here = (goal.at.new-requires-clause-high c).After-frac-frac in rw (frac_is here) (frac_bounds _ (valid here)).1

pub new-requires-clause-to : goal.new-requires-clause-to
new-requires-clause-to c = c.requires.can.result

pub returns-in-Some : goal.returns-in-Some
returns-in-Some c =
    let switch = c.requires.is_switch in
    let f = frac_is (goal.at.returns-in-Some c).After-frac-frac in
    let g = to_z-of_z w16 c.frac.result (record { sfits = c.frac.type_inv }) ∙ c.frac.ensures in
    let h = to_z-of_z w16 c.frac-2.result (record { sfits = c.frac-2.type_inv }) ∙ c.frac-2.ensures in
    let same = sym g ∙ ap (to_z w16) c.if-frac.false ∙ h in (
      switch.0,
      switch.1,
      switch.2,
      c.max-bits.result,
      omega (arith, c.max-bits.ensures, c.magnitude.ensures.is),
      omega (arith, c.max-bits.ensures, c.magnitude-2.ensures.is),
      sym same,
      (rw f at c.in-Some.ensures.is, c.in-Some.ensures.room),
    )
