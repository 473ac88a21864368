use Rattle.std.proofs.Common.{subst, arith}
use Rattle.std.specs.Int.{w16, w128}
use Rattle.std.proofs.lemmas.Int.{ints, to_z-of_z}
use Rattle.fx_type.proofs.Ranges.{frac_bounds}
use Rattle.dg_model.specs.Operation.{operation_of}
use Rattle.dg_blocks.specs.declared.prepared.Prepared.{Prepared}
use Rattle.dg_blocks.specs.declared.prepared.Prepared.TheVariants.{Summed}
use Rattle.dg_blocks.specs.Prepared.{IsPrepared}
use Rattle.dg_blocks.proofs.prepared.Prepared.output.Goals as goal

pub alone-requires : goal.alone-requires
alone-requires c = (operation_of c.args.call.now, c.requires.prepared, c.requires.can)

pub sum-requires-clause-prepared : goal.sum-requires-clause-prepared
sum-requires-clause-prepared c =
    let is : IsPrepared (Summed c.in-Summed.frac c.in-Summed.narrow) (operation_of c.args.call.now) =
    subst (λ (p : Prepared). IsPrepared p (operation_of c.args.call.now)) c.in-Summed.is c.requires.prepared in
    let bounds = frac_bounds is.0 is.2.valid in
    rw (to_z-of_z w16 c.in-Summed.frac (omega (arith, ints, bounds.0, bounds.1, is.3))) is

pub sum-requires-clause-can : goal.sum-requires-clause-can
sum-requires-clause-can c = c.requires.can

pub switch-requires-clause-prepared : goal.switch-requires-clause-prepared
switch-requires-clause-prepared c = subst (λ (p : Prepared). IsPrepared p (operation_of c.args.call.now)) c.in-Chosen.is c.requires.prepared

pub switch-requires-clause-can : goal.switch-requires-clause-can
switch-requires-clause-can c = c.requires.can

pub output-requires : goal.output-requires
output-requires c = c.requires.can

pub returns-in-Summed : goal.returns-in-Summed
returns-in-Summed c = rw (to_z-of_z w128 c.sum.result (record { sfits = c.sum.type_inv })) c.sum.ensures

pub returns-in-Chosen : goal.returns-in-Chosen
returns-in-Chosen c = rw (to_z-of_z w128 c.switch.result (record { sfits = c.switch.type_inv })) c.switch.ensures

pub returns-in-Wide : goal.returns-in-Wide
returns-in-Wide c = rw (to_z-of_z w128 c.output.result (record { sfits = c.output.type_inv })) c.output.ensures
