use Rattle.std.proofs.Common.{Bool, List, ap, refl, ℕ, length, arith}
use Rattle.dg_model.specs.Attributes.{attributes_of}
use Rattle.hw_latency.specs.Weight.{arc_between}
use Rattle.hw_build.proofs.design.line_use.Goals as goal

pub returns : goal.returns
returns c =
    let diagram = c.args.design.checked.now.diagram in
    let fed = ap (λ (fed : List Bool). (arc_between diagram (attributes_of diagram) c.args.design.plan.now fed c.args.from c.args.to).slack) c.as_slice.ensures in
    rw (c.arc_between-arc.ensures.is, fed, c.as_slice-2.ensures) refl

pub bounds-as_slice-to : goal.bounds-as_slice-to
bounds-as_slice-to c =
    let same = ap (λ (xs : List ℕ). length xs) c.as_slice-2.ensures in
    omega (arith, c.requires.to, same, c.requires.designed.scheduled.timed.size)

pub offset_bounds-as_slice-to : goal.offset_bounds-as_slice-to
offset_bounds-as_slice-to c =
    let same = ap (λ (xs : List ℕ). length xs) c.as_slice-2.ensures in
    omega (arith, c.requires.to, same, c.requires.designed.scheduled.timed.size)
