use Rattle.std.proofs.Common.{◌≤◌, refl, arith}
use Rattle.std.specs.Int.{w128}
use Rattle.std.proofs.lemmas.Int.{to_z-of_z}
use Rattle.fx_type.specs.declared.kind.FxType.TheVariants.{Num}
use Rattle.fx_type.specs.FxType.{IsType}
use Rattle.dg_blocks.proofs.NarrowWords.{ends_fit, ends_kept}
use Rattle.dg_blocks.proofs.narrow.Narrow.without_shift.Goals as goal

pub returns-clause-ends : goal.returns-clause-ends
returns-clause-ends c =
    let valid : IsType (Num c.in-Num.signed c.in-Num.width c.in-Num.frac) = rw c.in-Num.is at c.requires in
    let small : c.in-Num.width ≤ 60 = omega (arith, c.if-width-gt60.false) in
    let ends = ends_kept c.in-Num.width c.in-Num.signed c.lowest.result c.highest.result small
    (record { sfits = c.lowest.type_inv })
    (record { sfits = c.highest.type_inv }) c.lowest.ensures c.highest.ensures in
    rw c.in-Num.is (record { valid = valid; number = tt; width_below = small; saturate_is = refl; low_is = ends.0; high_is = ends.1 })

pub overflow_cast-result : goal.overflow_cast-result
overflow_cast-result c =
    let small : c.in-Num.width ≤ 60 = omega (arith, c.if-width-gt60.false) in
    rw (to_z-of_z w128 c.lowest.result (record { sfits = c.lowest.type_inv }), c.lowest.ensures) (ends_fit c.in-Num.width c.in-Num.signed small).0

pub overflow_cast-result-2 : goal.overflow_cast-result-2
overflow_cast-result-2 c =
    let small : c.in-Num.width ≤ 60 = omega (arith, c.if-width-gt60.false) in
    rw (to_z-of_z w128 c.highest.result (record { sfits = c.highest.type_inv }), c.highest.ensures) (ends_fit c.in-Num.width c.in-Num.signed small).1
