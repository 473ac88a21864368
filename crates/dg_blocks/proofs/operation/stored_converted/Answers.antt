use Rattle.std.proofs.Common.{ℤ, sym, subst, arith}
use Rattle.std.specs.Int.{w128}
use Rattle.std.proofs.lemmas.Int.{ints, to_z-of_z}
use Rattle.fx_type.specs.declared.kind.FxType.{FxType}
use Rattle.fx_type.specs.declared.kind.FxType.TheVariants.{Num, Logical}
use Rattle.fx_type.specs.FxType.{InRange, IsType}
use Rattle.dg_model.specs.Operation.{without_frac}
use Rattle.dg_blocks.proofs.operation.stored_converted.Goals as goal

type_without : (type : FxType) → IsType type → IsType (without_frac type)
type_without (Num signed width frac) is = (is.0, omega (arith, ints), omega (arith, ints))
type_without Logical is = is

range_without : (type : FxType) (v : ℤ) → InRange type v → InRange (without_frac type) v
range_without (Num signed width frac) v range = record { low = range.low; high = range.high }
range_without Logical v range = range

pub convert-requires-clause-from : goal.convert-requires-clause-from
convert-requires-clause-from c = subst IsType (sym c.without_frac.ensures) (type_without c.args.from c.requires.from)

pub convert-requires-clause-to : goal.convert-requires-clause-to
convert-requires-clause-to c = subst IsType (sym c.without_frac-to.ensures) (type_without c.args.call.now.result c.requires.result)

pub convert-requires-clause-in_range : goal.convert-requires-clause-in_range
convert-requires-clause-in_range c =
    rw (to_z-of_z w128 c.args.v c.ranges.v) (subst (λ (type : FxType). InRange type c.args.v) (sym c.without_frac.ensures) (range_without c.args.from c.args.v c.requires.in_range))

pub returns : goal.returns
returns c =
    rw (to_z-of_z w128 c.convert.result (record { sfits = c.convert.type_inv }))
    (rw (to_z-of_z w128 c.args.v c.ranges.v, c.without_frac.ensures, c.without_frac-to.ensures) at c.convert.ensures)
