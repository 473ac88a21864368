use Rattle.std.proofs.Common.{◌≡◌, ◌∷◌, [], false, None, to_z, of_z, refl, sym, subst}
use Rattle.std.specs.Int.{w128}
use Rattle.std.proofs.lemmas.Int.{to_z-of_z}
use Rattle.fx_type.specs.FxType.{InRange}
use Rattle.fx_type.proofs.Ranges.{InRange-fits}
use Rattle.dg_blocks.proofs.Pairs.{can_add}
use Rattle.dg_blocks.proofs.operation.step.Goals as goal

pub sum-requires-clause-can : goal.sum-requires-clause-can
sum-requires-clause-can c =
    let b = to_z-of_z w128 c.args.before (InRange-fits c.args.accum c.args.before c.requires.accum c.requires.before) in
    let v = to_z-of_z w128 c.args.v (InRange-fits c.args.kind c.args.v c.requires.kind c.requires.in_range) in
    rw (b, v) (can_add c.args.accum c.args.kind c.args.negative c.args.before c.args.v c.args.call.now.rounding
    c.args.call.now.saturate c.requires.accum c.requires.kind c.requires.before c.requires.in_range
    c.requires.full)

pub returns-clause-step : goal.returns-clause-step
returns-clause-step c =
    let b = to_z-of_z w128 c.args.before (InRange-fits c.args.accum c.args.before c.requires.accum c.requires.before) in
    let v = to_z-of_z w128 c.args.v (InRange-fits c.args.kind c.args.v c.requires.kind c.requires.in_range) in
    let r = to_z-of_z w128 c.sum.result (record { sfits = c.sum.type_inv }) in
    rw r (rw (b, v) at c.sum.ensures)

pub returns-clause-range : goal.returns-clause-range
returns-clause-range c =
    let b = to_z-of_z w128 c.args.before (InRange-fits c.args.accum c.args.before c.requires.accum c.requires.before) in
    let v = to_z-of_z w128 c.args.v (InRange-fits c.args.kind c.args.v c.requires.kind c.requires.in_range) in
    let r = to_z-of_z w128 c.sum.result (record { sfits = c.sum.type_inv }) in
    let can = can_add c.args.accum c.args.kind c.args.negative c.args.before c.args.v c.args.call.now.rounding
    c.args.call.now.saturate c.requires.accum c.requires.kind c.requires.before c.requires.in_range
    c.requires.full in
    let one = c.operation_gives_one.ensures.exactly _ _ can in
    rw r (subst (InRange c.args.accum) (sym (one.only c.sum.result (rw (b, v) at c.sum.ensures))) one.in_range)
