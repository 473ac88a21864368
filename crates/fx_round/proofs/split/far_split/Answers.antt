use Rattle.std.proofs.Common.{ap, sym, ◌∙◌, arith, of_z, to_z, inl, inr}
use Rattle.std.specs.Int.{w128}
use Rattle.std.proofs.lemmas.Int.{ints, to_z-of_z}
use Rattle.fx_round.proofs.Shifts.{far_positive, far_half, far_negative}
use Rattle.fx_round.proofs.split.far_split.Goals as goal

pub returns-then-v-gt0-clause-split : goal.returns-then-v-gt0-clause-split
returns-then-v-gt0-clause-split c = far_positive c.args.v c.args.by c.requires c.ranges.v (omega (arith, ints, c.if-v-gt0.true))

pub returns-then-by-eq128-clause-split : goal.returns-then-by-eq128-clause-split
returns-then-by-eq128-clause-split c = let h = c.if-v-eqminus170141183460469231731687303715884105728.true in
    rw c.if-by-eq128.true (far_half c.args.v (sym (to_z-of_z w128 c.args.v c.ranges.v) ∙ ap (to_z w128) h))

pub returns-else-v-eqminus170141183460469231731687303715884105728-clause-split : goal.returns-else-v-eqminus170141183460469231731687303715884105728-clause-split
returns-else-v-eqminus170141183460469231731687303715884105728-clause-split c =
    let z = c.if-v-eq0.false in
    far_negative c.args.v c.args.by c.requires c.ranges.v (omega (arith, ints, c.if-v-gt0.false, c.if-v-eq0.false))
    (λ e k. elim c.else-v-eqminus170141183460469231731687303715884105728.either [ inl p ↦ p.1 k | inr n ↦ n (ap (of_z w128) e) ])
