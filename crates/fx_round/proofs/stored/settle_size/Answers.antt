use Rattle.std.proofs.Common.{◌≡◌, pos, neg_ℤ, to_z, of_z, arith, ◌∙◌}
use Rattle.std.specs.Int.{w128}
use Rattle.std.proofs.lemmas.Int.{ints, to_z-of_z}
use Rattle.fx_type.specs.FxType.{lowest_of, highest_of}
use Rattle.fx_type.specs.Conversion.{Saturates}
use Rattle.fx_round.specs.inner.Parts.{IsMagnitude}
use Rattle.fx_round.proofs.Sizes.{stores_high, huge_high, huge_low, highest_bound}
use Rattle.fx_round.proofs.stored.settle_size.Goals as goal

pub returns-then-negative : goal.returns-then-negative
returns-then-negative c n d h size =
    let m : IsMagnitude n d c.in-Some.split = rw c.in-Some.is at size in
    let e = to_z-of_z w128 c.nearest_in_type.result (record { sfits = c.nearest_in_type.type_inv }) in
    let q = to_z-of_z w128 c.rounded_value.result (record { sfits = c.rounded_value.type_inv }) in
    let s : Saturates c.args.to c.rounded_value.result c.nearest_in_type.result = rw q at c.nearest_in_type.ensures in
    rw (c.if-negative.true, e) (record { rounded = c.rounded_value.result; rounds = c.rounded_value.ensures (neg_ℤ (pos n)) d (c.negation.ensures.split (pos n) d m.is_split); settles = s })

pub returns-else-split-lt170141183460469231731687303715884105727 : goal.returns-else-split-lt170141183460469231731687303715884105727
returns-else-split-lt170141183460469231731687303715884105727 c n d h size =
    let m : IsMagnitude n d c.in-Some.split = rw c.in-Some.is at size in
    let e : to_z w128 (of_z w128 c.highest.result) ≡ highest_of c.args.to = to_z-of_z w128 c.highest.result (record { sfits = c.highest.type_inv }) ∙ c.highest.ensures in
    rw (c.if-negative.false, e) (stores_high (pos n) d c.args.to c.in-Some.split.floor m.is_split.rest m.is_split.whole m.is_split.below
    (omega (arith, ints, highest_bound c.args.to c.requires.valid, c.if-split-lt170141183460469231731687303715884105727.false)))

pub returns-then-negative-2 : goal.returns-then-negative-2
returns-then-negative-2 c n d h size =
    let e : to_z w128 (of_z w128 c.lowest.result) ≡ lowest_of c.args.to = to_z-of_z w128 c.lowest.result (record { sfits = c.lowest.type_inv }) ∙ c.lowest.ensures in
    rw (c.if-negative-2.true, e) (huge_low n d c.args.to c.requires.valid h (rw c.in-None.is at size))

pub returns-else-negative-2 : goal.returns-else-negative-2
returns-else-negative-2 c n d h size =
    let e : to_z w128 (of_z w128 c.highest-else-negative-2.result) ≡ highest_of c.args.to =
    to_z-of_z w128 c.highest-else-negative-2.result (record { sfits = c.highest-else-negative-2.type_inv })
    ∙ c.highest-else-negative-2.ensures in
    rw (c.if-negative-2.false, e) (huge_high n d c.args.to c.requires.valid h (rw c.in-None.is at size))
