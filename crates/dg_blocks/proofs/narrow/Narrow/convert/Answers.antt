use Rattle.std.proofs.Common.{◌≡◌, Bool, true, false, ◌*ℤ◌, ◌^◌, FitsSigned, subst, sym, ◌∙◌, arith, rules}
use Rattle.std.specs.Int.{w64}
use Rattle.std.proofs.lemmas.Int.{ints, to_z-of_z}
use Rattle.fx_type.specs.Conversion.{Settles}
use Rattle.dg_blocks.specs.declared.narrow.Way.{Way}
use Rattle.dg_blocks.specs.Narrow.{IsWay, IsShifted}
use Rattle.dg_blocks.proofs.NarrowWords.{exact_converts, plain_converts}
use Rattle.dg_blocks.proofs.narrow.Narrow.convert.Goals as goal

pub overflow_mul-result : goal.overflow_mul-result
overflow_mul-result c =
    let f : FitsSigned w64 c.args.self.scale = search rules in
    let s = c.requires.room.1.small c.args.v c.requires.room.2 in
    rw (to_z-of_z w64 c.args.v c.ranges.v, to_z-of_z w64 c.args.self.scale f) (omega (arith, ints, s.low, s.high))

pub returns-in-Exact : goal.returns-in-Exact
returns-in-Exact c from to mode saturate is =
    let f : FitsSigned w64 c.args.self.scale = search rules in
    let s = c.requires.room.1.small c.args.v c.requires.room.2 in
    let fits : FitsSigned w64 (c.args.v *ℤ c.args.self.scale) = omega (arith, ints, s.low, s.high) in
    let whole = subst (λ (way : Way). IsWay way c.args.self) c.in-Exact.is is.way in
    rw (to_z-of_z w64 c.args.v c.ranges.v, to_z-of_z w64 c.args.self.scale f, to_z-of_z w64 (c.args.v *ℤ c.args.self.scale) fits)
    (exact_converts c.args.self from to mode saturate c.args.v is whole (c.requires.room.1.in_range c.in-Exact.is c.args.v c.requires.room.2))

pub returns-in-Wraps : goal.returns-in-Wraps
returns-in-Wraps c from to mode saturate is =
    let bias : FitsSigned w64 c.args.self.bias = search rules in
    let way = subst (λ (way : Way). IsWay way c.args.self) c.in-Wraps.is is.way in
    let wraps : false ≡ saturate = sym way.1 ∙ is.ends.saturate_is in
    let r = to_z-of_z w64 c.biased_shift.result (record { sfits = c.biased_shift.type_inv }) in
    let shifted : IsShifted c.args.v c.args.self.bias false (2 ^ c.args.self.down) c.biased_shift.result =
    rw (to_z-of_z w64 c.args.v c.ranges.v, to_z-of_z w64 c.args.self.bias bias) at
    c.biased_shift.ensures.shifted in
    let settles : Settles to false c.biased_shift.result c.wrapped.result = rw r at (c.wrapped.ensures to saturate is.ends) in
    rw (to_z-of_z w64 c.wrapped.result (record { sfits = c.wrapped.type_inv }))
    (plain_converts c.args.self from to mode saturate c.args.v c.biased_shift.result c.wrapped.result is way.0
    shifted (subst (λ (s : Bool). Settles to s c.biased_shift.result c.wrapped.result) wraps settles))

pub returns-in-Ends : goal.returns-in-Ends
returns-in-Ends c from to mode saturate is =
    let bias : FitsSigned w64 c.args.self.bias = search rules in
    let way = subst (λ (way : Way). IsWay way c.args.self) c.in-Ends.is is.way in
    let saturates : true ≡ saturate = sym way.1 ∙ is.ends.saturate_is in
    let r = to_z-of_z w64 c.biased_shift-in-Ends.result (record { sfits = c.biased_shift-in-Ends.type_inv }) in
    let shifted : IsShifted c.args.v c.args.self.bias false (2 ^ c.args.self.down) c.biased_shift-in-Ends.result =
    rw (to_z-of_z w64 c.args.v c.ranges.v, to_z-of_z w64 c.args.self.bias bias) at
    c.biased_shift-in-Ends.ensures.shifted in
    let settles : Settles to true c.biased_shift-in-Ends.result c.nearest.result = rw r at (c.nearest.ensures to saturate is.ends) in
    rw (to_z-of_z w64 c.nearest.result (record { sfits = c.nearest.type_inv }))
    (plain_converts c.args.self from to mode saturate c.args.v c.biased_shift-in-Ends.result c.nearest.result is
    way.0 shifted
    (subst (λ (s : Bool). Settles to s c.biased_shift-in-Ends.result c.nearest.result) saturates settles))

pub settled-requires-clause-small : goal.settled-requires-clause-small
settled-requires-clause-small c = rw (to_z-of_z w64 c.args.v c.ranges.v) (c.requires.room.1.small c.args.v c.requires.room.2)

pub returns-in-Any : goal.returns-in-Any
returns-in-Any c from to mode saturate is =
    rw (to_z-of_z w64 c.settled.result (record { sfits = c.settled.type_inv })) (rw (to_z-of_z w64 c.args.v c.ranges.v) at (c.settled.ensures from to mode saturate is))
