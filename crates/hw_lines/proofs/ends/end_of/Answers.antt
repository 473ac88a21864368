use Rattle.std.proofs.Common.{rules, ◌≡◌, ◌-◌, ◌*◌, ◌/◌, ◌%◌, ◌^◌, ◌<◌, ◌≤◌, ℕ, slice_index_or, IfOk, OnOk, ap, arith, length, mul-le-mul_right, mul-pos, FitsSigned}
use Rattle.std.specs.Int.{w128}
use Rattle.std.proofs.lemmas.Int.{to_z-of_z}
use Rattle.std.proofs.lemmas.Nat.{mod_below}
use Rattle.std.proofs.Math.Nat.{le-mul_of_pos_right}
use Rattle.hw_lines.specs.Register.{CanHold}
use Rattle.hw_lines.specs.inner.Ends.{IsEnd, Ends}
use Rattle.hw_lines.proofs.LineEnds.{nothing-ends, whole-ends, parted-rest, bridge-ends, phase-ends}
use Rattle.hw_lines.proofs.ends.end_of.Goals as goal

pub bounds-taps-one : goal.bounds-taps-one
bounds-taps-one c = rw c.from-own.ensures c.requires.size

pub offset_bounds-taps-one : goal.offset_bounds-taps-one
offset_bounds-taps-one c =
    let inside : c.args.one.shift / c.from-own.result < length c.args.taps.now = rw c.from-own.ensures c.requires.size in
    omega (arith, inside)

pub nonzero_div-tap : goal.nonzero_div-tap
nonzero_div-tap c = omega (arith, c.requires.some, c.from-own.ensures)

pub nonzero_rem-rest : goal.nonzero_rem-rest
nonzero_rem-rest c = omega (arith, c.requires.some, c.from-own.ensures)

pub overflow_cast-rest : goal.overflow_cast-rest
overflow_cast-rest c =
    let below : c.args.one.shift % c.args.source.frame.period < c.args.source.frame.period = mod_below c.args.one.shift c.args.source.frame.period c.requires.some in
    let wide : c.args.source.frame.period ≤ c.args.source.frame.period * c.args.net.now.cycles = le-mul_of_pos_right c.args.source.frame.period c.requires.cycles in
    let few : c.args.one.shift % c.args.source.frame.period < 2 ^ 32 = omega (arith, below, wide, c.requires.room) in
    record { fits = rw c.from-own.ensures few }

pub overflow_mul-slot : goal.overflow_mul-slot
overflow_mul-slot c =
    let rest : ℕ = c.args.one.shift % c.args.source.frame.period in
    let below : rest < c.args.source.frame.period = mod_below c.args.one.shift c.args.source.frame.period c.requires.some in
    let less : rest * c.args.net.now.cycles ≤ c.args.source.frame.period * c.args.net.now.cycles = mul-le-mul_right c.args.net.now.cycles (omega (arith, below)) in
    let few : rest * c.args.net.now.cycles < 2 ^ 32 = omega (arith, less, c.requires.room) in
    record { fits = rw (c.from-own.ensures, c.cycles.ensures) few }

pub overflow_sub-slot : goal.overflow_sub-slot
overflow_sub-slot c =
    let rest : ℕ = c.args.one.shift % c.args.source.frame.period in
    let some = parted-rest c.args.net.now c.args.source c.args.taps.now c.args.one c.requires c.if-source.true (rw c.is_whole.ensures at c.if-is_whole.false) in
    let more : 0 < rest * c.args.net.now.cycles = mul-pos (omega (arith, some)) c.requires.cycles in
    rw (c.from-own.ensures, c.cycles.ensures) (omega (arith, more))

pub overflow_sub-source : goal.overflow_sub-source
overflow_sub-source c =
    let below : c.args.one.shift % c.args.source.frame.period < c.args.source.frame.period = mod_below c.args.one.shift c.args.source.frame.period c.requires.some in
    rw c.from-own.ensures (omega (arith, below))

pub bridge_at-requires-clause-live : goal.bridge_at-requires-clause-live
bridge_at-requires-clause-live c =
    let below : c.args.one.shift % c.args.source.frame.period < c.args.source.frame.period = mod_below c.args.one.shift c.args.source.frame.period c.requires.some in
    rw c.from-own.ensures (omega (arith, below))

pub bridge_at-requires-clause-from : goal.bridge_at-requires-clause-from
bridge_at-requires-clause-from c =
    let held : CanHold c.args.net.now (slice_index_or c.args.taps.now
    (c.args.one.shift / c.args.source.frame.period) 0) c.args.source.first =
    c.requires.held (c.args.one.shift / c.args.source.frame.period) 0 c.requires.size in
    rw c.from-own.ensures held.there

pub register_at-requires-clause-cycles : goal.register_at-requires-clause-cycles
register_at-requires-clause-cycles c = c.requires.cycles

pub register_at-requires-clause-period : goal.register_at-requires-clause-period
register_at-requires-clause-period c = c.requires.some

pub reader_of-reader-requires : goal.reader_of-reader-requires
reader_of-reader-requires c = omega (arith, c.requires.early, c.requires.use_is.near)

pub returns-then-is_whole-clause-end : goal.returns-then-is_whole-clause-end
returns-then-is_whole-clause-end c = rw c.from-own.ensures
    (whole-ends c.args.net.now c.args.source c.args.taps.now c.args.one c.requires c.tap_meets.ensures
    c.tap_holds.ensures (rw c.is_whole.ensures at c.if-is_whole.true))

pub returns-then-is_whole-clause-ends : goal.returns-then-is_whole-clause-ends
returns-then-is_whole-clause-ends c = nothing-ends c.args.net.now c.args.source c.args.taps.now c.args.one c.requires

pub register_at-requires-clause-from : goal.register_at-requires-clause-from
register_at-requires-clause-from c =
    let f : FitsSigned w128 c.args.source.first = search rules in
    let first = to_z-of_z w128 c.args.source.first f in
    let held : CanHold c.args.net.now (slice_index_or c.args.taps.now
    (c.args.one.shift / c.args.source.frame.period) 0) c.args.source.first =
    c.requires.held (c.args.one.shift / c.args.source.frame.period) 0 c.requires.size in
    rw (first, c.from-own.ensures) held

registered_end : (c : goal.After-register_at)
    → IfOk c.register_at.result (λ number. IsEnd c.args.net.now c.register_at.new.net c.args.source c.args.taps.now
    c.args.one number) × OnOk c.register_at.result
    (Ends c.args.net.now c.register_at.new.net c.args.source c.args.taps.now c.args.one)
registered_end c =
    let f : FitsSigned w128 c.args.source.first = search rules in
    let first = to_z-of_z w128 c.args.source.first f in
    let r : ℕ = c.args.one.shift % c.args.source.frame.period in
    let at_slot : r * c.cycles.result - 1 ≡ r * c.args.net.now.cycles - 1 = ap (λ (x : ℕ). r * x - 1) c.cycles.ensures in
    phase-ends c.args.net.now c.args.source c.args.taps.now c.args.one c.requires c.register_at.new.net
    c.register_at.result c.phase_register_meets.ensures c.if-source.true
    (rw c.is_whole.ensures at c.if-is_whole.false) (r * c.cycles.result - 1) at_slot
    (rw (c.from-own.ensures, first) at c.register_at.ensures)

pub returns-then-source-clause-end : goal.returns-then-source-clause-end
returns-then-source-clause-end c = (registered_end c).0

pub returns-then-source-clause-ends : goal.returns-then-source-clause-ends
returns-then-source-clause-ends c = (registered_end c).1

bridged_end : (c : goal.After-bridge_at)
    → IfOk c.bridge_at.result (λ number. IsEnd c.args.net.now c.bridge_at.new.net c.args.source c.args.taps.now
    c.args.one number) × OnOk c.bridge_at.result
    (Ends c.args.net.now c.bridge_at.new.net c.args.source c.args.taps.now c.args.one)
bridged_end c =
    bridge-ends c.args.net.now c.args.source c.args.taps.now c.args.one c.requires c.bridge_at.new.net
    c.bridge_at.result c.bridge_meets.ensures c.if-source.false (rw c.is_whole.ensures at c.if-is_whole.false)
    (rw (c.from-own.ensures, c.reader_of-reader.ensures) at c.bridge_at.ensures)

pub returns-clause-end : goal.returns-clause-end
returns-clause-end c = (bridged_end c).0

pub returns-clause-ends : goal.returns-clause-ends
returns-clause-ends c = (bridged_end c).1
