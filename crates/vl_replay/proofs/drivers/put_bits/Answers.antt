use Rattle.std.proofs.Common.{◌≡◌, ◌<◌, ℕ, length, subst, arith}
use Rattle.std.proofs.lemmas.Option.{slice_get-get_or}
use Rattle.vl_replay.specs.Sampled.{numbers_of}
use Rattle.vl_replay.specs.declared.drivers.Driver.TheVariants.{Reset}
use Rattle.vl_replay.specs.inner.Drivers.{AreBits, driver_bits}
use Rattle.vl_replay.proofs.Bits.{bits-more}
use Rattle.vl_replay.proofs.drivers.put_bits.Goals as goal

pub bounds-drivers-k : goal.bounds-drivers-k
bounds-drivers-k c = c.loop-k-test.true

pub bounds-bits-k : goal.bounds-bits-k
bounds-bits-k c =
    let here : c.loop-k.k < length c.args.drivers.now = c.loop-k-test.true in
    let long = c.loop-k.invariant.long in
    omega (arith, here, long)

pub offset_bounds-bits-k : goal.offset_bounds-bits-k
offset_bounds-bits-k c =
    let here : c.loop-k.k < length c.args.drivers.now = c.loop-k-test.true in
    let long = c.loop-k.invariant.long in
    let low : c.loop-k.k < length c.loop-k.bits = omega (arith, here, long) in
    omega arith

pub driven_bits-requires : goal.driven_bits-requires
driven_bits-requires c = c.requires.within.at c.loop-k.k _ (slice_get-get_or c.args.drivers.now c.loop-k.k Reset c.loop-k-test.true)

pub loop-k-init : goal.loop-k-init
loop-k-init c = record {
  long = c.requires.long;
  at = λ k driver e below. absurd (omega (arith, below));
}

pub loop-k-preserved : goal.loop-k-preserved
loop-k-preserved c =
    let stimulus = c.args.stimulus.now in
    bits-more (driver_bits (numbers_of stimulus) stimulus.lines c.args.sample) c.args.drivers.now c.loop-k.k
    c.loop-k.bits c.driven_bits.result c.loop-k-test.true c.loop-k.invariant c.driven_bits.ensures

pub loop-k-smaller : goal.loop-k-smaller
loop-k-smaller c = let here : c.loop-k.k < length c.args.drivers.now = c.loop-k-test.true in omega (arith, here)

pub returns : goal.returns
returns c =
    let stimulus = c.args.stimulus.now in
    let past = c.loop-k-test.false in
    let within = c.loop-k.auto.k-end in
    let all : c.loop-k.k ≡ length c.args.drivers.now = omega (arith, past, within) in
    subst (λ (n : ℕ). AreBits (driver_bits (numbers_of stimulus) stimulus.lines c.args.sample) c.args.drivers.now n c.loop-k.bits) all c.loop-k.invariant
