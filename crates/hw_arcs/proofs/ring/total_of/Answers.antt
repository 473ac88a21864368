use Rattle.std.proofs.Common.{◌≡◌, ℕ, List, arith, get_or, take, subst}
use Rattle.std.proofs.lemmas.List.{take_all}
use Rattle.std.proofs.lemmas.List.Sums.{sum_by_more}
use Rattle.std.proofs.lemmas.Option.{slice_get-get_or}
use Rattle.hw_arcs.specs.inner.Walk.{gain_into, gains_of, slack_into, slacks_of}
use Rattle.hw_arcs.proofs.ring.total_of.Goals as goal

pub overflow_add-gains : goal.overflow_add-gains
overflow_add-gains c = omega (arith, c.loop-block.invariant.small, c.loop-block-test.true, c.requires.ring.short, c.requires.few, c.from-gains.ensures, c.asked_into-gain.ensures.small)

pub overflow_add-slacks : goal.overflow_add-slacks
overflow_add-slacks c = omega (arith, c.loop-block.invariant.room, c.loop-block-test.true, c.requires.ring.short, c.requires.few, c.from-slacks.ensures, c.asked_into-gain.type_inv.1)

pub overflow_cast-result : goal.overflow_cast-result
overflow_cast-result c = omega (arith, c.loop-block.invariant.small, c.loop-block.auto.block-index-end, c.requires.ring.short, c.requires.few)

pub asked_into-gain-requires : goal.asked_into-gain-requires
asked_into-gain-requires c =
    let block = get_or c.args.ring.now c.loop-block.block-index 0 in
    record {
      known = c.requires.known;
      given = c.requires.given;
      there = c.requires.ring.there c.loop-block.block-index block (slice_get-get_or c.args.ring.now c.loop-block.block-index 0 c.loop-block-test.true);
    }

pub loop-block-preserved : goal.loop-block-preserved
loop-block-preserved c =
    let gains = sum_by_more (gain_into c.args.arcs.now c.args.tight.now) c.args.ring.now c.loop-block.block-index 0 c.loop-block-test.true in
    let slacks = sum_by_more (slack_into c.args.arcs.now c.args.tight.now) c.args.ring.now c.loop-block.block-index 0 c.loop-block-test.true in
    record {
      gains = omega (arith, gains, c.loop-block.invariant.gains, c.from-gains.ensures, c.asked_into-gain.ensures.gain);
      slacks = omega (arith, slacks, c.loop-block.invariant.slacks, c.from-slacks.ensures, c.asked_into-gain.ensures.slack);
      small = omega (arith, c.loop-block.invariant.small, c.from-gains.ensures, c.asked_into-gain.ensures.small);
      room = omega (arith, c.loop-block.invariant.room, c.from-slacks.ensures, c.asked_into-gain.type_inv.1);
    }

pub returns : goal.returns
returns c =
    let ring : List ℕ = c.args.ring.now in
    let all : take c.loop-block.block-index ring ≡ ring = take_all c.loop-block.block-index ring (omega (arith, c.loop-block-test.false)) in
    let gains = subst (λ (blocks : List ℕ). c.loop-block.gains ≡ gains_of c.args.arcs.now c.args.tight.now blocks) all c.loop-block.invariant.gains in
    let slacks = subst (λ (blocks : List ℕ). c.loop-block.slacks ≡ slacks_of c.args.arcs.now c.args.tight.now blocks) all c.loop-block.invariant.slacks in
    omega (arith, gains, slacks, c.requires.ring.gains)
