use Rattle.std.proofs.Common.{rules, ◌≡◌, ◌<◌, ◌≤◌, ◌++◌, ◌∷◌, [], ℕ, List, length, slice_index_or, slice_get, Some, ◌∙◌, arith}
use Rattle.std.proofs.lemmas.Option.{slice_get-get_or}
use Rattle.hw_net.specs.Growing.{with_net}
use Rattle.hw_lower.specs.declared.plan.Step.{Step}
use Rattle.hw_lower.specs.inner.PlanNets.{net_of}
use Rattle.hw_lower.proofs.PlanNets.{none-step, numbers-begun, nets-begun, numbers-more, nets-more, net-same}
use Rattle.hw_lower.proofs.lowering.put_nets.Goals as goal

pub loop-place-init : goal.loop-place-init
loop-place-init c =
    let items : c.extend_from_slice.new.self.items ≡ c.args.args.now = search rules in
    record {
      numbers = rw items (numbers-begun c.args.args.now (length c.args.net.now.nets));
      nets = nets-begun c.args.net.now c.args.args.now c.args.steps.now;
    }

pub net_of-requires : goal.net_of-requires
net_of-requires c =
    let inside : c.loop-place.place < length c.args.steps.now = omega (arith, c.loop-place-test.true) in
    let past : length c.args.args.now ≤ c.loop-place.place = omega arith in
    let there = slice_get-get_or c.args.steps.now c.loop-place.place none-step inside in
    rw (c.as_slice.ensures.value, c.loop-place.invariant.numbers.size) (c.requires.sound c.loop-place.place (slice_index_or c.args.steps.now c.loop-place.place none-step) past there).before

pub loop-place-preserved : goal.loop-place-preserved
loop-place-preserved c =
    let args : List ℕ = c.args.args.now in
    let steps : List Step = c.args.steps.now in
    let base : ℕ = length c.args.net.now.nets in
    let place : ℕ = c.loop-place.place in
    let inv = c.loop-place.invariant in
    let step : Step = slice_index_or c.args.steps.now c.loop-place.place none-step in
    let inside : place < length steps = omega (arith, c.loop-place-test.true) in
    let past : length args ≤ place = omega arith in
    let there : slice_get steps place ≡ Some step = slice_get-get_or c.args.steps.now c.loop-place.place none-step inside in
    let earlier = (c.requires.sound place step past there).before in
    let made : c.in_ok-one.one ≡ net_of args base step = (rw c.as_slice.ensures.value at c.in_ok-one.ensures) ∙ net-same args base place c.loop-place.numbers.items step inv.numbers earlier in
    let grown : c.add.new.self ≡ with_net c.loop-place.net (net_of args base step) = rw made at c.in_ok-number.ensures.grown in
    let items : c.push.new.self.items ≡ c.loop-place.numbers.items ++ c.in_ok-number.number ∷ [] = c.in_ok-push.ensures.items in
    rw items (record {
      numbers = numbers-more args base place c.in_ok-number.number c.loop-place.numbers.items inv.numbers past (omega (arith, c.in_ok-number.ensures.number, inv.nets.size));
      nets = nets-more c.args.net.now c.loop-place.net c.add.new.self steps args place step c.requires past there inv.nets grown;
    })

pub returns-clause-numbers : goal.returns-clause-numbers
returns-clause-numbers c =
    let e : c.loop-place.place ≡ length c.args.steps.now = omega (arith, c.loop-place-test.false, c.requires.count) in
    rw e at c.loop-place.invariant.numbers

pub returns-clause-nets : goal.returns-clause-nets
returns-clause-nets c =
    let e : c.loop-place.place ≡ length c.args.steps.now = omega (arith, c.loop-place-test.false, c.requires.count) in
    rw e at c.loop-place.invariant.nets
