use Rattle.std.proofs.Common.{rules, ◌≡◌, ◌-◌, ◌*◌, ◌∷◌, [], ◌++◌, ℕ, List, slice_get, ap, sym, ◌∙◌, subst, arith, refl, FitsSigned, length-append}
use Rattle.std.specs.Int.{w128}
use Rattle.std.proofs.lemmas.Int.{to_z-of_z}
use Rattle.hw_net.specs.declared.netlist.Frame.{Frame}
use Rattle.math_list.proofs.Places.{last_at}
use Rattle.hw_lines.specs.Register.{CanHold}
use Rattle.hw_lines.specs.inner.Parts.{IsTapAt}
use Rattle.hw_lines.proofs.Steps.{tap-can-hold, tap-behind, tap-named, taps-first, taps-more, taps-stay, grows-self, grows-trans}
use Rattle.hw_lines.proofs.source_taps.taps_of.Goals as goal

pub loop-step-init : goal.loop-step-init
loop-step-init c =
    let one : c.push.new.self ≡ c.args.source.from ∷ [] = c.in_ok-push.ensures.appended ∙ ap (λ (xs : List ℕ). xs ++ c.args.source.from ∷ []) c.new-taps.ensures in
    rw one (record {
      size = refl;
      are = taps-first c.tap_steps.ensures c.args.net.now c.args.source c.requires.cycles c.requires.source;
      last_is = refl;
      grown = grows-self c.args.net.now c.args.source.from ⊥ (λ (other : Frame). other ≡ c.args.source.frame);
      few = omega arith;
    })

pub register_at-requires-clause-from : goal.register_at-requires-clause-from
register_at-requires-clause-from c =
    let f : FitsSigned w128 c.args.source.first = search rules in
    let first = to_z-of_z w128 c.args.source.first f in
    let inv = c.loop-step.invariant in
    let can : CanHold c.loop-step.net c.loop-step.last c.args.source.first =
    tap-can-hold c.args.net.now c.loop-step.net c.args.source c.loop-step.step c.loop-step.last c.requires.source (inv.are.each c.loop-step.step c.loop-step.last inv.last_is) in
    rw first can

pub loop-step-preserved : goal.loop-step-preserved
loop-step-preserved c =
    let f : FitsSigned w128 c.args.source.first = search rules in
    let first = to_z-of_z w128 c.args.source.first f in
    let inv = c.loop-step.invariant in
    let now = c.loop-step.net in
    let new = c.register_at.new.net in
    let tap = inv.are.each c.loop-step.step c.loop-step.last inv.last_is in
    let held = rw first at c.in_ok-last.ensures.is in
    let grown = c.in_ok-last.ensures.grown in
    let slot : c.args.source.frame.period * c.cycles.result - 1 ≡ c.args.source.frame.period * c.args.net.now.cycles - 1 = ap (λ (x : ℕ). c.args.source.frame.period * x - 1) c.cycles.ensures in
    let next = tap-behind c.tap_steps.ensures c.args.net.now now new c.args.source c.loop-step.step c.loop-step.last
    (c.args.source.frame.period * c.cycles.result - 1) c.in_ok-last.last c.requires.cycles c.requires.source
    inv.grown.appends.extends grown.appends.extends slot tap held in
    rw c.in_ok-push-2.ensures.appended (record {
      size = length-append c.loop-step.taps (c.in_ok-last.last ∷ []) ∙ omega (arith, inv.size);
      are = taps-more c.args.net.now new c.args.source c.loop-step.taps c.in_ok-last.last
          (taps-stay c.args.net.now now new c.args.source c.loop-step.taps grown.appends.extends inv.are)
          (subst (λ (i : ℕ). IsTapAt c.args.net.now new c.args.source i c.in_ok-last.last) (sym inv.size) next);
      last_is = ap (slice_get (c.loop-step.taps ++ c.in_ok-last.last ∷ [])) (sym inv.size) ∙ last_at c.loop-step.taps c.in_ok-last.last;
      grown = grows-trans c.args.net.now now new c.args.source.from c.loop-step.last ⊥ ⊥
          (λ (other : Frame). other ≡ c.args.source.frame) (λ (other : Frame). other ≡ c.args.source.frame)
          (λ none. none) (λ frame same. same)
          (tap-named c.args.net.now now c.args.source c.loop-step.step c.loop-step.last tap) inv.grown grown;
      few = omega (arith, c.in_ok-last.ensures.few, inv.few);
    })

pub register_at-requires-clause-cycles : goal.register_at-requires-clause-cycles
register_at-requires-clause-cycles c =
    let cycles : c.loop-step.net.cycles ≡ c.args.net.now.cycles = c.loop-step.invariant.grown.appends.extends.cycles in
    omega (arith, cycles, c.requires.cycles)

pub register_at-requires-clause-period : goal.register_at-requires-clause-period
register_at-requires-clause-period c = c.requires.source.some

pub returns-clause-size : goal.returns-clause-size
returns-clause-size c = omega (arith, c.loop-step.invariant.size, c.loop-step-test.false, c.loop-step.auto.step-end)

pub returns-clause-taps : goal.returns-clause-taps
returns-clause-taps c = c.loop-step.invariant.are

pub returns-clause-grown : goal.returns-clause-grown
returns-clause-grown c = c.loop-step.invariant.grown

pub returns-clause-few : goal.returns-clause-few
returns-clause-few c = omega (arith, c.loop-step.invariant.few, c.loop-step-test.false, c.loop-step.auto.step-end)

pub overflow_mul-slot : goal.overflow_mul-slot
overflow_mul-slot c = record { fits = rw c.cycles.ensures c.requires.room }
