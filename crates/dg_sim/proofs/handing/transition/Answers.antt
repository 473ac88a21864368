use Rattle.std.proofs.Common.{◌≡◌, ◌∙◌, sym, ap, false, true, Bool, not, refl, arith}
use Rattle.std.proofs.lemmas.Option.{slice_get_within}
use Rattle.dg_model.specs.Attributes.{attributes_of}
use Rattle.dg_model.specs.Hits.{is_slow_to_fast}
use Rattle.dg_model.specs.Instant.{reads_now}
use Rattle.dg_model.specs.Wires.{period_into}
use Rattle.dg_model.specs.declared.kind.Kind.TheVariants.{RateTransition}
use Rattle.dg_sim.proofs.Entries.{ports_are}
use Rattle.dg_sim.proofs.LookBack.{fast_hands}
use Rattle.dg_sim.proofs.Turns.{turn_now, turn_read}
use Rattle.dg_sim.proofs.handing.transition.Goals as goal

pub hand_on-requires : goal.hand_on-requires
hand_on-requires c =
    let checked = c.args.turn.checked.now in
    let diagram = checked.diagram in
    let place = c.args.turn.place in
    let b = c.args.turn.block.now in
    let slow = c.period_of_input-slow.result in
    let kind = RateTransition c.requires.kind.0 c.args.initial.now in
    let fast : is_slow_to_fast slow c.period-own.result ≡ false = sym c.is_slow_to_fast.ensures ∙ c.if-is_slow_to_fast.false in
    let own : is_slow_to_fast slow ((attributes_of diagram).period_at place.block) ≡ false = ap (is_slow_to_fast slow) (sym c.period-own.ensures) ∙ fast in
    let driver : is_slow_to_fast (period_into diagram (attributes_of diagram) place.block 1) ((attributes_of diagram).period_at place.block) ≡ false =
    ap (λ p. is_slow_to_fast p ((attributes_of diagram).period_at place.block)) (sym c.period_of_input-slow.ensures) ∙ own in
    let now : reads_now diagram (attributes_of diagram) place.block kind ≡ true = ap (λ (slower : Bool). not slower) driver in
    let ports = (ports_are diagram c.requires.turn.rules.checked.wired place.block b c.requires.turn.shown.block_is kind c.requires.kind.1).0 in
    record {
      hands = fast_hands diagram (attributes_of diagram) c.args.program.now c.args.program.now place b
          c.requires.turn.shown.block_is slow c.requires.kind.0 c.args.initial.now c.requires.kind.1
          c.period_of_input-slow.ensures own;
      finds = c.requires.turn.finds;
      now = turn_now checked c.args.turn.starts.now c.args.program.now.places c.args.turn.cell place b c.requires.turn kind c.requires.kind.1 now;
      read = turn_read checked c.args.turn.starts.now c.args.program.now.places c.args.turn.cell place b
          c.requires.turn kind c.requires.kind.1 c.requires.turn.rules.checked refl 1 (omega arith)
          (omega (arith, ports));
    }

pub period-own-requires : goal.period-own-requires
period-own-requires c = slice_get_within c.args.turn.checked.now.diagram.blocks c.args.turn.place.block c.args.turn.block.now c.requires.turn.shown.block_is

pub transition_rule-requires-clause-slower : goal.transition_rule-requires-clause-slower
transition_rule-requires-clause-slower c = ap (is_slow_to_fast c.period_of_input-slow.result) (sym c.period-own.ensures) ∙ (sym c.is_slow_to_fast.ensures ∙ c.if-is_slow_to_fast.true)

pub returns-then-is_slow_to_fast : goal.returns-then-is_slow_to_fast
returns-then-is_slow_to_fast c = c.transition_rule.ensures
