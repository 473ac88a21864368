use Rattle.std.proofs.Common.{◌≡◌, ◌≤◌, ◌∙◌, List, ap, sym, subst, refl, inl, inr, arith}
use Rattle.fx_type.specs.declared.decimal.Decimal.{Decimal}
use Rattle.dg_model.specs.declared.kind.Kind.{Kind}
use Rattle.dg_model.specs.declared.kind.Kind.TheVariants.{Constant, Delay, EnOut, Outport, Pass, RateTransition, Terminator}
use Rattle.dg_model.specs.declared.op.Op.TheVariants.{Pass as OpPass}
use Rattle.dg_model.specs.Attributes.{attributes_of}
use Rattle.dg_model.specs.Equation.{IsOpOf}
use Rattle.dg_model.specs.Wires.{type_into}
use Rattle.dg_model.specs.Solves.{shown_ports}
use Rattle.dg_sim.specs.inner.ProgramSteps.{is_worked}
use Rattle.dg_sim.proofs.ByKind.{ground_always, op_hands}
use Rattle.dg_sim.proofs.Entries.{delay_some, ports_are}
use Rattle.dg_sim.proofs.Growth.{fixed_made}
use Rattle.dg_sim.proofs.Turns.{op_now, op_reads}
use Rattle.dg_sim.proofs.rules.rule_by_kind.Goals as goal

pub hand_on-requires : goal.hand_on-requires
hand_on-requires c =
    let checked = c.args.turn.checked.now in
    let diagram = checked.diagram in
    let attributes = attributes_of diagram in
    let starts = c.args.turn.starts.now in
    let places = c.args.program.now.places in
    let k = c.args.turn.cell in
    let place = c.args.turn.place in
    let b = c.args.turn.block.now in
    let turn = c.requires.turn in
    let is = c.requires.turn.rules.checked in
    let param = attributes.param_at place.block in
    let control = type_into diagram attributes place.block 2 in
    let passes = λ (kind : Kind). IsOpOf kind place.element param control OpPass in
    let own : IsOpOf b.kind place.element param control OpPass × (b.inputs ≡ 1) =
    elim c.in-Outport.is [
      | inl here ↦ (subst passes (sym here.1) refl, (ports_are diagram is.wired place.block b turn.shown.block_is (Outport here.0) here.1).0)
      | inr here ↦ (subst passes (sym here.1) refl, (ports_are diagram is.wired place.block b turn.shown.block_is (Pass here.0) here.1).0)
    ] in
    record {
      hands = op_hands diagram attributes place b turn.shown.block_is own.1 own.0;
      finds = turn.finds;
      now = op_now checked starts places k place b turn param control OpPass own.0;
      read = op_reads checked starts places k place b turn is param control OpPass own.0 1 (omega arith) (omega (arith, own.1));
    }

pub returns-in-Outport : goal.returns-in-Outport
returns-in-Outport c = record { made = c.hand_on.ensures; cursors = c.requires.cursors }

pub spread-requires : goal.spread-requires
spread-requires c = record { kind = c.in-Mux.is; turn = c.requires.turn; cursors = c.requires.cursors }

pub returns-in-Mux : goal.returns-in-Mux
returns-in-Mux c = record { made = c.spread.ensures.made; cursors = c.spread.ensures.cursors }

pub returns-in-Ground : goal.returns-in-Ground
returns-in-Ground c = record {
  made =
      let diagram = c.args.turn.checked.now.diagram in
      fixed_made diagram (attributes_of diagram) c.args.program.now c.args.turn.cell c.args.turn.place _
      (ground_always diagram (attributes_of diagram) c.args.turn.place c.args.turn.block.now
      c.requires.turn.shown.block_is c.in-Ground.is);
  cursors = c.requires.cursors;
}

pub from_row-requires : goal.from_row-requires
from_row-requires c = record { roots = c.requires.roots; turn = c.requires.turn; kind = (c.in-Inport.width, c.in-Inport.is) }

pub returns-in-Inport : goal.returns-in-Inport
returns-in-Inport c = record { made = c.from_row.ensures; cursors = c.requires.cursors }

pub constant-requires : goal.constant-requires
constant-requires c = record { turn = c.requires.turn; kind = c.in-Constant.is ∙ ap (λ (value : List Decimal). Constant value) (sym c.as_slice.ensures) }

pub returns-in-Constant : goal.returns-in-Constant
returns-in-Constant c = record { made = c.constant.ensures; cursors = c.requires.cursors }

pub transition-requires : goal.transition-requires
transition-requires c = record {
  turn = c.requires.turn;
  kind = (c.in-RateTransition.period, c.in-RateTransition.is ∙ ap (λ (initial : List Decimal). RateTransition c.in-RateTransition.period initial) (sym c.as_slice-in-RateTransition.ensures));
}

pub returns-in-RateTransition : goal.returns-in-RateTransition
returns-in-RateTransition c = record { made = c.transition.ensures; cursors = c.requires.cursors }

pub above-requires : goal.above-requires
above-requires c = record { kind = c.in-EnableTest.is; turn = c.requires.turn }

pub returns-in-EnableTest : goal.returns-in-EnableTest
returns-in-EnableTest c = record { made = c.above.ensures; cursors = c.requires.cursors }

pub delay_rule-requires : goal.delay_rule-requires
delay_rule-requires c = record {
  turn = c.requires.turn;
  kind = c.in-Delay.is ∙ ap (λ (initial : List Decimal). Delay c.in-Delay.length initial c.in-Delay.reset) (sym c.as_slice-in-Delay.ensures);
  some = delay_some c.args.turn.checked.now.diagram c.requires.turn.rules.checked.wired c.args.turn.place.block
      c.args.turn.block.now c.requires.turn.shown.block_is c.in-Delay.length _ c.in-Delay.reset c.in-Delay.is;
}

pub returns-in-Delay : goal.returns-in-Delay
returns-in-Delay c = record { made = c.delay_rule.ensures; cursors = c.requires.cursors }

pub enabled_output_rule-requires : goal.enabled_output_rule-requires
enabled_output_rule-requires c = record { turn = c.requires.turn; kind = c.in-EnOut.is ∙ ap (λ (initial : List Decimal). EnOut c.in-EnOut.reset initial) (sym c.as_slice-in-EnOut.ensures) }

pub returns-in-EnOut : goal.returns-in-EnOut
returns-in-EnOut c = record { made = c.enabled_output_rule.ensures; cursors = c.requires.cursors }

pub works-requires : goal.works-requires
works-requires c = record {
  turn = c.requires.turn;
  entries = c.requires.entries;
  paired = c.requires.paired;
  worked =
      elim c.in-Sum.is [
        | inl here ↦ ap is_worked here.2
        | inr more ↦ elim more [
          | inl here ↦ ap is_worked here.2
          | inr more ↦ elim more [
            | inl here ↦ ap is_worked here
            | inr more ↦ elim more [
              | inl here ↦ ap is_worked here.2
              | inr more ↦ elim more [
                | inl here ↦ ap is_worked here.1
                | inr more ↦ elim more [
                  | inl here ↦ ap is_worked here.1
                  | inr more ↦ ap is_worked more.1
                ]
              ]
            ]
          ]
        ]
      ];
}

pub returns-in-Sum : goal.returns-in-Sum
returns-in-Sum c = record { made = c.works.ensures; cursors = c.requires.cursors }

pub unreachable-requires : goal.unreachable-requires
unreachable-requires c =
    let b = c.args.turn.block.now in
    let port = c.args.turn.place.port in
    let shown = c.requires.turn.shown in
    let none : b.outputs ≡ 0 = (ports_are c.args.turn.checked.now.diagram c.requires.turn.rules.checked.wired c.args.turn.place.block b shown.block_is Terminator c.in-Terminator.is).1 in
    let last : port ≤ b.outputs = subst (λ (kind : Kind). port ≤ shown_ports kind b.outputs) c.in-Terminator.is shown.port_to in
    let from = shown.port_from in
    omega (arith, none, last, from)
