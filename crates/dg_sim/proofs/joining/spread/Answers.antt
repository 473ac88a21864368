use Rattle.std.proofs.Common.{◌≡◌, ◌+◌, ◌-◌, ℕ, map, sum, inl, inr, ap, sym, ◌∙◌, subst, refl, arith}
use Rattle.math_list.specs.Numbers.{numbers_from}
use Rattle.dg_model.specs.Attributes.{attributes_of}
use Rattle.dg_model.specs.Wires.{width_into}
use Rattle.dg_model.specs.declared.kind.Kind.TheVariants.{Mux, Demux}
use Rattle.dg_tables.specs.Finding.{IsRead}
use Rattle.dg_sim.proofs.MuxDemux.{mux_hands, demux_hands}
use Rattle.dg_sim.proofs.MuxElements.{mux_below, part_read, small, demux_to, demux_few, demux_below, demux_read}
use Rattle.dg_sim.proofs.Turns.{turn_now}
use Rattle.dg_sim.proofs.joining.spread.Goals as goal

pub part_into-part-requires : goal.part_into-part-requires
part_into-part-requires c =
    let diagram = c.args.turn.checked.now.diagram in
    record {
      into = c.requires.cursors.into;
      lines = c.requires.turn.finds.lines;
      element = mux_below diagram c.requires.turn.rules.checked c.args.turn.place.block c.args.turn.block.now
          c.args.turn.place.port c.args.turn.place.element c.requires.turn.shown c.in-Mux.sizes c.in-Mux.is;
    }

pub hand_on-requires : goal.hand_on-requires
hand_on-requires c =
    let diagram = c.args.turn.checked.now.diagram in
    let part = c.part_into-part.ensures in
    record {
      hands = mux_hands diagram (attributes_of diagram) c.args.turn.place c.args.turn.block.now
          c.requires.turn.shown.block_is c.in-Mux.sizes part.0 c.part_into-part.result.port
          c.part_into-part.result.element c.in-Mux.is part.1 part.2;
      finds = c.requires.turn.finds;
      now = turn_now c.args.turn.checked.now c.args.turn.starts.now c.args.program.now.places c.args.turn.cell
          c.args.turn.place c.args.turn.block.now c.requires.turn (Mux c.in-Mux.sizes) c.in-Mux.is refl;
      read = subst (λ (port : ℕ). IsRead diagram (attributes_of diagram) c.args.turn.place.block port c.part_into-part.result.element) (sym part.1)
          (part_read diagram c.requires.turn.rules.checked c.args.turn.place.block c.args.turn.block.now.inputs c.args.turn.place.element part.0 c.part_into-part.result.element part.2);
    }

pub returns-in-Mux-clause-cursors : goal.returns-in-Mux-clause-cursors
returns-in-Mux-clause-cursors c =
    let diagram = c.args.turn.checked.now.diagram in
    let part = c.part_into-part.ensures in
    let f = width_into diagram (attributes_of diagram) c.args.turn.place.block in
    let port = part.1 in
    let signal : part.0 ≡ c.part_into-part.result.port - 1 = omega (arith, port) in
    record { into = part.3 ∙ ap (λ (n : ℕ). sum (map f (numbers_from 1 n))) signal; out = c.requires.cursors.out }

pub width_before-before-requires : goal.width_before-before-requires
width_before-before-requires c =
    let diagram = c.args.turn.checked.now.diagram in
    let is = c.requires.turn.rules.checked in
    let to = demux_to diagram is c.args.turn.place.block c.args.turn.block.now c.args.turn.place.port c.args.turn.place.element c.requires.turn.shown c.in-Demux.sizes c.in-Demux.is in
    let few = demux_few diagram is c.args.turn.place.block c.args.turn.block.now c.args.turn.place.port c.args.turn.place.element c.requires.turn.shown c.in-Demux.sizes c.in-Demux.is in
    record { out = c.requires.cursors.out; block = (c.args.turn.block.now, c.requires.turn.shown.block_is, to, few); from = c.requires.turn.shown.port_from }

pub hand_on-requires-in-Demux : goal.hand_on-requires-in-Demux
hand_on-requires-in-Demux c =
    let diagram = c.args.turn.checked.now.diagram in
    let before : ℕ = c.width_before-before.result in
    let at : before + c.args.turn.place.element
    ≡ sum (map ((attributes_of diagram).width_at c.args.turn.place.block)
    (numbers_from 1 (c.args.turn.place.port - 1))) + c.args.turn.place.element =
    ap (λ (n : ℕ). n + c.args.turn.place.element) c.width_before-before.ensures in
    record {
      hands = demux_hands diagram (attributes_of diagram) c.args.turn.place c.args.turn.block.now c.requires.turn.shown.block_is c.in-Demux.sizes (before + c.args.turn.place.element) c.in-Demux.is at;
      finds = c.requires.turn.finds;
      now = turn_now c.args.turn.checked.now c.args.turn.starts.now c.args.program.now.places c.args.turn.cell
          c.args.turn.place c.args.turn.block.now c.requires.turn (Demux c.in-Demux.sizes) c.in-Demux.is refl;
      read = demux_read diagram c.requires.turn.rules.checked c.args.turn.place.block c.args.turn.block.now
          c.args.turn.place.port c.args.turn.place.element c.requires.turn.shown c.in-Demux.sizes
          (before + c.args.turn.place.element) c.in-Demux.is at;
    }

pub overflow_add-before : goal.overflow_add-before
overflow_add-before c =
    let diagram = c.args.turn.checked.now.diagram in
    let is = c.requires.turn.rules.checked in
    let below = demux_below diagram is c.args.turn.place.block c.args.turn.block.now c.args.turn.place.port c.args.turn.place.element c.requires.turn.shown c.in-Demux.sizes c.in-Demux.is in
    record { fits = omega (arith, c.width_before-before.ensures, below, small diagram is c.args.turn.place.block 1) }

pub unreachable-requires : goal.unreachable-requires
unreachable-requires c =
    elim c.requires.kind [
      | inl has ↦ c.in_default.not-Mux has.0 has.1
      | inr has ↦ c.in_default.not-Demux has.0 has.1
    ]
