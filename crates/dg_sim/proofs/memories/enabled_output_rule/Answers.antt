use Rattle.std.proofs.Common.{◌∙◌, ℕ, List, Bool, Option, ap, sym, subst, ◌<◌, FitsSigned, refl, arith}
use Rattle.std.specs.Int.{w128}
use Rattle.std.proofs.lemmas.Int.{to_z-of_z}
use Rattle.std.proofs.lemmas.Bool.{false≢true}
use Rattle.std.proofs.lemmas.Option.{slice_get_within}
use Rattle.dg_model.specs.declared.diagram.Block.{Block}
use Rattle.dg_model.specs.declared.kind.Kind.{Kind}
use Rattle.dg_model.specs.declared.kind.Kind.TheVariants.{EnOut}
use Rattle.dg_model.specs.Library.{row_of}
use Rattle.dg_model.specs.Wired.{MayStand}
use Rattle.math_list.proofs.Places.{held}
use Rattle.dg_model.specs.Attributes.{attributes_of}
use Rattle.dg_tables.specs.declared.entries.Place.{Place}
use Rattle.dg_tables.specs.Entries.{Reads}
use Rattle.dg_tables.specs.State.{kept_count}
use Rattle.dg_sim.specs.inner.ProgramSteps.{IsControlCell}
use Rattle.dg_sim.proofs.Growth.{grows_same}
use Rattle.dg_sim.proofs.Turns.{control_before, output_reads, turn_now}
use Rattle.dg_sim.proofs.LookBack.{gated_moves, reset_rule, held_rule}
use Rattle.dg_sim.proofs.ListEntries.{output_entry_there}
use Rattle.dg_sim.proofs.memories.enabled_output_rule.Goals as goal
use Rattle.dg_sim.proofs.memories.enabled_output_rule.Goals.{After-own_stored-first}

pub own_stored-first-requires-clause-there : goal.own_stored-first-requires-clause-there
own_stored-first-requires-clause-there c = c.requires.turn.shown.block_is

-- the control of the port and what the port reads stand before the entry
control_below : (c : After-own_stored-first) → c.control_cell-cell.result < c.args.turn.cell
control_below c =
    control_before c.args.turn.checked.now c.args.turn.starts.now c.args.program.now.places c.args.turn.cell
    c.args.turn.place c.args.turn.block.now c.requires.turn c.control_cell-cell.result c.in-Some.enable
    c.args.reset c.args.initial.now c.requires.kind c.in-Some.is c.control_cell-cell.ensures

from_below : (c : After-own_stored-first) → c.offered_entry-from.result < c.args.turn.cell
from_below c =
    c.offered_entry-from.ensures.before c.args.turn.cell
    (turn_now c.args.turn.checked.now c.args.turn.starts.now c.args.program.now.places c.args.turn.cell
    c.args.turn.place c.args.turn.block.now c.requires.turn
    (EnOut c.args.reset c.args.initial.now) c.requires.kind refl)

pub returns-then-reset : goal.returns-then-reset
returns-then-reset c =
    let diagram = c.args.turn.checked.now.diagram in
    let fits : FitsSigned w128 c.own_stored-first.result = record { sfits = c.own_stored-first.type_inv } in
    let kind = c.requires.kind ∙ ap (λ (reset : Bool). EnOut reset c.args.initial.now) c.if-reset.true in
    let stored = (goal.at.returns-then-reset c).After-own_stored-first in
    rw (to_z-of_z w128 c.own_stored-first.result fits) (record {
      grows = grows_same c.args.program.now;
      memories = λ are. are;
      made = reset_rule diagram (attributes_of diagram) c.args.program.now c.args.program.now c.args.turn.place
          c.args.turn.block.now c.requires.turn.shown.block_is c.args.turn.cell c.control_cell-cell.result
          c.offered_entry-from.result c.args.initial.now c.own_stored-first.result (control_below stored)
          (from_below stored)
          (c.in-Some.enable, c.in-Some.is, c.control_cell-cell.ensures) c.offered_entry-from.ensures.reads c.own_stored-first.ensures kind;
    })

pub period-period-requires : goal.period-period-requires
period-period-requires c = slice_get_within c.args.turn.checked.now.diagram.blocks c.args.turn.place.block c.args.turn.block.now c.requires.turn.shown.block_is

pub remember-requires-clause-moves : goal.remember-requires-clause-moves
remember-requires-clause-moves c =
    let diagram = c.args.turn.checked.now.diagram in
    gated_moves diagram (attributes_of diagram) c.args.program.now c.args.program.now c.args.turn.place
    c.args.turn.block.now c.requires.turn.shown.block_is c.args.program.now.places c.period-period.result
    c.control_cell-cell.result c.args.reset c.args.initial.now c.requires.kind c.period-period.ensures
    (c.in-Some.enable, c.in-Some.is, c.control_cell-cell.ensures)

pub returns : goal.returns
returns c =
    let diagram = c.args.turn.checked.now.diagram in
    let fits : FitsSigned w128 c.own_stored-first.result = record { sfits = c.own_stored-first.type_inv } in
    let is = c.in_ok-memory.ensures in
    let reads = subst (λ (places : List Place). Reads diagram
    (attributes_of diagram) places c.args.turn.place.block 1 c.args.turn.place.element
    c.offered_entry-from.result) (sym is.grows.places) c.offered_entry-from.ensures.reads in
    let control = subst (λ (places : List Place). IsControlCell places c.args.turn.block.now.enable
    c.control_cell-cell.result) (sym is.grows.places)
    (c.in-Some.enable, c.in-Some.is, c.control_cell-cell.ensures) in
    let kind = c.requires.kind ∙ ap (λ (reset : Bool). EnOut reset c.args.initial.now) c.if-reset.false in
    let stored = (goal.at.returns c).After-own_stored-first in
    rw (to_z-of_z w128 c.own_stored-first.result fits) (record {
      grows = is.grows;
      memories = is.memories;
      made = held_rule diagram (attributes_of diagram) c.args.program.now c.remember.new.program c.args.turn.place
          c.args.turn.block.now c.requires.turn.shown.block_is c.args.turn.cell c.control_cell-cell.result
          c.offered_entry-from.result c.args.initial.now c.own_stored-first.result (control_below stored)
          (from_below stored)
          control reads c.own_stored-first.ensures c.kept_moves.ensures.read c.in_ok-memory.memory kind is;
    })

pub offered_entry-from-requires-clause-read : goal.offered_entry-from-requires-clause-read
offered_entry-from-requires-clause-read c =
    output_reads c.args.turn.checked.now c.args.turn.starts.now c.args.program.now.places c.args.turn.cell
    c.args.turn.place c.args.turn.block.now c.requires.turn c.requires.turn.rules.checked c.args.reset
    c.args.initial.now c.requires.kind

pub remember-requires-clause-read : goal.remember-requires-clause-read
remember-requires-clause-read c = output_reads c.args.turn.checked.now c.args.turn.starts.now
    c.args.program.now.places c.args.turn.cell c.args.turn.place c.args.turn.block.now c.requires.turn
    c.requires.turn.rules.checked c.args.reset c.args.initial.now c.requires.kind

pub own_stored-first-requires-clause-entry : goal.own_stored-first-requires-clause-entry
own_stored-first-requires-clause-entry c =
    output_entry_there c.args.turn.checked.now.diagram c.requires.turn.rules.checked c.args.turn.place.block
    c.args.turn.place.port c.args.turn.place.element c.args.turn.block.now c.requires.turn.shown c.args.reset
    c.args.initial.now c.requires.kind

pub control_cell-cell-requires-clause-turn : goal.control_cell-cell-requires-clause-turn
control_cell-cell-requires-clause-turn c = c.requires.turn

pub control_cell-cell-requires-clause-enable : goal.control_cell-cell-requires-clause-enable
control_cell-cell-requires-clause-enable c = c.in-Some.is

pub offered_entry-from-requires-clause-finds : goal.offered_entry-from-requires-clause-finds
offered_entry-from-requires-clause-finds c = c.requires.turn.finds

pub remember-requires-clause-turn : goal.remember-requires-clause-turn
remember-requires-clause-turn c = c.requires.turn

pub remember-requires-clause-room : goal.remember-requires-clause-room
remember-requires-clause-room c = sym (ap kept_count c.requires.kind)

pub unreachable-requires : goal.unreachable-requires
unreachable-requires c =
    let b = c.args.turn.block.now in
    let may = held (λ (block : Block). MayStand (row_of block.kind).place.stands block.enable)
    c.args.turn.checked.now.diagram.blocks c.args.turn.place.block b c.requires.turn.rules.checked.wired.enables
    c.requires.turn.shown.block_is in
    let inside = subst (λ (kind : Kind). MayStand (row_of kind).place.stands b.enable) c.requires.kind may in
    false≢true (subst (λ (enable : Option ℕ). MayStand (row_of (EnOut c.args.reset c.args.initial.now)).place.stands enable) c.in_default.is inside)

pub remember-requires-clause-some : goal.remember-requires-clause-some
remember-requires-clause-some c = omega arith
