use Rattle.std.proofs.Common.{ap, sym, FitsSigned}
use Rattle.std.specs.Int.{w128}
use Rattle.std.proofs.lemmas.Int.{to_z-of_z}
use Rattle.dg_model.specs.Attributes.{attributes_of}
use Rattle.dg_tables.specs.State.{kept_count}
use Rattle.dg_sim.proofs.LookBack.{slow_made, slow_moves}
use Rattle.dg_sim.proofs.Turns.{rate_reads}
use Rattle.dg_sim.proofs.ListEntries.{rate_entry}
use Rattle.dg_sim.proofs.memories.transition_rule.Goals as goal

pub own_stored-first-requires-clause-there : goal.own_stored-first-requires-clause-there
own_stored-first-requires-clause-there c = c.requires.turn.shown.block_is

pub remember-requires-clause-moves : goal.remember-requires-clause-moves
remember-requires-clause-moves c =
    let diagram = c.args.turn.checked.now.diagram in
    slow_moves diagram (attributes_of diagram) c.args.program.now c.args.program.now c.args.turn.place
    c.args.turn.block.now c.requires.turn.shown.block_is c.args.program.now.places c.args.slow c.requires.kind.0
    c.args.initial.now c.requires.kind.1 c.requires.slow

pub returns : goal.returns
returns c =
    let diagram = c.args.turn.checked.now.diagram in
    let fits : FitsSigned w128 c.own_stored-first.result = record { sfits = c.own_stored-first.type_inv } in
    rw (to_z-of_z w128 c.own_stored-first.result fits)
    (slow_made diagram (attributes_of diagram) c.args.program.now c.remember.new.program c.args.turn.place
    c.args.turn.block.now c.requires.turn.shown.block_is c.kept_moves.ensures.read c.args.turn.cell
    c.in_ok-memory.memory c.args.slow c.requires.kind.0 c.args.initial.now c.own_stored-first.result
    c.requires.kind.1 c.requires.slow c.requires.slower c.own_stored-first.ensures c.in_ok-memory.ensures)

pub remember-requires-clause-read : goal.remember-requires-clause-read
remember-requires-clause-read c = rate_reads c.args.turn.checked.now c.args.turn.starts.now
    c.args.program.now.places c.args.turn.cell c.args.turn.place c.args.turn.block.now c.requires.turn
    c.requires.turn.rules.checked c.requires.kind.0 c.args.initial.now c.requires.kind.1

pub own_stored-first-requires-clause-entry : goal.own_stored-first-requires-clause-entry
own_stored-first-requires-clause-entry c =
    rate_entry c.args.turn.checked.now.diagram c.requires.turn.rules.checked c.args.turn.place.block
    c.args.turn.place.port c.args.turn.place.element c.args.turn.block.now c.requires.turn.shown
    c.requires.kind.0 c.args.initial.now c.requires.kind.1

pub remember-requires-clause-turn : goal.remember-requires-clause-turn
remember-requires-clause-turn c = c.requires.turn

pub remember-requires-clause-room : goal.remember-requires-clause-room
remember-requires-clause-room c = sym (ap kept_count c.requires.kind.1)
