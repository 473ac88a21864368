use Rattle.std.proofs.Common.{◌∙◌, length, ap, refl}
use Rattle.dg_model.specs.Attributes.{attributes_of}
use Rattle.dg_sim.specs.declared.program.Memory.{Memory}
use Rattle.dg_sim.proofs.LookBack.{remembered}
use Rattle.dg_sim.proofs.memories.remember.Goals as goal

pub returns : goal.returns
returns c =
    let diagram = c.args.turn.checked.now.diagram in
    let old = c.args.program.now in
    let place = c.args.turn.place in
    let memory : Memory = record { place = place; from = c.offered_entry-from.result; period = c.args.period; control = c.args.control; reset = c.args.reset; room = c.args.room } in
    remembered diagram (attributes_of diagram) old
    (record {
      places = old.places;
      cells = old.cells;
      args = old.args;
      types = old.types;
      signs =
          old.signs;
      memories = c.push.new.self;
      outputs = old.outputs;
    }) place c.args.turn.block.now
    c.requires.turn.shown.block_is
    memory refl c.requires.room c.requires.some c.requires.moves c.offered_entry-from.ensures.reads refl refl refl
    refl refl c.in_ok-push.ensures.appended c.in-Ok.number (c.in-Ok.ensures.1 ∙ ap length c.as_slice.ensures)
