use Rattle.std.proofs.Common.{◌∙◌, length, ap, refl}
use Rattle.dg_model.specs.Attributes.{attributes_of}
use Rattle.dg_model.specs.declared.kind.Kind.TheVariants.{EnableTest}
use Rattle.dg_sim.proofs.Turns.{turn_now}
use Rattle.dg_sim.proofs.EnableTest.{above_made}
use Rattle.dg_sim.proofs.enabling.above.Goals as goal

pub returns : goal.returns
returns c =
    let diagram = c.args.turn.checked.now.diagram in
    let read = c.in_ok-put_elements.ensures in
    above_made diagram (attributes_of diagram) c.args.program.now c.args.turn.cell c.args.turn.place
    c.args.turn.block.now c.requires.turn.shown.block_is c.requires.kind c.in-Ok.first
    c.width_of_input-width.result read.0 c.put_elements.new.args c.put_elements.new.types read.4
    (c.in-Ok.ensures.1 ∙ ap length c.as_slice.ensures) c.width_of_input-width.ensures read.1 read.2 read.3 read.5 read.6

pub put_elements-requires-clause-offers : goal.put_elements-requires-clause-offers
put_elements-requires-clause-offers c = record {
  finds = c.requires.turn.finds;
  now = turn_now c.args.turn.checked.now c.args.turn.starts.now c.args.program.now.places c.args.turn.cell c.args.turn.place c.args.turn.block.now c.requires.turn EnableTest c.requires.kind refl;
}
