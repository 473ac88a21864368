use Rattle.std.proofs.Common.{◌∙◌, ◌≤◌, Bool, List, ap, sym, subst, refl, length, arith}
use Rattle.std.proofs.lemmas.Option.{slice_get_within}
use Rattle.dg_model.specs.Attributes.{attributes_of}
use Rattle.dg_sim.proofs.ByKind.{op_elementwise}
use Rattle.dg_sim.proofs.Turns.{op_inputs, op_now, op_reads, op_signs}
use Rattle.dg_sim.proofs.Operations.{works_made}
use Rattle.dg_sim.proofs.working.works.Goals as goal

pub returns : goal.returns
returns c =
    let diagram = c.args.turn.checked.now.diagram in
    let attributes = attributes_of diagram in
    let place = c.args.turn.place in
    let b = c.args.turn.block.now in
    let read = c.in_ok-put_inputs.ensures in
    let prepared = c.operations_prepare.ensures.operations diagram c.args.turn.checked.now.order place.block b
    place.element c.op_of-op.result c.requires.turn.rules c.requires.turn.shown.block_is c.op_of-op.ensures in
    let first = c.in-Ok.ensures.1 ∙ ap length c.as_slice.ensures in
    let few = op_inputs c.args.turn.checked.now c.args.turn.starts.now c.args.program.now.places c.args.turn.cell
    place b c.requires.turn c.requires.turn.rules.checked _ _ c.op_of-op.result c.op_of-op.ensures in
    works_made diagram attributes c.args.program.now c.args.turn.cell place b c.op_of-op.result c.in-Ok.first
    c.in-Ok-try_from.first_sign (length c.signs-negative.result.now) c.result.result read.0
    c.put_inputs.new.args c.put_inputs.new.types c.signs-negative.result.now c.put_signs.new.signs
    (op_elementwise diagram attributes place b c.requires.turn.shown.block_is c.op_of-op.result c.op_of-op.ensures)
    c.requires.entries c.op_of-op.ensures prepared few (c.result.ensures 1) first
    (first ∙ sym c.requires.paired)
    (c.in-Ok-try_from.ensures.1 ∙ ap length c.as_slice-2.ensures) refl c.signs-negative.ensures read.1 read.2 read.3 read.4 c.in_ok-put_signs.ensures

pub put_inputs-requires-clause-offers : goal.put_inputs-requires-clause-offers
put_inputs-requires-clause-offers c = record {
  finds = c.requires.turn.finds;
  now = op_now c.args.turn.checked.now c.args.turn.starts.now c.args.program.now.places c.args.turn.cell
      c.args.turn.place c.args.turn.block.now c.requires.turn _ _ c.op_of-op.result c.op_of-op.ensures;
}

pub put_inputs-requires-clause-read : goal.put_inputs-requires-clause-read
put_inputs-requires-clause-read c =
    op_reads c.args.turn.checked.now c.args.turn.starts.now c.args.program.now.places c.args.turn.cell
    c.args.turn.place c.args.turn.block.now c.requires.turn c.requires.turn.rules.checked _ _ c.op_of-op.result
    c.op_of-op.ensures

pub overflow_cast-signs : goal.overflow_cast-signs
overflow_cast-signs c =
    let few = op_signs c.args.turn.checked.now c.args.turn.starts.now c.args.program.now.places c.args.turn.cell
    c.args.turn.place c.args.turn.block.now c.requires.turn c.requires.turn.rules.checked in
    let many : length c.signs-negative.result.now ≤ 32 = subst (λ (signs : List Bool). length signs ≤ 32) (sym c.signs-negative.ensures) few in
    record { fits = omega (arith, many) }

pub result-requires : goal.result-requires
result-requires c = slice_get_within c.args.turn.checked.now.diagram.blocks c.args.turn.place.block c.args.turn.block.now c.requires.turn.shown.block_is

pub op_of-op-requires : goal.op_of-op-requires
op_of-op-requires c = record {
  rules = c.requires.turn.rules;
  shown = c.requires.turn.shown;
  lines =
      c.requires.turn.finds.lines;
  worked = c.requires.worked;
  types = c.operations_prepare.ensures.types;
}
