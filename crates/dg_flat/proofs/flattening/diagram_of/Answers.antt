use Rattle.std.proofs.lemmas.Result.{err_from_is_err_and}
use Rattle.dg_flat.proofs.Positions.{numbers_within}
use Rattle.dg_flat.proofs.FromSound.{have_parents, have_ends}
use Rattle.dg_flat.proofs.Law.{flat_of}
use Rattle.dg_flat.proofs.flattening.diagram_of.Goals as goal

pub flat_blocks-requires-clause-parents : goal.flat_blocks-requires-clause-parents
flat_blocks-requires-clause-parents c = rw c.as_slice-blocks.ensures (have_parents c.args.nested.now c.requires.sound)

pub flat_edges-requires-clause-numbers : goal.flat_edges-requires-clause-numbers
flat_edges-requires-clause-numbers c = rw c.as_slice-blocks.ensures (numbers_within c.args.nested.now c.in_ok-check.ensures.kept.wiring)

pub flat_edges-requires-clause-ends : goal.flat_edges-requires-clause-ends
flat_edges-requires-clause-ends c = rw (c.as_slice-blocks.ensures, c.as_slice-lines.ensures) (have_ends c.args.nested.now c.requires.sound)

pub returns-clause-flat : goal.returns-clause-flat
returns-clause-flat c =
    flat_of c.args.nested.now c.as_slice-blocks.result.now c.as_slice-lines.result.now c.in_ok-blocks.blocks
    c.in_ok-edges.edges c.as_slice-blocks.ensures c.as_slice-lines.ensures c.in_ok-blocks.ensures
    c.in_ok-edges.ensures.same c.in_ok-edges.ensures.ordered

pub returns-clause-kept : goal.returns-clause-kept
returns-clause-kept c = c.in_ok-check.ensures.kept

pub returns-in_err-check-clause-refused : goal.returns-in_err-check-clause-refused
returns-in_err-check-clause-refused c =
    let p = err_from_is_err_and c.from_residual.result c.from_residual.ensures.1 in
    rw (p.1, p.2) c.in_err-check.ensures.refused

-- want of memory breaks no rule
pub returns-in_err-places-clause-refused : goal.returns-in_err-places-clause-refused
returns-in_err-places-clause-refused c = let p = err_from_is_err_and c.from_residual-in_err-places.result c.from_residual-in_err-places.ensures.1 in rw (p.1, p.2) tt

pub returns-in_err-edges-clause-refused : goal.returns-in_err-edges-clause-refused
returns-in_err-edges-clause-refused c = let p = err_from_is_err_and c.from_residual-in_err-edges.result c.from_residual-in_err-edges.ensures.1 in rw (p.1, p.2) tt

pub returns-in_err-blocks-clause-refused : goal.returns-in_err-blocks-clause-refused
returns-in_err-blocks-clause-refused c = let p = err_from_is_err_and c.from_residual-in_err-blocks.result c.from_residual-in_err-blocks.ensures.1 in rw (p.1, p.2) tt
