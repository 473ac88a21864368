use Rattle.std.proofs.Common.{◌≡◌, ℕ, refl, List, length, ap, sym, subst, ◌∙◌, arith}
use Rattle.dg_model.specs.Attributes.{attributes_of}
use Rattle.dg_tables.specs.declared.entries.Place.{Place}
use Rattle.dg_tables.specs.Finding.{Finds}
use Rattle.dg_sim.specs.inner.ProgramSteps.{IsFilled}
use Rattle.dg_sim.proofs.building.fill.Goals as goal

pub loop-k-init : goal.loop-k-init
loop-k-init c =
    let diagram = c.args.checked.now.diagram in
    record { filled = c.requires.filled; places = refl; cursors = c.new-cursors.ensures diagram (attributes_of diagram) }

pub put_cell-requires-clause-finds : goal.put_cell-requires-clause-finds
put_cell-requires-clause-finds c = subst (λ (places : List Place). Finds c.args.checked.now c.args.starts.now places) (sym c.loop-k.invariant.places) c.requires.finds

pub overflow_cast-count : goal.overflow_cast-count
overflow_cast-count c = let size = ap length c.as_slice.ensures in record { fits = omega (arith, size, c.requires.finds.few) }

pub loop-k-preserved : goal.loop-k-preserved
loop-k-preserved c =
    let put = c.in_ok-put_cell.ensures in
    record { filled = put.filled; places = put.places ∙ c.loop-k.invariant.places; cursors = c.put_cell.ensures.cursors }

pub returns-clause-filled : goal.returns-clause-filled
returns-clause-filled c =
    let diagram = c.args.checked.now.diagram in
    let program = c.loop-k.program in
    let all : c.loop-k.k ≡ length program.places = omega (arith, c.loop-k-test.false, c.loop-k.auto.k-end, ap length c.as_slice.ensures, ap length c.loop-k.invariant.places) in
    subst (λ (n : ℕ). IsFilled diagram (attributes_of diagram) program n) all c.loop-k.invariant.filled

pub returns-clause-places : goal.returns-clause-places
returns-clause-places c = c.loop-k.invariant.places
