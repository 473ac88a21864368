use Rattle.std.proofs.Common.{◌≡◌, ◌<◌, ◌≤◌, ◌*◌, ◌+◌, ℕ, ℤ, List, length, take, drop, sym, ap, subst, ◌∙◌, arith}
use Rattle.std.specs.Vec.{with_items}
use Rattle.std.proofs.lemmas.List.{length-map, with_items_is}
use Rattle.fx_tables.specs.declared.table.Rows.{Rows}
use Rattle.dg_model.specs.Attributes.{attributes_of}
use Rattle.dg_model.specs.RootElements.{root_outputs}
use Rattle.dg_sim.specs.Sim.{IsAt, IsStepped}
use Rattle.dg_response.specs.declared.responding.Responding.{Responding}
use Rattle.dg_response.specs.Responding.{IsBefore, IsRowAt, row_of}
use Rattle.dg_response.specs.Response.{column_of, stimulus_of}
use Rattle.dg_response.proofs.SampleSteps.{is-at, moved-on, part-is, stimulus-is}
use Rattle.dg_response.proofs.Stimuli.{row-below}
use Rattle.dg_response.proofs.responding.Responding.step.Goals as goal
use Rattle.dg_response.proofs.responding.Responding.step.Goals.{After-step}

-- the numbers of the sample stand among those of the rows
row-within : (rows : Rows) (numbers : List ℤ) (t : ℕ) → numbers ≡ rows.cells → t < rows.lines → t * rows.columns + rows.columns ≤ length numbers
row-within rows numbers t same below =
    let size = ap (λ (xs : List ℤ). length xs) same in
    let inside = row-below rows.lines rows.columns t (length rows.cells) below rows.full in
    omega (arith, size, inside)

pub overflow_mul-first : goal.overflow_mul-first
overflow_mul-first c =
    let within = row-within c.args.rows.now c.as_slice-numbers.result.now c.args.sample c.as_slice-numbers.ensures c.requires.within in
    omega arith

pub overflow_add-row : goal.overflow_add-row
overflow_add-row c =
    let within = row-within c.args.rows.now c.as_slice-numbers.result.now c.args.sample c.as_slice-numbers.ensures c.requires.within in
    omega arith

pub slice_bounds-row-count : goal.slice_bounds-row-count
slice_bounds-row-count c = omega arith

pub slice_bounds-row-start : goal.slice_bounds-row-start
slice_bounds-row-start c = omega arith

pub slice_bounds-row-end : goal.slice_bounds-row-end
slice_bounds-row-end c = row-within c.args.rows.now c.as_slice-numbers.result.now c.args.sample c.as_slice-numbers.ensures c.requires.within

pub offset_bounds-numbers-first : goal.offset_bounds-numbers-first
offset_bounds-numbers-first c =
    let within = row-within c.args.rows.now c.as_slice-numbers.result.now c.args.sample c.as_slice-numbers.ensures c.requires.within in
    omega arith

pub step-requires-clause-sim : goal.step-requires-clause-sim
step-requires-clause-sim c = c.requires.before.sim_of

pub step-requires-clause-room : goal.step-requires-clause-room
step-requires-clause-room c =
    let samples = c.requires.before.samples in
    let few = c.requires.before.few in
    let below = c.requires.within in
    omega (arith, samples, few, below)

pub step-requires-clause-out : goal.step-requires-clause-out
step-requires-clause-out c =
    let diagram = c.args.checked.now.diagram in
    ap length c.as_mut_slice.ensures.value ∙ c.requires.before.wide ∙ length-map (root_outputs diagram (attributes_of diagram)) column_of

pub step-requires-clause-at : goal.step-requires-clause-at
step-requires-clause-at c =
    let checked = c.args.checked.now in
    let rows = c.args.rows.now in
    let is = c.keeps_rules.ensures.checked in
    let stood = c.requires.before in
    let made = c.columns_are_a_stimulus.ensures.made in
    let given = c.some_table_solves.ensures checked.diagram checked.order (stimulus_of checked.diagram rows) rows.lines (record { checked = is; ordered = c.keeps_rules.ensures.ordered })
    (stimulus-is checked.diagram rows is stood.columns stood.fits made) in (
      stimulus_of checked.diagram rows,
      rows.lines,
      given.0,
      subst (λ (row : List ℤ). IsAt checked c.args.self.now.sim row (stimulus_of checked.diagram rows) rows.lines given.0)
          (sym (part-is (c.args.sample * rows.columns) rows.columns c.as_slice-numbers.result.now rows.cells c.as_slice-numbers.ensures))
          (is-at checked rows is stood.columns stood.fits made c.columns_are_a_stimulus.ensures.kept c.args.self.now c.args.sample c.requires.within stood given.0 given.1),
    )

-- the row that was written, and what it has
long : (c : After-step) → length c.step.new.out ≡ length (row_of c.args.self.now)
long c = c.step.auto.out ∙ ap length c.as_mut_slice.ensures.value

row_is : (c : After-step) → (with_items c.args.self.now.row c.step.new.out).items ≡ c.step.new.out
row_is c = with_items_is c.args.self.now.row c.step.new.out (long c ∙ sym c.args.self.now.row.ok.0)

stepped : (c : After-step) → IsStepped c.args.checked.now c.args.self.now.sim c.step.new.self
    (take c.args.rows.now.columns (drop (c.args.sample * c.args.rows.now.columns) c.args.rows.now.cells))
    c.step.new.out
stepped c =
    let rows = c.args.rows.now in
    subst (λ (row : List ℤ). IsStepped c.args.checked.now c.args.self.now.sim c.step.new.self row c.step.new.out)
    (part-is (c.args.sample * rows.columns) rows.columns c.as_slice-numbers.result.now rows.cells c.as_slice-numbers.ensures) c.step.ensures.stepped

-- the response with them stands before the next sample
abbrev later : After-step → Responding
later c = record { sim = c.step.new.self; row = with_items c.args.self.now.row c.step.new.out }

moved : (c : After-step) → IsBefore c.args.checked.now c.args.rows.now (later c) (c.args.sample + 1) × IsRowAt c.args.checked.now c.args.rows.now c.args.sample (row_of (later c))
moved c =
    let stood = c.requires.before in
    moved-on c.args.checked.now c.args.rows.now c.keeps_rules.ensures.checked stood.columns stood.fits c.columns_are_a_stimulus.ensures.made c.columns_are_a_stimulus.ensures.kept
    c.args.self.now c.args.sample c.requires.within stood (later c) c.step.new.out (row_is c) (long c) c.step.ensures.sim c.step.ensures.samples (stepped c)

pub returns-clause-before : goal.returns-clause-before
returns-clause-before c = (moved (goal.at.returns-clause-before c).After-step).0

pub returns-clause-row : goal.returns-clause-row
returns-clause-row c = (moved (goal.at.returns-clause-row c).After-step).1

pub returns-clause-wide : goal.returns-clause-wide
returns-clause-wide c =
    let after = (goal.at.returns-clause-wide c).After-step in
    ap length (row_is after) ∙ long after
