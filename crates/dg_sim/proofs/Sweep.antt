-- One cell after another takes the table's entry.
use Rattle.std.proofs.Common.{◌≡◌, ℕ, zero, suc, ◌<◌, ◌⊎◌, inl, inr, true, false, true≢false, ℤ, pos, List, length, Option, Some, None, slice_get, set, get_or-set_same, get_or-set_other, ap, sym, ◌∙◌}
use Rattle.std.proofs.Common.{subst, refl, arith, eqb-true, eq-eqb, eq-or-lt_of_le, le_of_suc-le-suc}
use Rattle.std.proofs.lemmas.Option.{same_Some}
use Rattle.dg_model.specs.Signals.{Stimulus, Table}
use Rattle.dg_model.specs.Attributes.{attributes_of}
use Rattle.dg_model.specs.Checked.{CheckedDiagram}
use Rattle.dg_model.specs.Hits.{Hits, is_hit}
use Rattle.dg_blocks.specs.declared.prepared.Prepared.{Prepared}
use Rattle.dg_sim.specs.declared.program.Cell.{Cell}
use Rattle.dg_tables.specs.declared.entries.Place.{Place}
use Rattle.dg_sim.specs.declared.program.Program.{Program}
use Rattle.dg_tables.specs.Laws.{IsOrdered, EntriesAreInRange, SolvedIsInRange, EntriesStay, EntryIsOne}
use Rattle.dg_sim.specs.Ring.{PastValues}
use Rattle.dg_tables.specs.Entries.{entry}
use Rattle.dg_sim.specs.Program.{value_at, Gives, CanGive}
use Rattle.dg_sim.specs.Sim.{Simulation, kept_at, IsProgram, IsAt, Agrees}

-- the hits of a period, as a test
pub hit_true : (period : Option ℕ) (t : ℕ) → is_hit period t ≡ true → Hits period t
hit_true None t e = eqb-true t 0 e
hit_true (Some period) t e = eqb-true _ 0 e

pub hit_false : (period : Option ℕ) (t : ℕ) → is_hit period t ≡ false → Hits period t → ⊥
hit_false None t e hit = true≢false (sym (eq-eqb t 0 hit) ∙ e)
hit_false (Some period) t e hit = true≢false (sym (eq-eqb _ 0 hit) ∙ e)

-- everything hits at the first sample
hit_first : (period : Option ℕ) → Hits period 0
hit_first None = refl
hit_first (Some period) = omega arith

-- a simulator before the sample
abbrev pub before : Program → ℕ → List PastValues → List Prepared → List ℤ → Simulation
before program t pasts prepared row = record { program = program; samples = t; row = row; pasts = pasts; prepared = prepared }

-- the cells before k have the entries of whatever table the simulator stood at
abbrev pub IsSwept : CheckedDiagram → Program → ℕ → List PastValues → List Prepared → List ℤ → List ℤ → ℕ → List ℤ → Type 0
IsSwept checked program t pasts prepared numbers old k row = (stimulus : Stimulus) (n : ℕ) (table : Table) → IsAt checked (before program t pasts prepared old) numbers stimulus n table
    → Agrees checked.diagram (attributes_of checked.diagram) program.places k (value_at row) table t

module _ (checked : CheckedDiagram) (program : Program) (t : ℕ) (pasts : List PastValues) (prepared : List Prepared) (numbers old : List ℤ)
    (ordered : IsOrdered checked.diagram checked.order) (is_program : IsProgram checked.diagram (attributes_of checked.diagram) program)
    (one : EntryIsOne) (in_range : SolvedIsInRange) (stay : EntriesStay)
  where
    -- entries up to the sample are in range
    range_now : (stimulus : Stimulus) (n : ℕ) (table : Table)
        → IsAt checked (before program t pasts prepared old) numbers stimulus n table
        → EntriesAreInRange checked.diagram (attributes_of checked.diagram) table (suc t)
    range_now stimulus n table at block b port element s shown below =
        in_range checked.diagram checked.order stimulus n table ordered at.is_stimulus at.solves block b port element s shown (omega (arith, below, at.below))

    -- so a rule can be carried out
    pub can_give : (k : ℕ) (place : Place) (cell : Cell) (row : List ℤ) (stimulus : Stimulus) (n : ℕ)
        (table : Table) → slice_get program.places k ≡ Some place → slice_get program.cells k ≡ Some cell
        → IsAt checked (before program t pasts prepared old) numbers stimulus n table
        → IsSwept checked program t pasts prepared numbers old k row → CanGive program (value_at row) cell.rule
    can_give k place cell row stimulus n table at_place here at swept =
        (is_program.cells k place cell at_place here).can table t (value_at row) (swept stimulus n table at) (range_now stimulus n table at)

    -- what it gives is the entry
    given_entry : (k : ℕ) (place : Place) (cell : Cell) (row : List ℤ) (v : ℤ) (stimulus : Stimulus) (n : ℕ)
        (table : Table) → slice_get program.places k ≡ Some place → slice_get program.cells k ≡ Some cell
        → is_hit cell.period t ≡ true
        → IsSwept checked program t pasts prepared numbers old k row
        → Gives program (value_at row) (kept_at pasts) numbers t cell.rule v
        → IsAt checked (before program t pasts prepared old) numbers stimulus n table
        → v ≡ entry table place t
    given_entry k place cell row v stimulus n table at_place here hit swept gives at =
        let is = is_program.cells k place cell at_place here in
        let hits : Hits cell.period t = hit_true cell.period t hit in
        one checked.diagram checked.order stimulus n table ordered at.solves place.block is.block place.port place.element t v is.shown at.below
        (subst (λ (period : Option ℕ). Hits period t) is.period hits)
        (is.serves stimulus table t (value_at row) (kept_at pasts) numbers v (swept stimulus n table at) at.stands.kept at.row_is hits gives)

    -- where it doesn't hit, the entry stays
    stayed_entry : (k : ℕ) (place : Place) (cell : Cell) (stimulus : Stimulus) (n : ℕ) (table : Table)
        → slice_get program.places k ≡ Some place → slice_get program.cells k ≡ Some cell
        → is_hit cell.period t ≡ false
        → IsAt checked (before program t pasts prepared old) numbers stimulus n table → value_at old k ≡ entry table place t
    stayed_entry k place cell stimulus n table at_place here miss at = go t refl
      where
        go : (s : ℕ) → t ≡ s → value_at old k ≡ entry table place t
        go zero e = absurd (hit_false cell.period t miss (subst (λ (s : ℕ). Hits cell.period s) (sym e) (hit_first cell.period)))
        go (suc s) e =
            let is = is_program.cells k place cell at_place here in
            let off : Hits ((attributes_of checked.diagram).period_at place.block) (suc s) → ⊥ =
            λ hit. hit_false cell.period t miss (subst (λ (s : ℕ). Hits cell.period s) (sym e) (subst (λ (period : Option ℕ). Hits period (suc s)) (sym is.period) hit)) in
            at.stands.row k place s at_place e
            ∙ sym (stay checked.diagram (attributes_of checked.diagram) stimulus n table at.solves place.block is.block place.port place.element s is.shown (subst (λ (m : ℕ). m < n) e at.below) off)
            ∙ ap (λ (m : ℕ). entry table place m) (sym e)

    -- the cells before k + 1 agree
    more : (k : ℕ) (place : Place) (cell : Cell) (row later : List ℤ) → slice_get program.places k ≡ Some place
        → slice_get program.cells k ≡ Some cell → IsSwept checked program t pasts prepared numbers old k row
        → ((j : ℕ) → j < k → value_at later j ≡ value_at row j)
        → ((stimulus : Stimulus) (n : ℕ) (table : Table) → IsAt checked (before program t pasts prepared old) numbers stimulus n table → value_at later k ≡ entry table place t)
        → IsSwept checked program t pasts prepared numbers old (suc k) later
    more k place cell row later at_place here swept same last stimulus n table at j c below at_j = go (eq-or-lt_of_le (le_of_suc-le-suc below))
      where
        go : (j ≡ k) ⊎ (j < k) → value_at later j ≡ entry table c t
        go (inl e) =
            let found : place ≡ c = same_Some place c (sym at_place ∙ ap (slice_get program.places) (sym e) ∙ at_j) in
            ap (value_at later) e ∙ last stimulus n table at ∙ ap (λ (c : Place). entry table c t) found
        go (inr l) = same j l ∙ swept stimulus n table at j c l at_j

    pub swept_hit : (k : ℕ) (place : Place) (cell : Cell) (row : List ℤ) (v : ℤ)
        → slice_get program.places k ≡ Some place → slice_get program.cells k ≡ Some cell → k < length row
        → is_hit cell.period t ≡ true
        → IsSwept checked program t pasts prepared numbers old k row
        → Gives program (value_at row) (kept_at pasts) numbers t cell.rule v
        → IsSwept checked program t pasts prepared numbers old (suc k) (set row k v)
    swept_hit k place cell row v at_place here inside hit swept gives =
        more k place cell row (set row k v) at_place here swept (λ j l. let apart : j ≡ k → ⊥ = λ e. absurd (omega (arith, e, l)) in get_or-set_other row k j v (pos 0) apart)
        (λ stimulus n table at. get_or-set_same row k v (pos 0) inside ∙ given_entry k place cell row v stimulus n table at_place here hit swept gives at)

    pub swept_miss : (k : ℕ) (place : Place) (cell : Cell) (row : List ℤ) → slice_get program.places k ≡ Some place
        → slice_get program.cells k ≡ Some cell → is_hit cell.period t ≡ false → value_at row k ≡ value_at old k
        → IsSwept checked program t pasts prepared numbers old k row → IsSwept checked program t pasts prepared numbers old (suc k) row
    swept_miss k place cell row at_place here miss same swept =
        more k place cell row row at_place here swept (λ j l. refl) (λ stimulus n table at. same ∙ stayed_entry k place cell stimulus n table at_place here miss at)
