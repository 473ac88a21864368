-- A design from what is worked out of each of its blocks, over attributes that are written out.
use Rattle.std.proofs.Common.{◌≡◌, ℕ, zero, suc, ◌*◌, ◌<◌, Bool, true, false, true≢false, ◌&&◌, ◌==◌, nat_lt, List, [], ◌∷◌, Option, None, Some, is_some, slice_get, slice_index_or, ap, sym, subst}
use Rattle.std.proofs.Common.{refl, ◌∙◌}
use Rattle.std.proofs.lemmas.Bool.{and_parts, eqb-true, ltb-true}
use Rattle.std.proofs.lemmas.Option.{none-some, same_Some}
use Rattle.fx_type.specs.declared.kind.FxType.{FxType}
use Rattle.fx_type.specs.FxType.{InRange}
use Rattle.dg_model.specs.declared.diagram.Diagram.{Diagram}
use Rattle.dg_model.specs.declared.diagram.Block.{Block}
use Rattle.dg_model.specs.declared.nested.Target.{Target}
use Rattle.dg_model.specs.declared.row.Inherited.{Inherited}
use Rattle.dg_model.specs.Attributes.{attributes_of}
use Rattle.dg_model.specs.Equation.{Equation}
use Rattle.dg_model.specs.Faults.{AllKeep}
use Rattle.dg_model.specs.Hits.{Hits, last_hit}
use Rattle.dg_model.specs.Library.{row_of}
use Rattle.dg_model.specs.Signals.{Attributes, Stimulus, Table}
use Rattle.dg_model.specs.Solves.{IsStimulus, Solves}
use Rattle.dg_model.specs.Wired.{root_input}
use Rattle.dg_tables.specs.Laws.{IsOrdered}
use Rattle.hw_shows.specs.Shows.{Shows}
use Rattle.hw_shows.specs.Timing.{Timing}
use Rattle.hw_shows.specs.Timed.{IsTimed}
use Rattle.hw_shows.specs.Waves.{Waves, AreBuilt, AreDriven, IsMadeAs, IsPiped}
use Rattle.hw_shows.specs.Laws.{IsDesign}
use Rattle.hw_shows.proofs.ByPorts.{InTime}
use Rattle.hw_shows.proofs.RuleTests.{Columns, IsTried, attributes_in, attributes_tried, each_passes, passes_at}
use Rattle.hw_shows.proofs.WaveTests.{are_within, if_so, shows_test, so, tried_range, tried_shows}

-- ---- times, by tests

-- a block of this period is ready within its frame
abbrev is_early : Timing → ℕ → Option ℕ → Bool
is_early timing block None = true
is_early timing block (Some period) = nat_lt (timing.ready block) (period * timing.cycles)

period_passes : (test : ℕ → Option ℕ → Bool) (periods : List (Option ℕ)) → each_passes test periods ≡ true
    → (block period : ℕ) → slice_index_or periods block None ≡ Some period → test block (Some period) ≡ true
period_passes test [] is block period e = absurd (none-some period e)
period_passes test (first ∷ periods) is zero period e = subst (λ (own : Option ℕ). test 0 own ≡ true) e (and_parts (test 0 first) (each_passes (λ k. test (suc k)) periods) is).0
period_passes test (first ∷ periods) is (suc block) period e =
    period_passes (λ k. test (suc k)) periods (and_parts (test 0 first) (each_passes (λ k. test (suc k)) periods) is).1 block period e

abbrev is_base : Inherited → Bool
is_base Inherited.OfSources = false
is_base Inherited.Moving = false
is_base Inherited.Base = true
is_base Inherited.Unchanging = false

-- it has a period, and a root input shows its entries at once
abbrev is_timed : List (Option ℕ) → Timing → ℕ → Block → Bool
is_timed periods timing k b = is_some (slice_index_or periods k None) && if_so (is_base (row_of b.kind).timing.inherits) ((timing.latency k == 0) && (timing.ready k == 0))

period_of : (period : Option ℕ) → is_some period ≡ true → (own : ℕ) × (period ≡ Some own)
period_of None is = absurd (true≢false (sym is))
period_of (Some own) is = (own, refl)

module _ (diagram : Diagram) (columns : Columns) (timing : Timing) where
  abbrev attributes : Attributes
  attributes = attributes_in diagram columns

  module _ (passed : each_passes (is_timed columns.periods timing) diagram.blocks ≡ true) where
    parts : (k : ℕ) (b : Block) → slice_get diagram.blocks k ≡ Some b
        → (is_some (slice_index_or columns.periods k None) ≡ true) × (if_so (is_base (row_of b.kind).timing.inherits) ((timing.latency k == 0) && (timing.ready k == 0)) ≡ true)
    parts k b at =
        and_parts (is_some (slice_index_or columns.periods k None)) (if_so (is_base (row_of b.kind).timing.inherits) ((timing.latency k == 0) && (timing.ready k == 0)))
        (passes_at (is_timed columns.periods timing) diagram.blocks passed k b at)

    at_once : (k : ℕ) (b : Block) → slice_get diagram.blocks k ≡ Some b → (row_of b.kind).timing.inherits ≡ Inherited.Base → (timing.latency k ≡ 0) × (timing.ready k ≡ 0)
    at_once k b at base =
        let zeros = and_parts (timing.latency k == 0) (timing.ready k == 0)
        (so (is_base (row_of b.kind).timing.inherits) ((timing.latency k == 0) && (timing.ready k == 0))
        (ap is_base base) (parts k b at).1) in
        (eqb-true (timing.latency k) 0 zeros.0, eqb-true (timing.ready k) 0 zeros.1)

    pub timed_by : each_passes (is_early timing) columns.periods ≡ true → AllKeep diagram (λ block b. (target : Target) → InTime diagram attributes timing block b target)
        → ((block element slot : ℕ) → timing.slot block element ≡ Some slot → slot < timing.ready block)
        → ((block element : ℕ) → attributes.period_at block ≡ None → timing.slot block element ≡ None)
        → IsTimed diagram attributes timing
    timed_by early arrive slots still = record {
      ready = λ block period is. ltb-true (timing.ready block) (period * timing.cycles) (period_passes (is_early timing) columns.periods early block period is);
      edges = λ block b target from source e showing feeds is. arrive block b e target from source feeds is;
      moving = λ block b at is. period_of (slice_index_or columns.periods block None) (parts block b at).0;
      base = at_once;
      slots = slots;
      still = still;
    }

-- ---- what its waves owe
module _ (diagram : Diagram) (attributes : Attributes) (timing : Timing) (clocks : ℕ) (waves : Waves) where
  abbrev pub AreMade : ℕ → Block → Type 0
  AreMade block b = (port element : ℕ) → IsMadeAs diagram attributes timing clocks waves b.kind block b port element

  abbrev pub ArePiped : ℕ → Block → Type 0
  ArePiped block b = (port element : ℕ) → IsPiped diagram attributes timing clocks waves (attributes.period_at block) block port element

-- ---- what its entries owe
module _ (diagram : Diagram) (attributes : Attributes) (stimulus : Stimulus) (n : ℕ) (table : Table) where
  abbrev pub AreRight : ℕ → Block → Type 0
  AreRight block b = (port element t : ℕ) → t < n → Hits (attributes.period_at block) t → Equation diagram attributes stimulus table block port element t (table block port element t)

  abbrev pub DoStay : ℕ → Block → Type 0
  DoStay block b = (port element t : ℕ) → t < n → ¬ Hits (attributes.period_at block) t → table block port element t ≡ table block port element (last_hit (attributes.period_at block) t)

  solved_by : AllKeep diagram AreRight → AllKeep diagram DoStay → Solves diagram attributes stimulus n table
  solved_by right stay = record {
    at_hits = λ block b port element t shown below hit. right block b shown.block_is port element t below hit;
    between_hits = λ block b port element t shown below miss. stay block b shown.block_is port element t below miss;
  }

-- ---- root inputs whose elements are all alike, by tests
module _ (stimulus : Stimulus) (n : ℕ) where
  -- the entries are in range
  abbrev is_given : Option ℕ → FxType → Bool
  is_given None type = true
  is_given (Some number) type = are_within type n (stimulus number 0)

  given_at : (role : Option ℕ) (type : FxType) → is_given role type ≡ true → (number : ℕ) → role ≡ Some number → (t : ℕ) → t < n → InRange type (stimulus number 0 t)
  given_at None type is number e = absurd (none-some number e)
  given_at (Some own) type is number e = subst (λ (k : ℕ). (t : ℕ) → t < n → InRange type (stimulus k 0 t)) (same_Some own number e) (tried_range type n (stimulus own 0) is)

  abbrev takes_given : Attributes → ℕ → Block → Bool
  takes_given attributes k b = is_given (root_input (row_of b.kind).place.role) (attributes.type_at k 1)

  pub given_by : (diagram : Diagram) (attributes : Attributes)
      → ((number element t : ℕ) → stimulus number 0 t ≡ stimulus number element t)
      → each_passes (takes_given attributes) diagram.blocks ≡ true → IsStimulus diagram attributes stimulus n
  given_by diagram attributes alike is = record {
    in_range = λ block b number element t e own inside below hit.
        subst (InRange (attributes.type_at block 1)) (alike number element t)
        (given_at (root_input (row_of b.kind).place.role) (attributes.type_at block 1) (passes_at (takes_given attributes) diagram.blocks is block b e) number own t below);
  }

  -- and shown in their frames
  module _ (cycles clocks : ℕ) (waves : Waves) where
    abbrev is_shown : Option ℕ → Option ℕ → Bool
    is_shown None period = true
    is_shown (Some number) None = false
    is_shown (Some number) (Some period) = shows_test clocks n cycles period 0 0 (stimulus number 0) (waves.input number 0)

    shown_at : (role period : Option ℕ) → is_shown role period ≡ true → (number : ℕ) → role ≡ Some number → Shows clocks n cycles period 0 0 (stimulus number 0) (waves.input number 0)
    shown_at None period is number e = absurd (none-some number e)
    shown_at (Some own) None is number e = absurd (true≢false (sym is))
    shown_at (Some own) (Some period) is number e =
        subst (λ (k : ℕ). Shows clocks n cycles (Some period) 0 0 (stimulus k 0) (waves.input k 0))
        (same_Some own number e)
        (tried_shows clocks n cycles period 0 0 (stimulus own 0) (waves.input own 0) is)

    abbrev takes_shown : Attributes → ℕ → Block → Bool
    takes_shown attributes k b = is_shown (root_input (row_of b.kind).place.role) (attributes.period_at k)

    driven_by : (diagram : Diagram) (attributes : Attributes)
        → ((number element t : ℕ) → stimulus number 0 t ≡ stimulus number element t)
        → ((number element c : ℕ) → waves.input number element c ≡ waves.input number 0 c)
        → each_passes (takes_shown attributes) diagram.blocks ≡ true → AreDriven diagram attributes stimulus n cycles clocks waves
    driven_by diagram attributes alike same is = record {
      shows = λ block b number element t c e own inside early soon seen.
          same number element c
          ∙ (shown_at (root_input (row_of b.kind).place.role) (attributes.period_at block) (passes_at (takes_shown attributes) diagram.blocks is block b e) number own).at t c early soon seen
          ∙ alike number element t;
    }

-- ---- the design
module _ (diagram : Diagram) (columns : Columns) (tried : IsTried diagram columns) (order : List ℕ) (stimulus : Stimulus) (timing : Timing) (clocks n : ℕ) (table : Table) (waves : Waves) where
  known : attributes_of diagram ≡ attributes_in diagram columns
  known = attributes_tried diagram columns tried

  pub designed : IsOrdered diagram order → IsTimed diagram (attributes_in diagram columns) timing
      → AllKeep diagram (AreRight diagram (attributes_in diagram columns) stimulus n table)
      → AllKeep diagram (DoStay diagram (attributes_in diagram columns) stimulus n table)
      → AreBuilt diagram (attributes_in diagram columns) timing clocks waves
      → ((number element t : ℕ) → stimulus number 0 t ≡ stimulus number element t)
      → ((number element c : ℕ) → waves.input number element c ≡ waves.input number 0 c)
      → each_passes (takes_shown stimulus n timing.cycles clocks waves (attributes_in diagram columns)) diagram.blocks ≡ true → IsDesign diagram order stimulus timing clocks n table waves
  designed ordered timed right stay built alike same shown =
      let attributes : Attributes = attributes_in diagram columns in
      record {
        ordered = ordered;
        timed = subst (λ (a : Attributes). IsTimed diagram a timing) (sym known) timed;
        solves = subst (λ (a : Attributes). Solves diagram a stimulus n table) (sym known) (solved_by diagram attributes stimulus n table right stay);
        built = subst (λ (a : Attributes). AreBuilt diagram a timing clocks waves) (sym known) built;
        driven = subst (λ (a : Attributes). AreDriven diagram a stimulus n timing.cycles clocks waves) (sym known)
            (driven_by stimulus n timing.cycles clocks waves diagram attributes alike same shown);
      }

  -- it is none where its waves aren't built so
  pub undesigned : ¬ AreBuilt diagram (attributes_in diagram columns) timing clocks waves → ¬ IsDesign diagram order stimulus timing clocks n table waves
  undesigned not_built is = not_built (subst (λ (a : Attributes). AreBuilt diagram a timing clocks waves) known is.built)
