-- The laws of a design, from those of its parts.
use Rattle.std.proofs.Common.{ℕ, zero, suc, List, arith, le_refl}
use Rattle.fx_type.specs.Laws.{FullSumIsOne, FullProductIsOne, UnionIsOne}
use Rattle.fx_round.specs.Laws.{StoringGivesOne}
use Rattle.dg_blocks.specs.Laws.{OperationGivesAtMostOne}
use Rattle.dg_model.specs.declared.diagram.Diagram.{Diagram}
use Rattle.dg_model.specs.Attributes.{attributes_of}
use Rattle.dg_model.specs.GainParam.{ParamTypeIsOne}
use Rattle.dg_model.specs.Signals.{Stimulus, Table}
use Rattle.dg_tables.specs.Laws.{IsOrdered}
use Rattle.dg_tables.proofs.Runnable.{order_rank, ranked}
use Rattle.hw_net.specs.Closed.{RegisterIsClosed, EnRegIsClosed}
use Rattle.hw_shows.specs.Timing.{Timing}
use Rattle.hw_shows.specs.Waves.{Waves}
use Rattle.hw_shows.specs.Laws.{IsDesign, BuiltIsShown, StagesAreShown, OperandsAreServed}
use Rattle.hw_shows.proofs.Inputs.{Setting, all_offered, early_slot}
use Rattle.hw_shows.proofs.Induction.{staged, by_clock}

module _ (storing : StoringGivesOne) (at_most : OperationGivesAtMostOne) (registers : RegisterIsClosed) (enabled : EnRegIsClosed)
    (sums : FullSumIsOne) (products : FullProductIsOne) (unions : UnionIsOne) (params : ParamTypeIsOne)
  where
    abbrev rank : (diagram : Diagram) (order : List ℕ) → IsOrdered diagram order → ℕ → ℕ
    rank diagram order ordered = order_rank storing sums products unions params diagram order ordered

    setting : {diagram : Diagram} {order : List ℕ} {stimulus : Stimulus} {timing : Timing} {clocks n : ℕ}
        {table : Table} {waves : Waves} (design : IsDesign diagram order stimulus timing clocks n table waves)
        → Setting diagram (attributes_of diagram) (rank diagram order design.ordered) stimulus timing clocks n table waves
    setting {diagram = diagram} {order = order} design = record {
      storing = storing;
      at_most = at_most;
      registers = registers;
      enabled = enabled;
      checked = ranked storing sums products unions params diagram order design.ordered;
      timed = design.timed;
      solves = design.solves;
      built = design.built;
      driven = design.driven;
    }

    pub built_is_shown : BuiltIsShown
    built_is_shown diagram order stimulus timing clocks n table waves design block b port element shown = by_clock (setting design) clocks (le_refl clocks) block b port element shown

    pub stages_are_shown : StagesAreShown
    stages_are_shown diagram order stimulus timing zero n table waves design block b port element stage period shown is below = record { at = λ t c less early seen. absurd (omega arith) }
    stages_are_shown diagram order stimulus timing (suc k) n table waves design block b port element stage period shown is below =
        staged (setting design) k (le_refl (suc k)) block (λ other. by_clock (setting design) k (omega arith) other) b port element shown period stage is below

    pub operands_are_served : OperandsAreServed
    operands_are_served diagram order stimulus timing clocks n table waves design block b input element slot block_is showing now at from to reads =
        all_offered (setting design) block b block_is showing clocks slot (le_refl clocks) now (λ driver less. by_clock (setting design) clocks (le_refl clocks) driver)
        (early_slot (setting design) block b block_is showing element slot at) input element from to reads
