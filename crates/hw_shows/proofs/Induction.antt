-- All blocks show their entries: by clocks, and in a clock by the order of the blocks.
use Rattle.std.proofs.Common.{◌≡◌, ℕ, zero, suc, ◌+◌, ◌*◌, ◌-◌, ◌<◌, ◌≤◌, pos, Option, Some, None, ◌∙◌, subst, refl, arith, le_trans}
use Rattle.std.proofs.lemmas.Option.{MatchOption-at_some}
use Rattle.dg_model.specs.declared.diagram.Diagram.{Diagram}
use Rattle.dg_model.specs.declared.diagram.Block.{Block}
use Rattle.dg_model.specs.Signals.{Attributes, Stimulus, Table}
use Rattle.dg_model.specs.Hits.{Hits}
use Rattle.dg_model.specs.Equation.{KindEquation}
use Rattle.dg_model.specs.Solves.{IsShown, shown_ports}
use Rattle.hw_net.specs.Closed.{RegShows}
use Rattle.hw_shows.specs.Shows.{IsSeen, Shows}
use Rattle.hw_shows.specs.Timing.{Timing, latency_behind, ready_behind, ready_after}
use Rattle.hw_shows.specs.Series.{span_at, AreSame, IsSeries}
use Rattle.hw_shows.specs.Waves.{Waves, IsPiped}
use Rattle.hw_shows.specs.Laws.{AreShown}
use Rattle.dg_tables.proofs.Sources.{is_readable}
use Rattle.dg_tables.proofs.Single.{kind_one}
use Rattle.hw_shows.proofs.Chains.{stage_shows}
use Rattle.hw_shows.proofs.Inputs.{Setting, BlockShows, all_offered, early_ready, early_slot}
use Rattle.hw_shows.proofs.Blocks.{by_kind}

-- what is to be seen is a hit
seen_hits : (cycles : ℕ) (period : Option ℕ) (latency ready t c : ℕ) → IsSeen cycles period latency ready t c → Hits period t
seen_hits cycles None latency ready t c seen = seen
seen_hits cycles (Some p) latency ready t c seen = seen.is_hit

module _ {diagram : Diagram} {attributes : Attributes} {rank : ℕ → ℕ} {stimulus : Stimulus} {timing : Timing}
    {clocks n : ℕ} {table : Table} {waves : Waves}
    (s : Setting diagram attributes rank stimulus timing clocks n table waves) where
  -- ---- one element at one more clock
  module _ (k : ℕ) (within : suc k ≤ clocks) (block : ℕ) (all : (other : ℕ) → BlockShows s k other) (lower : (driver : ℕ) → rank driver < rank block → BlockShows s (suc k) driver)
      (b : Block) (port element : ℕ) (shown : IsShown diagram attributes block b port element)
    where
      some_port : 1 ≤ shown_ports b.kind b.outputs
      some_port = le_trans shown.port_from shown.port_to

      entry_shows : Shows (suc k) n timing.cycles (attributes.period_at block) (timing.latency block) (timing.ready block) (table block port element) (waves.entry block port element)
      entry_shows = record {
        at = λ t c below early due.
            let asked = MatchOption-at_some ⊥ (λ (x : Block). KindEquation diagram attributes stimulus table x.kind x block port element t (table block port element t)) b shown.block_is
            (s.solves.at_hits block b port element t shown below (seen_hits timing.cycles (attributes.period_at block) (timing.latency block) (timing.ready block) t c due)) in
            let readable = is_readable diagram attributes s.checked.wired block b shown.block_is in
            let given = by_kind s k within block all lower b port element shown t c below early due b.kind refl
            readable.ports
            (s.checked.widths block b shown.block_is) shown.element_below shown.port_to readable.parameters
            (λ now. all_offered s block b shown.block_is some_port (suc k) (timing.ready block) within now lower (early_ready s block b shown.block_is some_port now))
            (λ now slot e. all_offered s block b shown.block_is some_port (suc k) slot within now lower (early_slot s block b shown.block_is some_port element slot e))
            (s.built.blocks block b port element shown) in
            kind_one s.storing s.at_most diagram attributes rank s.checked stimulus table block b shown.block_is
            (s.checked.types block b 1 shown.block_is (omega arith) some_port) t
            (waves.entry block port element c) (table block port element t)
            b.kind port element given asked;
      }

      -- behind the pipeline
      piped : (period : Option ℕ) → Shows k n timing.cycles period (timing.latency block) (timing.ready block) (table block port element) (waves.entry block port element)
          → Shows (suc k) n timing.cycles period (timing.latency block) (timing.ready block) (table block port element) (waves.entry block port element)
          → ((p : ℕ) → period ≡ Some p → timing.ready block < p * timing.cycles) → IsPiped diagram attributes timing clocks waves period block port element
          → Shows (suc k) n timing.cycles period (latency_behind timing period block) (ready_after timing block) (table block port element) (waves.after block port element)
      piped None before now ready made = record { at = λ t c below early seen. made.at c (omega arith) ∙ now.at t c below early seen }
      piped (Some p) before now ready made = go (timing.stages block) made.0 made.1
        where
          first : (count : ℕ) → IsSeries clocks (span_at timing p block) count (pos 0) (waves.entry block port element) (waves.stage block port element)
              → Shows k n timing.cycles (Some p) (timing.latency block) (timing.ready block) (table block port element) (waves.stage block port element 0)
          first count series = record { at = λ t c below early seen. series.begins.at c (omega arith) ∙ before.at t c below early seen }

          register : (count : ℕ) → IsSeries clocks (span_at timing p block) count (pos 0) (waves.entry block port element) (waves.stage block port element)
              → (j : ℕ) → j < count → RegShows clocks (span_at timing p block) (p * timing.cycles - 1) (pos 0) (waves.stage block port element j) (waves.stage block port element (suc j))
          register count series j below =
              let some : timing.ready block < p * timing.cycles = ready p refl in
              s.registers clocks (span_at timing p block) (p * timing.cycles - 1) (pos 0)
              (waves.stage block port element j) (waves.stage block port element (suc j)) (omega arith)
              (series.takes j below)

          go : (count : ℕ) → AreSame clocks (waves.after block port element) (waves.stage block port element count)
              → IsSeries clocks (span_at timing p block) count (pos 0) (waves.entry block port element)
              (waves.stage block port element)
              → Shows (suc k) n timing.cycles (Some p) (timing.latency block + count * p) (ready_behind count (timing.ready block)) (table block port element) (waves.after block port element)
          go zero same series = record {
            at = λ t c below early seen.
                let none : timing.latency block + 0 * p ≡ timing.latency block = omega arith in
                same.at c (omega arith) ∙ series.begins.at c (omega arith) ∙ now.at t c below early (subst (λ (l : ℕ). IsSeen timing.cycles (Some p) l (timing.ready block) t c) none seen);
          }
          go (suc j) same series =
              let shows = stage_shows clocks k n timing.cycles p (timing.latency block) (timing.ready block)
              (table block port element) (suc j) (pos 0) (waves.stage block port element) within (ready p refl)
              (first (suc j) series) (register (suc j) series) j (omega arith) in
              record { at = λ t c below early seen. same.at c (omega arith) ∙ shows.at t c below early seen }

      pub both_show : AreShown attributes timing (suc k) n table waves block port element
      both_show = record {
        entry = entry_shows;
        after = piped (attributes.period_at block) (all block b port element shown).entry entry_shows (λ p e. s.timed.ready block p e) (s.built.pipelines block b port element shown);
      }

  -- ---- a register of a pipeline
  pub staged : (k : ℕ) → suc k ≤ clocks → (block : ℕ) → ((other : ℕ) → BlockShows s k other)
      → (b : Block) (port element : ℕ) → IsShown diagram attributes block b port element → (p j : ℕ)
      → attributes.period_at block ≡ Some p → j < timing.stages block
      → Shows (suc k) n timing.cycles (Some p) (timing.latency block + suc j * p) 0 (table block port element) (waves.stage block port element (suc j))
  staged k within block all b port element shown p j is below = go (s.built.pipelines block b port element shown)
    where
      entry : Shows k n timing.cycles (Some p) (timing.latency block) (timing.ready block) (table block port element) (waves.entry block port element)
      entry = subst (λ (o : Option ℕ). Shows k n timing.cycles o (timing.latency block) (timing.ready block)
          (table block port element) (waves.entry block port element)) is (all block b port element shown).entry

      go : IsPiped diagram attributes timing clocks waves (attributes.period_at block) block port element
          → Shows (suc k) n timing.cycles (Some p) (timing.latency block + suc j * p) 0 (table block port element) (waves.stage block port element (suc j))
      go made = from_series (subst (λ (o : Option ℕ). IsPiped diagram attributes timing clocks waves o block port element) is made).1
        where
          from_series : IsSeries clocks (span_at timing p block) (timing.stages block) (pos 0) (waves.entry block port element) (waves.stage block port element)
              → Shows (suc k) n timing.cycles (Some p) (timing.latency block + suc j * p) 0 (table block port element) (waves.stage block port element (suc j))
          from_series series =
              stage_shows clocks k n timing.cycles p (timing.latency block) (timing.ready block)
              (table block port element) (timing.stages block) (pos 0) (waves.stage block port element) within
              (s.timed.ready block p is)
              (record { at = λ t c less early seen. series.begins.at c (omega arith) ∙ entry.at t c less early seen })
              (λ i l. let some : timing.ready block < p * timing.cycles = s.timed.ready block p is in
              s.registers clocks (span_at timing p block) (p * timing.cycles - 1) (pos 0) (waves.stage block port element i) (waves.stage block port element (suc i)) (omega arith) (series.takes i l))
              j below

  -- ---- one more clock
  by_rank : (k : ℕ) → suc k ≤ clocks → ((other : ℕ) → BlockShows s k other) → (r block : ℕ) → rank block < r → BlockShows s (suc k) block
  by_rank k within all zero block below = λ b port element shown. absurd (omega arith)
  by_rank k within all (suc r) block below = λ b port element shown.
      both_show k within block all (λ driver less. by_rank k within all r driver (omega arith)) b port element shown

  -- ---- all clocks
  pub by_clock : (k : ℕ) → k ≤ clocks → (block : ℕ) → BlockShows s k block
  by_clock zero within block = λ b port element shown. record {
    entry = record { at = λ t c below early seen. absurd (omega arith) };
    after = record { at = λ t c below early seen. absurd (omega arith) };
  }
  by_clock (suc k) within block = by_rank k within (λ other. by_clock k (omega arith) other) (suc (rank block)) block (omega arith)
