-- The facts of the steps make the waves of the rows such as they are to be built.
use Rattle.std.proofs.Common.{◌≡◌, ℕ, ◌-◌, ◌<◌, ◌≤◌, ◌⊎◌, inl, inr, false, ℤ, length, Option, None, Some, ap, sym, ◌∙◌, subst, arith, refl}
use Rattle.std.specs.Prelude.{slice_get, min, ◌==◌}
use Rattle.std.proofs.lemmas.Bool.{cond-true, cond-false, eqb-true, eq-eqb, cases_Bool}
use Rattle.std.proofs.lemmas.Option.{none-some, same_Some, slice_get_within}
use Rattle.dg_model.specs.declared.diagram.Diagram.{Diagram}
use Rattle.dg_model.specs.declared.diagram.Block.{Block}
use Rattle.dg_model.specs.declared.diagram.Edge.{Edge}
use Rattle.dg_model.specs.declared.nested.Target.TheVariants.{Port}
use Rattle.dg_model.specs.Attributes.{attributes_of}
use Rattle.dg_model.specs.Solves.{shown_ports}
use Rattle.dg_model.specs.Wires.{driver_of, repeated}
use Rattle.hw_net.specs.Circuit.{Circuit}
use Rattle.hw_net.specs.NetRows.{Inputs, Rows, NetRows}
use Rattle.hw_net.specs.Registers.{Wave}
use Rattle.hw_shows.specs.Timing.{Timing}
use Rattle.hw_shows.specs.Timed.{lag_into}
use Rattle.hw_shows.specs.Series.{IsLineInto, IsOffered}
use Rattle.hw_shows.specs.Waves.{AreBuilt}
use Rattle.hw_build.specs.Places.{Places, waves_of}
use Rattle.hw_build.specs.inner.Facts.{count_by_lag, count_by, line_count, IsOfferedBy, HaveLines, AreSpread, LateAreWide, HaveFacts}
use Rattle.hw_build.proofs.Growth.{goes_same}

pub repeated_one : (width element : ℕ) → width ≡ 1 → repeated width element ≡ 0
repeated_one width element is = cond-true {A = ℕ} (width == 1) 0 element (eq-eqb width 1 is)

pub repeated_more : (width element : ℕ) → (width == 1) ≡ false → repeated width element ≡ element
repeated_more width element fails = cond-false {A = ℕ} (width == 1) 0 element fails

-- the elements past the last read what that does
same_source : (width own element : ℕ) → (width ≡ 1) ⊎ (width ≡ own) → repeated width element < width → repeated width element ≡ repeated width (min element (own - 1))
same_source width own element (inl one) below = repeated_one width element one ∙ sym (repeated_one width (min element (own - 1)) one)
same_source width own element (inr same) below = elim (cases_Bool (width == 1)) [
  | inl holds ↦ let one = eqb-true width 1 holds in repeated_one width element one ∙ sym (repeated_one width (min element (own - 1)) one)
  | inr fails ↦
      let here = repeated_more width element fails in
      let least : min element (own - 1) ≡ element = omega (arith, here, below, same) in
      ap (repeated width) (sym least)
]

-- only an end with registers has a first number
other_first : (n : ℕ) (timing : Timing) (from block : ℕ) (source own : Option ℕ) (lags : ℕ → Option ℕ)
    (first other : ℤ) (wave line : Wave) → ((p lag : ℕ) → source ≡ Some p → lags p ≡ Some lag → first ≡ other)
    → IsOffered n timing from source block own lags first wave line → IsOffered n timing from source block own lags other wave line
other_first n timing from block None own lags first other wave line same is = is
other_first n timing from block (Some p) None lags first other wave line same is = is
other_first n timing from block (Some p) (Some q) lags first other wave line same is = go (lags p) refl is
  where
    go : (lag : Option ℕ) → lags p ≡ lag → IsLineInto n timing from p block q lag first wave line → IsLineInto n timing from p block q lag other wave line
    go None e h = h
    go (Some lag) e h = subst (λ (z : ℤ). IsLineInto n timing from p block q (Some lag) z wave line) (same p lag refl e) h

-- how many nets a line has
pub record IsCounted (source own : ℕ) (lags : ℕ → Option ℕ) (period : Option ℕ) : Type 0 where
  pub some : 0 < count_by source own lags period
  pub repeats : (source ≡ 1) ⊎ (source ≡ count_by source own lags period)
  pub late : (p lag : ℕ) → period ≡ Some p → lags p ≡ Some lag → count_by source own lags period ≡ own

counted : (source own : ℕ) (lags : ℕ → Option ℕ) (period : Option ℕ) → 0 < source → ((p lag : ℕ) → lags p ≡ Some lag → (0 < own) × ((source ≡ 1) ⊎ (source ≡ own))) → IsCounted source own lags period
counted source own lags None some wide = record { some = some; repeats = inr refl; late = λ p lag e h. absurd (none-some p e) }
counted source own lags (Some p) some wide = go (lags p) refl
  where
    go : (lag : Option ℕ) → lags p ≡ lag → IsCounted source own lags (Some p)
    go None e = record {
      some = subst (λ (o : Option ℕ). 0 < count_by_lag source own o) (sym e) some;
      repeats = subst (λ (o : Option ℕ). (source ≡ 1) ⊎ (source ≡ count_by_lag source own o)) (sym e) (inr refl);
      late = λ q lag is h. absurd (none-some lag (sym e ∙ ap lags (same_Some p q is) ∙ h));
    }
    go (Some lag) e = record {
      some = subst (λ (o : Option ℕ). 0 < count_by_lag source own o) (sym e) (wide p lag e).0;
      repeats = subst (λ (o : Option ℕ). (source ≡ 1) ⊎ (source ≡ count_by_lag source own o)) (sym e) (wide p lag e).1;
      late = λ q other is h. ap (count_by_lag source own) e;
    }

module _ (diagram : Diagram) (timing : Timing) (places : Places) (closed hubs : ℕ) (now : Circuit)
    (wide : LateAreWide diagram) (spread : AreSpread diagram places)
    (lines : HaveLines diagram timing places closed hubs now) where
  -- what each number of an element is offered
  pub all_lines : (block : ℕ) (b : Block) (port element : ℕ) (edge : Edge) → slice_get diagram.blocks block ≡ Some b
      → 1 ≤ shown_ports b.kind b.outputs → 1 ≤ port → port ≤ b.inputs → driver_of diagram block port ≡ Some edge
      → repeated ((attributes_of diagram).width_at edge.from edge.from_port) element < (attributes_of diagram).width_at edge.from edge.from_port
      → IsOfferedBy diagram timing places closed hubs now block b (Port port) edge.from (places.first block element)
      (places.after edge.from edge.from_port
      (repeated ((attributes_of diagram).width_at edge.from edge.from_port) element))
      (places.offered block port element)
  all_lines block b port element edge at showing from to drives below =
      let source : ℕ = (attributes_of diagram).width_at edge.from edge.from_port in
      let own : ℕ = (attributes_of diagram).width_at block 1 in
      let lags : ℕ → Option ℕ = lag_into diagram (attributes_of diagram) block b (Port port) in
      let period : Option ℕ = (attributes_of diagram).period_at edge.from in
      let count : IsCounted source own lags period = counted source own lags period (omega (arith, below)) (λ p lag e. wide.each block b port p lag edge at from to drives e) in
      let last : ℕ = min element (line_count diagram block b port edge - 1) in
      let some = count.some in
      let fact = lines.each block b port last edge at showing from to drives (omega (arith, some)) in
      let net : places.offered block port element ≡ places.offered block port last = spread.offered block b port element edge at drives in
      let hub : repeated source element ≡ repeated source last = same_source source (line_count diagram block b port edge) element count.repeats below in
      record {
        holds = λ later goes n inputs rows is.
            let here = fact.holds later goes n inputs rows is in
            let first = other_first n timing edge.from block period ((attributes_of diagram).period_at block) lags
            (places.first block last) (places.first block element)
            (rows (places.after edge.from edge.from_port (repeated source last)))
            (rows (places.offered block port last))
            (λ p lag e h. sym (spread.first block element ∙ ap (λ (w : ℕ). places.first block (min element (w - 1))) (sym (count.late p lag e h)))) here in
            subst (λ (k : ℕ). IsOffered n timing edge.from period block
            ((attributes_of diagram).period_at block) lags (places.first block element)
            (rows (places.after edge.from edge.from_port (repeated source element))) (rows k)) (sym net)
            (subst (λ (e : ℕ). IsOffered n timing edge.from period block
            ((attributes_of diagram).period_at block) lags (places.first block element)
            (rows (places.after edge.from edge.from_port e)) (rows (places.offered block port last)))
            (sym hub) first);
      }

-- the waves of the rows of a netlist with all its facts
pub facts_build : (diagram : Diagram) (timing : Timing) (places : Places) (hubs : ℕ) (now : Circuit)
    → LateAreWide diagram → HaveFacts diagram timing places hubs hubs now (length diagram.blocks)
    → (n : ℕ) (inputs : Inputs) (rows : Rows) → NetRows now n inputs rows
    → AreBuilt diagram (attributes_of diagram) timing n (waves_of places rows)
facts_build diagram timing places hubs now wide facts n inputs rows is = record {
  lines = λ block b port element edge at showing from to drives below.
      (all_lines diagram timing places hubs hubs now wide facts.spread facts.lines block b port element edge at showing from to drives below).holds now (goes_same hubs hubs now) n inputs rows is;
  enables = λ block b control at feeds. (facts.enables.each block b control at feeds).holds now (goes_same hubs hubs now) n inputs rows is;
  blocks = λ block b port element shown. (facts.elements.made block b port element (slice_get_within diagram.blocks block b shown.block_is) shown).holds now (goes_same hubs hubs now) n inputs rows is;
  pipelines = λ block b port element shown.
      (facts.elements.piped block b port element
      (slice_get_within diagram.blocks block b shown.block_is) shown).holds now
      (goes_same hubs hubs now) n inputs rows is;
}
