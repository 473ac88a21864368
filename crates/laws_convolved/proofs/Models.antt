-- The filters of a model convolve, in each table that solves its diagram.
use Rattle.std.proofs.Common.{ℕ, List}
use Rattle.fx_type.specs.declared.decimal.Decimal.{Decimal}
use Rattle.dg_model.specs.declared.diagram.Diagram.{Diagram}
use Rattle.dg_model.specs.Signals.{Stimulus, Table}
use Rattle.fir_block.specs.declared.filter.Fir.{Fir}
use Rattle.laws_filters.specs.Laws.{IsSolved}
use Rattle.mdl_build.specs.Filters.{FiltersStand}
use Rattle.laws_convolved.specs.Laws.{taps_of, IsFilterOf, FiltersAreFlat}
use Rattle.laws_convolved.specs.Shown.{ShowsFilter, ModelsConvolve}
use Rattle.laws_convolved.specs.inner.LawsBelow.{AreKnown}
use Rattle.laws_convolved.proofs.FilterEnds.{entry, y_hit, column_convolved}

shows : AreKnown → {diagram : Diagram} {order : List ℕ} {stimulus : Stimulus} {n : ℕ} {table : Table}
    → IsSolved diagram order stimulus n table → (other : Decimal) (first : ℕ) (fir : Fir)
    → IsFilterOf other diagram first fir → ShowsFilter other diagram first fir stimulus n table
shows known {diagram} {order} {stimulus} {n} {table} solved other first fir filter = record {
  filter = filter;
  convolves = λ element t below early hit.
      known.convolve diagram order stimulus n table first (taps_of other fir) filter.sum filter.enable filter.reset
      element t solved filter.blocks below early hit;
  outputs = λ to t output there feeds early hit.
      entry known solved filter.blocks filter.output to output there feeds t early
      (y_hit known solved filter.blocks filter.output to output there feeds t hit);
  columns = λ from to t input output joins early hit.
      column_convolved known solved filter.blocks filter.output from to input output joins t early hit;
}

pub models_convolve : AreKnown → FiltersAreFlat → FiltersStand → ModelsConvolve
models_convolve known flat stand bytes diagram model place fir at other order stimulus n table solved =
    let has = stand model.tree model.flat.nested model.flat.built place fir at other in
    let filter = flat other model.flat.nested diagram place fir has model.flat.flat model.flat.wired in
    shows known solved other _ fir filter
