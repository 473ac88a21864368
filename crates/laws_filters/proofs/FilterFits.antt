-- The blocks of a filter in a diagram that keeps the rules fit one another.
use Rattle.fx_type.specs.Laws.{FullProductIsOne}
use Rattle.dg_tables.specs.Laws.{SignalsFit}
use Rattle.hw_sched.specs.Laws.{MovingHavePeriods}
use Rattle.laws_filters.specs.Laws.{FiltersFit, FittingConvolve, FiltersConvolve}
use Rattle.laws_filters.proofs.Rates.{delays_together, sum_together, products_together}
use Rattle.laws_filters.proofs.Types.{delays_typed, products_full}
use Rattle.laws_filters.proofs.Widths.{tap_wide, product_wide, sum_wide}

pub filters_fit : MovingHavePeriods → SignalsFit → FullProductIsOne → FiltersFit
filters_fit moving fit fulls diagram order first taps sum enable reset ordered filter =
    let checked = ordered.checked in
    record {
      alike = record {
        widths = tap_wide diagram checked first taps sum enable reset filter;
        types = delays_typed diagram checked order ordered fit fulls first taps sum enable reset filter;
        periods = delays_together diagram checked moving first taps sum enable reset filter;
      };
      widths = product_wide diagram checked first taps sum enable reset filter;
      width = sum_wide diagram checked first taps sum enable reset filter;
      types = products_full diagram checked order ordered fit fulls first taps sum enable reset filter;
      delays = sum_together diagram checked moving first taps sum enable reset filter;
      products = products_together diagram checked moving first taps sum enable reset filter;
    }

pub filters_convolve : FiltersFit → FittingConvolve → FiltersConvolve
filters_convolve fit convolve diagram order stimulus n table first taps sum enable reset element t solved filter =
    convolve diagram order stimulus n table first taps sum enable reset element t solved filter (fit diagram order first taps sum enable reset solved.ordered filter)
