use Rattle.std.proofs.Common.{◌≡◌, ◌<◌, drop}
use Rattle.std.specs.Prelude.{IfSome}
use Rattle.std.specs.Option.{option_map}
use Rattle.dg_model.specs.Periods.{least_of, units_of}
use Rattle.dg_rates.specs.inner.Above.{least_units}
use Rattle.dg_rates.proofs.declared.least_declared.Given as goal

abbrev pub invariant-loop-block : goal.invariant-loop-block
invariant-loop-block l = record {
  least : least_of (option_map units_of l.least) (least_units (drop l.block-index l.blocks)) ≡ least_units l.blocks;
  above : IfSome l.least (λ decimal. 0 < decimal.digits);
}
