use Rattle.std.proofs.Common.{◌≡◌, take, length}
use Rattle.std.specs.Prelude.{zip}
use Rattle.dg_model.proofs.sums.sum_type.Given as goal

abbrev pub invariant-loop-input : goal.invariant-loop-input
invariant-loop-input l = record {
  long : length l.terms ≡ 32;
  are : take l.input l.terms ≡ take l.input (zip l.signs l.types);
}
