use Rattle.std.proofs.Common.{take}
use Rattle.dg_types.specs.inner.TypeFit.{IsLowered}
use Rattle.dg_types.proofs.typed_param.greatest_fit.Given as goal

abbrev pub invariant-loop-decimal : goal.invariant-loop-decimal
invariant-loop-decimal l = IsLowered (take l.decimal-index l.value) l.signed l.width l.steps
