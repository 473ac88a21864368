use Rattle.std.proofs.Common.{◌≡◌, ◌<◌, ℕ, Some, slice_get}
use Rattle.fx_type.specs.declared.kind.FxType.{FxType}
use Rattle.fx_type.specs.FxType.{width_of, is_signed}
use Rattle.hw_net.specs.Netlist.{HasWord}
use Rattle.tests_numbers.proofs.nets.have_words.Given as goal

abbrev pub invariant-loop-k : goal.invariant-loop-k
invariant-loop-k l = (input number : ℕ) (type : FxType) → input < l.k → slice_get l.args input ≡ Some number
    → slice_get l.types input ≡ Some type → HasWord l.nets number (width_of type) (is_signed type)
