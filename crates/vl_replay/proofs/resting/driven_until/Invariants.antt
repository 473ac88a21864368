use Rattle.std.proofs.Common.{◌≡◌, ◌≤◌, ◌<◌, ℕ, Some, slice_get}
use Rattle.vl_replay.specs.declared.drivers.Driver.{Driver}
use Rattle.vl_replay.specs.inner.Rest.{IsPast}
use Rattle.vl_replay.proofs.resting.driven_until.Given as goal

abbrev pub invariant-loop-k : goal.invariant-loop-k
invariant-loop-k l = record {
  past : (place : ℕ) (driver : Driver) → slice_get l.drivers place ≡ Some driver → place < l.k → IsPast l.samples l.from driver;
  near : l.from ≤ 5000000000;
}
