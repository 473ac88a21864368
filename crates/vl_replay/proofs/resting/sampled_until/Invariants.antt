use Rattle.std.proofs.Common.{◌≡◌, ◌≤◌, ◌<◌, ◌+◌, ℕ, Some, slice_get}
use Rattle.vl_replay.specs.declared.samplers.Sampler.{Sampler}
use Rattle.vl_replay.proofs.resting.sampled_until.Given as goal

abbrev pub invariant-loop-sampler : goal.invariant-loop-sampler
invariant-loop-sampler l = record {
  past : (place : ℕ) (sampler : Sampler) → slice_get l.samplers place ≡ Some sampler → place < l.sampler-index → sampler.delay < l.delay → l.samples + sampler.delay ≤ l.from;
  near : l.from ≤ 5000000000;
}
