use Rattle.std.proofs.Common.{◌≡◌, ◌≤◌, ◌<◌, ℕ, Some, slice_get}
use Rattle.vl_replay.specs.declared.samplers.Sampler.{Sampler}
use Rattle.vl_replay.specs.inner.Play.{HasDelay}
use Rattle.vl_replay.proofs.playing.window_of.Given as goal

abbrev pub invariant-loop-sampler : goal.invariant-loop-sampler
invariant-loop-sampler l = record {
  most : l.earliest ≤ l.fn.delay;
  least : (place : ℕ) (sampler : Sampler) → slice_get l.samplers place ≡ Some sampler → place < l.sampler-index → l.earliest ≤ sampler.delay;
  met : l.earliest < l.fn.delay → HasDelay l.samplers l.earliest;
}
