use Rattle.std.proofs.Common.{◌≡◌, ◌≤◌, ◌<◌, ℕ, Some, slice_get}
use Rattle.vl_ast.specs.Attributes.{most_latency}
use Rattle.vl_replay.specs.declared.samplers.Sampler.{Sampler}
use Rattle.vl_replay.specs.inner.Play.{HasDelay}
use Rattle.vl_replay.proofs.playing.delay_of.Given as goal

abbrev pub invariant-loop-sampler : goal.invariant-loop-sampler
invariant-loop-sampler l = record {
  few : l.delay ≤ most_latency;
  most : (place : ℕ) (sampler : Sampler) → slice_get l.samplers place ≡ Some sampler → place < l.sampler-index → sampler.delay ≤ l.delay;
  met : 0 < l.delay → HasDelay l.samplers l.delay;
}
