use Rattle.std.proofs.Common.{List, slice_get, ap, subst, ◌∙◌, arith}
use Rattle.vl_replay.specs.declared.drivers.Driver.{Driver}
use Rattle.vl_replay.specs.declared.samplers.Sampler.{Sampler}
use Rattle.vl_replay.specs.inner.Rest.{IsPast}
use Rattle.vl_replay.proofs.Rest.{past-later}
use Rattle.vl_replay.proofs.resting.quiet_from.Goals as goal

pub returns-clause-quiet : goal.returns-clause-quiet
returns-clause-quiet c =
    let samples = c.count-samples.ensures in
    let most = c.max.ensures in
    record {
      drivers = λ k driver e. subst (λ lines. IsPast lines c.max.result driver) samples
          (past-later c.count-samples.result c.driven_until-driven.result c.max.result driver (omega (arith, most))
          (c.driven_until-driven.ensures.past k driver (ap (λ (xs : List Driver). slice_get xs k) c.as_slice.ensures.value ∙ e)));
      samplers = λ place sampler e less.
          let past = c.sampled_until-sampled.ensures.past place sampler (ap (λ (xs : List Sampler). slice_get xs place) c.as_slice-2.ensures.value ∙ e) less in
          omega (arith, past, samples, most);
    }
