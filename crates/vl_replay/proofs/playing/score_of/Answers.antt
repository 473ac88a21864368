use Rattle.std.proofs.Common.{ℕ, List, map, ap, subst, sym, ◌∙◌}
use Rattle.vl_ast.specs.Driven.{output_ports}
use Rattle.vl_replay.specs.declared.samplers.Sampler.{Sampler}
use Rattle.vl_replay.specs.inner.Play.{AreNear, IsDelay, IsWindow}
use Rattle.vl_replay.specs.inner.Samplers.{sampler_of}
use Rattle.vl_replay.proofs.Scores.{samplers-near}
use Rattle.vl_replay.proofs.playing.score_of.Goals as goal

pub delay_of-delay-requires : goal.delay_of-delay-requires
delay_of-delay-requires c = record {
  late = subst AreNear (sym c.as_slice.ensures.value) (samplers-near c.clocks_of-cycles.result (output_ports c.args.source.now) _ c.in_ok-samplers.ensures);
}

pub window_of-window-requires : goal.window_of-window-requires
window_of-window-requires c = record { late = c.delay_of-delay.ensures.few }

pub returns-clause-score : goal.returns-clause-score
returns-clause-score c =
    let delay = c.delay_of-delay.result in
    let window = c.window_of-window.result in
    record {
      sound = c.requires.sound;
      columns = c.requires.columns;
      cycles = c.clocks_of-cycles.ensures.is;
      drivers = c.in_ok-drivers.ensures;
      samplers = c.in_ok-samplers.ensures ∙ ap (λ (cycles : ℕ). map (sampler_of cycles) (output_ports c.args.source.now)) c.clocks_of-cycles.ensures.is;
      delay = subst (λ (samples : ℕ). IsDelay c.in_ok-samplers.samplers.items samples delay) c.count.ensures
          (subst (λ (xs : List Sampler). IsDelay xs c.count.result delay) c.as_slice.ensures.value c.delay_of-delay.ensures);
      window = subst (λ (samples : ℕ). IsWindow c.in_ok-samplers.samplers.items samples delay window) c.count-2.ensures
          (subst (λ (xs : List Sampler). IsWindow xs c.count-2.result delay window) c.as_slice-2.ensures.value c.window_of-window.ensures);
    }
