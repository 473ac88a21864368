use Rattle.std.proofs.Common.{◌≡◌, ◌+◌, ◌*◌, ℤ, ℕ, List, length, ap, sym, subst, ◌∙◌}
use Rattle.std.proofs.lemmas.List.{with_items_is}
use Rattle.vl_ast.specs.declared.modules.Module.{Module}
use Rattle.vl_ast.specs.Driven.{output_ports}
use Rattle.vl_replay.specs.inner.Play.{IsPlayed}
use Rattle.vl_replay.proofs.Times.{more-clocks}
use Rattle.vl_replay.proofs.replay.Replay.advance.Goals as goal

pub returns-clause-stands : goal.returns-clause-stands
returns-clause-stands c =
    let replay = c.args.self.now in
    let score = replay.score in
    let stands = c.requires.stands in
    let later = c.play_sample.ensures.played in
    let long : length c.play_sample.new.cells ≡ replay.cells.len =
    later.have.long ∙ ap (λ (m : Module). score.window * length (output_ports m)) c.play_sample.ensures.source ∙ sym stands.played.have.long ∙ sym replay.cells.ok.0 in
    let many : length c.play_sample.new.bits ≡ replay.bits.len = c.play_sample.ensures.wide ∙ sym stands.wide ∙ sym replay.bits.ok.0 in
    record {
      few = stands.few;
      wide = ap length (with_items_is replay.bits c.play_sample.new.bits many) ∙ c.play_sample.ensures.wide;
      played = subst (λ (cells : List ℤ). IsPlayed score score.window
          ((c.args.sample + 1 + score.delay) * score.cycles) c.play_sample.new.machine cells)
          (sym (with_items_is replay.cells c.play_sample.new.cells long))
          (subst (λ (clocks : ℕ). IsPlayed score score.window clocks c.play_sample.new.machine c.play_sample.new.cells) (more-clocks c.args.sample score.delay score.cycles) later);
    }
