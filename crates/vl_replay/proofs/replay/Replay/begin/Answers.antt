use Rattle.std.proofs.Common.{◌≡◌, ◌≤◌, ◌+◌, ◌*◌, ℤ, ℕ, List, Ok, Err, length, refl, ap, sym, subst, ◌∙◌, arith}
use Rattle.std.specs.Prelude.{IfOk, OnOk, Result}
use Rattle.std.proofs.Math.Nat.{mul-le-mul_right}
use Rattle.std.proofs.lemmas.List.{with_items_is}
use Rattle.vl_eval.specs.Machine.{source_of}
use Rattle.vl_replay.specs.inner.Play.{IsPlayed}
use Rattle.vl_replay.proofs.Scores.{samplers-many}
use Rattle.vl_replay.proofs.replay.Replay.begin.Goals as goal

on-ok : {T E P Q : Type 0} (result : Result T E) → (P → Q) → IfOk result (λ done. P) → OnOk result Q
on-ok (Ok done) more is = more is
on-ok (Err wanting) more is = tt

always : {T E P : Type 0} (result : Result T E) → P → OnOk result P
always (Ok done) is = is
always (Err wanting) is = tt

pub overflow_mul-self : goal.overflow_mul-self
overflow_mul-self c =
    let replay = c.args.self.now in
    let many = c.len-2.ensures ∙ replay.score.samplers.ok.0 ∙ samplers-many (source_of replay.machine) replay.score c.requires.score in
    let few = c.requires.outputs in
    let le : replay.score.window * c.len-2.result ≤ 16777217 * c.len-2.result = mul-le-mul_right c.len-2.result c.requires.score.window.few in
    omega (arith, le, many, few)

pub play_ahead-requires : goal.play_ahead-requires
play_ahead-requires c =
    let replay = c.args.self.now in
    let score = replay.score in
    record {
      begins = record {
        ready = c.requires.ready;
        is = c.requires.score;
        row = c.requires.row;
        some = c.requires.score.window.some;
        room = c.deref_mut-2.ensures.len ∙ c.in_ok-resize-2.ensures.len ∙ ap (λ (n : ℕ). replay.score.window * n) (c.len-2.ensures ∙ score.samplers.ok.0);
        wide = c.deref_mut.ensures.len ∙ c.in_ok-resize.ensures.len ∙ c.len.ensures ∙ score.drivers.ok.0;
      };
      few = c.requires.few;
      late = c.requires.score.delay.few;
    }

pub returns-clause-stands : goal.returns-clause-stands
returns-clause-stands c =
    let replay = c.args.self.now in
    let score = replay.score in
    let bits = c.resize.new.self in
    let cells = c.resize-2.new.self in
    let many : length c.play_ahead.new.bits ≡ bits.len = c.play_ahead.auto.bits ∙ c.deref_mut.ensures.len in
    let long : length c.play_ahead.new.cells ≡ cells.len = c.play_ahead.auto.cells ∙ c.deref_mut-2.ensures.len in
    let first : score.delay ≡ 0 + score.delay = omega arith in
    on-ok c.play_ahead.result
    (λ (played : IsPlayed score replay.score.window (score.delay * score.cycles) c.play_ahead.new.machine c.play_ahead.new.cells). record {
      few = c.requires.few;
      wide = ap length (with_items_is bits c.play_ahead.new.bits many) ∙ many ∙ c.in_ok-resize.ensures.len ∙ c.len.ensures ∙ score.drivers.ok.0;
      played = subst (λ (items : List ℤ). IsPlayed score replay.score.window ((0 + score.delay) * score.cycles) c.play_ahead.new.machine items) (sym (with_items_is cells c.play_ahead.new.cells long))
          (subst (λ (n : ℕ). IsPlayed score replay.score.window (n * score.cycles) c.play_ahead.new.machine c.play_ahead.new.cells) first played);
    })
    c.play_ahead.ensures.played

pub returns-clause-source : goal.returns-clause-source
returns-clause-source c = always c.play_ahead.result c.play_ahead.ensures.source

pub returns-clause-stimulus : goal.returns-clause-stimulus
returns-clause-stimulus c = always c.play_ahead.result refl
