use Rattle.std.proofs.Common.{◌≡◌, ◌+◌, ◌++◌, ℕ, suc, ℤ, [], ◌∷◌, length, to_z, of_z, arith, refl, ap, sym, subst, ◌∙◌}
use Rattle.std.specs.Int.{w128}
use Rattle.std.proofs.lemmas.Int.{to_z-of_z}
use Rattle.hw_net.specs.declared.netlist.NetKind.{NetKind}
use Rattle.hw_net.specs.Growing.{with_net}
use Rattle.hw_build.specs.inner.Series.{AreSeries, enables_by, register_of, taken_by}
use Rattle.hw_build.proofs.Series.{register_form, series_begun, series_more}
use Rattle.hw_build.proofs.states.put_series.Goals as goal

pub loop-step-init : goal.loop-step-init
loop-step-init c =
    let e = to_z-of_z w128 c.args.first c.ranges.first in (
      subst (λ (first : ℤ). AreSeries (register_of c.args.enabled c.args.frame c.args.slot first) c.args.net.now
          c.counter.new.self (enables_by c.args.enabled ++ c.args.from ∷ []) c.args.frame c.args.word c.args.from
          c.in-Ok.begin 0) (sym e)
          (series_begun (register_of c.args.enabled c.args.frame c.args.slot c.args.first) c.args.frame
          (enables_by c.args.enabled) c.args.word c.args.from
          (register_form c.args.enabled c.args.frame c.args.slot c.args.first c.args.word.width
          c.args.word.signed c.requires.period c.requires.first) c.requires.is_word c.args.net.now
          c.counter.new.self c.in_ok-counter.counter c.in-Ok.begin c.requires.period
          c.in_ok-counter.ensures.counted
          c.in_ok-counter.ensures.found c.requires.from (c.in-Ok.ensures.1 ∙ ap length c.nets.ensures)),
      refl,
    )

pub loop-step-preserved : goal.loop-step-preserved
loop-step-preserved c =
    let e = to_z-of_z w128 c.args.first c.ranges.first in
    let was = subst (λ (first : ℤ). AreSeries
    (register_of c.args.enabled c.args.frame c.args.slot first) c.args.net.now c.loop-step.net
    (enables_by c.args.enabled ++ c.args.from ∷ []) c.args.frame c.args.word c.args.from c.in-Ok.begin
    c.loop-step._step) e c.loop-step.invariant.0 in
    let kind : c.register-kind.result ≡ register_of c.args.enabled c.args.frame c.args.slot c.args.first c.loop-step.last = rw (← e) c.register-kind.ensures in
    let more = series_more (register_of c.args.enabled c.args.frame c.args.slot c.args.first) c.args.frame
    (enables_by c.args.enabled) c.args.word c.args.from
    (register_form c.args.enabled c.args.frame c.args.slot c.args.first c.args.word.width c.args.word.signed
    c.requires.period c.requires.first) c.requires.is_word c.args.net.now c.loop-step.net c.add.new.self
    c.in-Ok.begin c.loop-step._step c.loop-step.last
    c.requires.enabled was c.loop-step.invariant.1
    (subst (λ (kind : NetKind). c.add.new.self
    ≡ with_net c.loop-step.net (record {
      signed = c.args.word.signed;
      width = c.args.word.width;
      kind =
          kind;
    })) kind c.in_ok-last.ensures.grown) in
    let next : suc c.loop-step._step ≡ c.loop-step._step + 1 = omega arith in
    let last : c.in_ok-last.last ≡ taken_by c.args.from c.in-Ok.begin (suc c.loop-step._step) = c.in_ok-last.ensures.number ∙ was.size in (
      subst (λ (k : ℕ). AreSeries (register_of c.args.enabled c.args.frame c.args.slot
          (to_z w128 (of_z w128 c.args.first))) c.args.net.now c.add.new.self
          (enables_by c.args.enabled ++ c.args.from ∷ []) c.args.frame c.args.word c.args.from c.in-Ok.begin k)
          next
          (subst (λ (first : ℤ). AreSeries (register_of c.args.enabled c.args.frame c.args.slot first)
          c.args.net.now c.add.new.self (enables_by c.args.enabled ++ c.args.from ∷ []) c.args.frame c.args.word
          c.args.from c.in-Ok.begin (suc c.loop-step._step)) (sym e) more),
      subst (λ (k : ℕ). c.in_ok-last.last ≡ taken_by c.args.from c.in-Ok.begin k) next last,
    )

pub returns : goal.returns
returns c =
    let e = to_z-of_z w128 c.args.first c.ranges.first in
    let done : c.loop-step._step ≡ c.args.count = omega (arith, c.loop-step.auto._step-end, c.loop-step-test.false) in
    record {
      are = subst (λ (n : ℕ). AreSeries (register_of c.args.enabled c.args.frame c.args.slot c.args.first)
          c.args.net.now c.loop-step.net (enables_by c.args.enabled ++ c.args.from ∷ []) c.args.frame c.args.word
          c.args.from c.in-Ok.begin n) done (subst
          (λ (first : ℤ). AreSeries (register_of c.args.enabled c.args.frame c.args.slot first)
          c.args.net.now c.loop-step.net (enables_by c.args.enabled ++ c.args.from ∷ []) c.args.frame
          c.args.word c.args.from c.in-Ok.begin c.loop-step._step) e c.loop-step.invariant.0);
      last_is = subst (λ (n : ℕ). c.loop-step.last ≡ taken_by c.args.from c.in-Ok.begin n) done c.loop-step.invariant.1;
      word_is = refl;
    }
