use Rattle.std.proofs.Common.{◌≡◌, ◌<◌, ℕ, true, false, All, length, replicate, refl, sym, ap, subst, ◌∙◌, add-one, arith}
use Rattle.dg_waves.specs.inner.Waves.{is_in}
use Rattle.dg_waves.specs.Rounds.{round, after_rounds}
use Rattle.dg_waves.proofs.WaveRounds.{between_first, written_back}
use Rattle.dg_waves.proofs.waves.after_rounds.Goals as goal

pub wave-requires : goal.wave-requires
wave-requires g c = record { between = rw (c.as_mut_slice.ensures.value, c.as_mut_slice-in-loop-k.ensures.value) c.loop-k.invariant.between }

pub loop-k-preserved : goal.loop-k-preserved
loop-k-preserved g c =
    let before = c.loop-k.invariant in
    let after = c.in_ok-wave.ensures in
    let values = written_back c.loop-k.values.len c.wave.new.values c.loop-k.values.items (after.between.size ∙ sym before.between.size ∙ sym c.loop-k.values.ok.0) in
    let marks = written_back c.loop-k.marks.len c.wave.new.marks c.loop-k.marks.items (after.between.marks_size ∙ sym before.between.marks_size ∙ sym c.loop-k.marks.ok.0) in
    record {
      values = values ∙ after.round ∙ ap (round (g.R.Round.next c.args.round.now))
          (c.as_mut_slice.ensures.value ∙ before.values)
          ∙ ap (λ n. after_rounds (g.R.Round.next c.args.round.now) n c.args.start.items)
          (sym (add-one c.loop-k.k));
      between = rw (values, marks) after.between;
    }

pub loop-k-init : goal.loop-k-init
loop-k-init g c =
    let waiting = c.in_ok-waiting.waiting.items in
    let count : c.len.result ≡ length c.args.start.items = omega (arith, c.len.ensures) in
    let marks : c.len-2.result ≡ length c.args.start.items = omega (arith, c.len-2.ensures) in
    let none : c.in_ok-marks.marks.items ≡ replicate (length c.args.start.items) false = rw (← marks) (c.in_ok-marks.ensures.items_if_clones_equal (λ y same. same)) in
    record {
      values = refl;
      between = between_first (g.R.Round.count c.args.round.now) (g.R.Round.IsValue c.args.round.now)
          (g.R.Round.next c.args.round.now) c.args.start.items waiting c.in_ok-marks.marks.items c.requires.size
          c.requires.fit
          (subst (λ (n : ℕ). All (λ block. block < n) waiting) count c.in_ok-waiting.ensures.there)
          (subst (λ (n : ℕ). (block : ℕ) → block < n → is_in block waiting ≡ true) count c.in_ok-waiting.ensures.all)
          none;
    }

pub returns-clause-fit : goal.returns-clause-fit
returns-clause-fit g c = c.loop-k.invariant.between.fit

pub returns-clause-values : goal.returns-clause-values
returns-clause-values g c =
    let all : c.loop-k.k ≡ c.args.rounds = omega (arith, c.loop-k-test.false, c.loop-k.auto.k-end) in
    c.loop-k.invariant.values ∙ ap (λ n. after_rounds (g.R.Round.next c.args.round.now) n c.args.start.items) all
