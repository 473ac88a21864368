use Rattle.std.proofs.Common.{◌≡◌, ℕ, inl, inr, length, get_or, ap, sym, ◌∙◌, subst, false, arith}
use Rattle.std.proofs.lemmas.Bool.{false≢true, cases_lt}
use Rattle.std.proofs.lemmas.Option.{same_Some, slice_get-get_or}
use Rattle.std.specs.Prelude.{slice_get}
use Rattle.hw_latency.specs.Cone.{is_marked}
use Rattle.hw_latency.specs.inner.Marks.{AreUnmarked}
use Rattle.hw_latency.proofs.fed.is_any_marked.Goals as goal

pub bounds-marks-source : goal.bounds-marks-source
bounds-marks-source c = c.requires.below c.loop-source.source-index
    (get_or c.args.row.now c.loop-source.source-index 0)
    (slice_get-get_or c.args.row.now c.loop-source.source-index 0 c.loop-source-test.true)

pub loop-source-init : goal.loop-source-init
loop-source-init c = record { unmarked = λ place source below at. absurd (omega (arith, below)) }

pub loop-source-preserved : goal.loop-source-preserved
loop-source-preserved c = record {
  unmarked = λ place source below at. elim (cases_lt place c.loop-source.source-index) [
    | inl less ↦ c.loop-source.invariant.unmarked place source less at
    | inr past ↦
        let here : c.loop-source.source-index ≡ place = omega (arith, below, past) in
        let own : get_or c.args.row.now c.loop-source.source-index 0 ≡ source =
        same_Some (get_or c.args.row.now c.loop-source.source-index 0) source
        (sym (slice_get-get_or c.args.row.now c.loop-source.source-index 0 c.loop-source-test.true)
        ∙ ap (slice_get c.args.row.now) here ∙ at) in
        subst (λ (s : ℕ). is_marked c.args.marks.now s ≡ false) own c.if-marks-source.false
  ];
}

pub returns-then-marks-source-clause-yes : goal.returns-then-marks-source-clause-yes
returns-then-marks-source-clause-yes c = λ is. record {
  place = c.loop-source.source-index;
  source = get_or c.args.row.now c.loop-source.source-index 0;
  at = slice_get-get_or c.args.row.now c.loop-source.source-index 0 c.loop-source-test.true;
  marked = c.if-marks-source.true;
}

pub returns-then-marks-source-clause-no : goal.returns-then-marks-source-clause-no
returns-then-marks-source-clause-no c = λ e. absurd (false≢true (sym e))

pub returns-clause-yes : goal.returns-clause-yes
returns-clause-yes c = λ e. absurd (false≢true e)

pub returns-clause-no : goal.returns-clause-no
returns-clause-no c = λ e.
    let all : c.loop-source.source-index ≡ length c.args.row.now = omega (arith, c.loop-source-test.false, c.loop-source.auto.source-index-end) in
    subst (AreUnmarked c.args.marks.now c.args.row.now) all c.loop-source.invariant
