use Rattle.std.proofs.Common.{◌≡◌, ◌<◌, ℤ, List, length, refl, sym, ap, subst, ◌∙◌, arith}
use Rattle.dg_response.specs.Responding.{IsRowAt}
use Rattle.fx_tables.specs.RowText.{periods_of}
use Rattle.cmd_simulate.proofs.Simulations.{took_line, took_none, took_part_of_line}
use Rattle.cmd_simulate.proofs.simulation.put_lines.Goals as goal

pub returns-in-Err-clause-cut : goal.returns-in-Err-clause-cut
returns-in-Err-clause-cut g c =
    let checked = c.args.checked.now in
    let rows = c.args.rows.now in
    let t = c.loop-sample.sample in
    let below : t < rows.lines = omega (arith, c.loop-sample-test.true, c.count-sample-end.ensures) in
    let at = subst (λ (numbers : List ℤ). IsRowAt checked rows t numbers) (sym c.row.ensures) c.step.ensures.row in
    took_part_of_line checked rows (periods_of c.args.text.now) t (periods_of c.loop-sample.text) c.row.result.now c.line.result.now
    (g.K.Sink.taken c.args.out.now) (g.K.Sink.taken c.loop-sample.out)
    (g.K.Sink.taken c.put_all.new.sink) c.loop-sample.invariant.periods at c.line.ensures.line below
    c.loop-sample.invariant.taken c.in-Err.ensures.cut

pub loop-sample-init : goal.loop-sample-init
loop-sample-init g c = record {
  before = c.requires.before;
  wide = c.requires.wide;
  periods = refl;
  taken = took_none c.args.checked.now c.args.rows.now (periods_of c.args.text.now) (g.K.Sink.taken c.args.out.now);
  later = omega arith;
}

pub loop-sample-preserved : goal.loop-sample-preserved
loop-sample-preserved g c =
    let checked = c.args.checked.now in
    let rows = c.args.rows.now in
    let is = c.loop-sample.invariant in
    let kept : periods_of c.line.follows.lender-at-none ≡ periods_of c.loop-sample.text = c.line.follows.holds-at-none in
    let at = subst (λ (numbers : List ℤ). IsRowAt checked rows c.loop-sample.sample numbers) (sym c.row.ensures) c.step.ensures.row in
    record {
      before = c.step.ensures.before;
      wide = c.step.ensures.wide ∙ is.wide ∙ sym (ap length kept);
      periods = kept ∙ is.periods;
      taken = took_line checked rows (periods_of c.args.text.now) c.loop-sample.sample (periods_of c.loop-sample.text) c.row.result.now c.line.result.now
          (g.K.Sink.taken c.args.out.now) (g.K.Sink.taken c.loop-sample.out) (g.K.Sink.taken c.put_all.new.sink) is.periods at c.line.ensures.line is.taken c.in_default.ensures.whole;
      later = omega (arith, is.later, c.put_all.ensures.later);
    }
