use Rattle.std.proofs.Common.{◌≡◌, ℕ, ◌+◌, ℤ, List, length, refl, sym, ap, subst, ◌∙◌}
use Rattle.dg_response.specs.Responding.{IsRowAt}
use Rattle.fx_tables.specs.RowText.{periods_of}
use Rattle.cmd_simulate.specs.Simulating.{AreLines}
use Rattle.cmd_simulate.proofs.Simulations.{more_lines, no_lines}
use Rattle.cmd_simulate.proofs.simulation.lines_of.Goals as goal

pub loop-sample-init : goal.loop-sample-init
loop-sample-init c =
    let checked = c.args.checked.now in
    let rows = c.args.rows.now in
    let periods = periods_of c.args.text.now in record {
      before = c.requires.before;
      wide = c.requires.wide;
      periods = refl;
      lines = subst (λ (text : List ℕ). AreLines checked rows periods 0 text) (sym c.new-lines.ensures.items) (no_lines checked rows periods);
    }

pub loop-sample-preserved : goal.loop-sample-preserved
loop-sample-preserved c =
    let checked = c.args.checked.now in
    let rows = c.args.rows.now in
    let periods = periods_of c.args.text.now in
    let t = c.loop-sample.sample in
    let is = c.loop-sample.invariant in
    let kept : periods_of c.line.follows.lender-at-none ≡ periods_of c.loop-sample.text = c.line.follows.holds-at-none in
    let at = subst (λ (numbers : List ℤ). IsRowAt checked rows t numbers) (sym c.row.ensures) c.step.ensures.row in
    let more = more_lines checked rows periods t (periods_of c.loop-sample.text) c.row.result.now c.line.result.now c.loop-sample.lines.items is.periods at c.line.ensures.line is.lines in record {
      before = c.step.ensures.before;
      wide = c.step.ensures.wide ∙ is.wide ∙ sym (ap length kept);
      periods = kept ∙ is.periods;
      lines = subst (λ (text : List ℕ). AreLines checked rows periods (t + 1) text) (sym c.in_ok-extend_from_slice.ensures.items) more;
    }
