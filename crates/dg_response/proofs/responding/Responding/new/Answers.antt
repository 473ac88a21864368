use Rattle.std.proofs.Common.{◌≡◌, length, ◌∙◌, arith}
use Rattle.dg_response.proofs.SampleSteps.{before-first}
use Rattle.dg_response.proofs.responding.Responding.new.Goals as goal

pub returns : goal.returns
returns c =
    let wide : length c.in_ok-row.row.items ≡ c.args.outputs = omega (arith, c.in_ok-row.row.ok.0, c.in_ok-row.ensures.len) in
    before-first c.args.checked.now c.args.rows.now (record { sim = c.in_ok-sim.sim; row = c.in_ok-row.row }) c.requires.columns c.requires.fits c.requires.few (wide ∙ c.requires.outputs)
    c.in_ok-sim.ensures.sim c.in_ok-sim.ensures.stands
