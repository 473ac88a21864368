use Rattle.std.proofs.Common.{ℕ, List, inl, inr, ◌∙◌, subst}
use Rattle.cmd_sample.specs.ModelText.{sample_model}
use Rattle.cmd_sample.specs.Stimulus.{sample_stimulus}
use Rattle.cmd_simulate.specs.Simulating.{IsSimulationIn}
use Rattle.fx_top.proofs.Samples.{unfit}
use Rattle.fx_top.proofs.Simulations.{is-simulation}
use Rattle.fx_top.proofs.sample.sample_response.Goals as goal

pub returns-in-Err-Bad-clause-made : goal.returns-in-Err-Bad-clause-made
returns-in-Err-Bad-clause-made c =
    inr (
      unfit c.args.number c.in-Err-Bad.field-0-0 c.in-Err-Bad.field-0-1 c.args.checked.now.diagram
          c.bytes.result.now _ c.requires.model
          (c.bytes.ensures ∙ c.in_ok-stimulus.ensures) c.in-Err-Bad.field-0-is c.in-Err-Bad.ensures.refused,
      c.new.ensures,
    )

pub returns-clause-made : goal.returns-clause-made
returns-clause-made c =
    let made = subst (λ (text : List ℕ). IsSimulationIn c.args.checked.now text c.in-Ok.simulation) (c.bytes.ensures ∙ c.in_ok-stimulus.ensures) c.in-Ok.ensures.made in
    inl (is-simulation c.args.checked.now (sample_model c.args.number) (sample_stimulus c.args.number) c.in-Ok.simulation c.requires.model made c.in_ok-lines.lines
    (c.in_ok-lines.ensures.each made.response.lines made.response.shown))
