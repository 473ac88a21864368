use Rattle.std.proofs.Common.{ℕ, List, refl, sym, ◌∙◌}
use Rattle.std.specs.List.{list_all}
use Rattle.std.proofs.lemmas.List.{at_drop_all}
use Rattle.dg_model.specs.Periods.{is_unchanging}
use Rattle.dg_rates.specs.inner.Steps.{known_of}
use Rattle.dg_rates.proofs.rounds.all_rest.Goals as goal

pub loop-source-init : goal.loop-source-init
loop-source-init c = refl

pub returns : goal.returns
returns c =
    sym (at_drop_all (λ (rest : List ℕ). list_all is_unchanging (known_of c.args.values.now rest)) c.args.sources.now c.loop-source.source-index c.loop-source-test.false)
    ∙ c.loop-source.invariant
