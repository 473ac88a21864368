use Rattle.std.proofs.Common.{ℕ, false, List, ◌∷◌, ap, ◌∙◌, subst, refl, rules}
use Rattle.hw_latency.specs.Weight.{samples}
use Rattle.hw_names.specs.Names.{undoubled, element_name, port_name, IsGiven}
use Rattle.hw_names.specs.Taken.{AreTaken}
use Rattle.hw_names.proofs.NameSets.{path_is}
use Rattle.hw_build.proofs.ports.port_of.Goals as goal

pub returns : goal.returns
returns c = record {
  net = refl;
  small = search rules;
  period = c.samples-period.ensures ∙ ap samples c.period.ensures;
  latency_is = refl;
  named = λ list are.
      subst (λ (path : List ℕ). IsGiven list (port_name (element_name (undoubled false path) c.args.width c.args.element)) c.in_ok-name.name × AreTaken c.port.new.self (c.in_ok-name.name ∷ list))
      (c.bytes.ensures ∙ c.in_ok-path.ensures ∙ path_is c.args.checked.now.diagram c.args.block c.block_at.result.now c.block_at.ensures) (c.in_ok-name.ensures list are);
}
