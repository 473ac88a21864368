use Rattle.std.proofs.Common.{◌≡◌, sym, subst}
use Rattle.fx_type.specs.declared.spec.TypeSpec.{TypeSpec}
use Rattle.dg_model.specs.TypeRounds.{sum_named}
use Rattle.dg_types.proofs.AccumSteps.{first_steps}
use Rattle.dg_types.proofs.typed_step.sum_named.Goals as goal

pub returns-in-SameFirst : goal.returns-in-SameFirst
returns-in-SameFirst c =
    subst (λ (spec : TypeSpec). c.stepped-in-SameFirst.result ≡ sum_named spec c.args.terms.now) (sym c.in-SameFirst.is)
    (first_steps c.args.terms.now _ c.stepped-in-SameFirst.result c.requires.some c.stepped-in-SameFirst.ensures)
