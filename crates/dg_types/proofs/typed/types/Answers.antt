use Rattle.std.proofs.lemmas.Result.{IfOk-weaker}
use Rattle.dg_model.specs.TypeRule.{KeepsTypes}
use Rattle.dg_types.proofs.typed.types.Goals as goal

pub returns-clause-results : goal.returns-clause-results
returns-clause-results c = IfOk-weaker c.types_by-types.result _ _ (λ types are. are.results) c.types_by-types.ensures.found

pub returns-clause-params : goal.returns-clause-params
returns-clause-params c = IfOk-weaker c.types_by-types.result _ _ (λ types are. are.params) c.types_by-types.ensures.found

pub returns-clause-kept : goal.returns-clause-kept
returns-clause-kept c = IfOk-weaker c.types_by-types.result _ (λ _. KeepsTypes c.args.diagram.now) (λ types are. are.kept) c.types_by-types.ensures.found
