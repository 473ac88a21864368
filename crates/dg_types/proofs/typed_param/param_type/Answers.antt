use Rattle.std.proofs.Common.{◌∙◌}
use Rattle.dg_types.proofs.GreatestFrac.{by_fixed, by_internal, by_same, by_auto}
use Rattle.dg_types.proofs.typed_param.param_type.Goals as goal

pub returns-in-Fixed-clause-value : goal.returns-in-Fixed-clause-value
returns-in-Fixed-clause-value c = by_fixed c.args.value.now c.args.spec c.in-Fixed.kind c.args.input c.in-Fixed.is

pub returns-in-Internal-clause-value : goal.returns-in-Internal-clause-value
returns-in-Internal-clause-value c = c.internal_param.ensures.value ∙ by_internal c.args.value.now c.args.spec c.args.input c.in-Internal.is

pub returns-in-SameFirst-clause-value : goal.returns-in-SameFirst-clause-value
returns-in-SameFirst-clause-value c = by_same c.args.value.now c.args.spec c.args.input c.in-SameFirst.is

pub returns-in-Auto-clause-value : goal.returns-in-Auto-clause-value
returns-in-Auto-clause-value c = by_auto c.args.value.now c.args.spec c.args.input c.in-Auto.is
