use Rattle.std.proofs.Common.{ap}
use Rattle.vl_ast.specs.declared.modules.ModItem.TheVariants.{Assign}
use Rattle.vl_ast.proofs.making.assignment.Goals as goal

pub returns : goal.returns
returns c text shown name value = ap (λ (pair : _). Assign pair.0 pair.1) (c.in_ok-name.ensures text shown name value)
