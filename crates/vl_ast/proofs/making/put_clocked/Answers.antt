use Rattle.std.proofs.Common.{[], ◌∷◌, ap}
use Rattle.vl_ast.specs.declared.expressions.Sized.{Sized}
use Rattle.vl_ast.specs.declared.modules.ModItem.TheVariants.{Always}
use Rattle.vl_ast.proofs.Listings.{lists-as}
use Rattle.vl_ast.proofs.making.put_clocked.Goals as goal

pub returns : goal.returns
returns c text number test taken is name condition value =
    lists-as (ap (λ (n : Sized). Always text n test taken ∷ []) is) (c.put.ensures _ (c.clocked_item.ensures text test taken name condition value))
