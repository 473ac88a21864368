use Rattle.fx_type.proofs.Functions.{full_product_one}
use Rattle.fx_type.proofs.laws.full_product_is_one.Goals as goal

pub returns : goal.returns
returns c = full_product_one
