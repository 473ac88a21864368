use Rattle.math_num.proofs.Residues.{product-congruent}
use Rattle.hw_run.proofs.operation.product.Goals as goal

pub returns : goal.returns
returns c = product-congruent c.args.a c.args.b c.ranges.a c.ranges.b
