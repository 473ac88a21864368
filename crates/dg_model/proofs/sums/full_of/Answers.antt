use Rattle.fx_type.specs.FullType.{IsFullSum}
use Rattle.dg_model.proofs.SumTerms.{found-ok}
use Rattle.dg_model.proofs.sums.full_of.Goals as goal

pub unwrap-requires : goal.unwrap-requires
unwrap-requires c = found-ok (IsFullSum c.args.terms.now) c.full_sum.result c.full_sum.ensures.too_wide c.requires.full

pub returns : goal.returns
returns c = rw c.unwrap.ensures at c.full_sum.ensures.ok
