use Rattle.std.proofs.Common.{◌∙◌}
use Rattle.fx_type.specs.declared.kind.FxType.{FxType}
use Rattle.fx_type.specs.FullType.{IsFullSum}
use Rattle.fx_type.specs.FullTypeOf.{full_sum_of}
use Rattle.dg_types.proofs.SumTypes.{given_is}
use Rattle.dg_types.proofs.typed_step.sum_of.Goals as goal

pub returns : goal.returns
returns c =
    let terms = c.args.terms.now in
    let law = λ (type : FxType). c.full_sum_is_one.ensures terms type c.requires.valid in
    c.ok.ensures.value ∙ given_is (full_sum_of terms) (IsFullSum terms) c.full_sum.result (λ type. (law type).0) (λ type. (law type).1) c.full_sum.ensures.ok c.full_sum.ensures.too_wide
