use Rattle.std.proofs.Common.{◌∙◌}
use Rattle.fx_type.specs.declared.kind.FxType.{FxType}
use Rattle.fx_type.specs.FullType.{IsFullProduct, IsUnion}
use Rattle.fx_type.specs.FullTypeOf.{full_product_of, union_of}
use Rattle.dg_types.proofs.SumTypes.{given_is}
use Rattle.dg_types.proofs.typed_step.pair_type.Goals as goal

pub returns-in-Product : goal.returns-in-Product
returns-in-Product c =
    let law = c.full_product_is_one.ensures c.args.left c.args.right in
    rw c.in-Product.is (c.ok.ensures.value
    ∙ given_is (full_product_of c.args.left c.args.right)
    (IsFullProduct c.args.left c.args.right) c.full_product.result (λ type. (law type).0)
    (λ type. (law type).1) c.full_product.ensures.ok c.full_product.ensures.too_wide)

pub returns-in-Union : goal.returns-in-Union
returns-in-Union c =
    let law = λ (type : FxType). c.union_is_one.ensures c.args.left c.args.right type c.requires.left c.requires.right in
    rw c.in-Union.is
    (c.ok-in-Union.ensures.value ∙ given_is (union_of c.args.left c.args.right)
    (IsUnion c.args.left c.args.right) c.union.result (λ type. (law type).0)
    (λ type. (law type).1) c.union.ensures.ok c.union.ensures.too_wide)
