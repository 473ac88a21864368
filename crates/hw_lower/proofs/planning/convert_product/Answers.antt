use Rattle.std.proofs.Common.{◌≡◌, ℤ, ◌+ℤ◌, to_z, of_z, subst, sym}
use Rattle.std.specs.Int.{w16}
use Rattle.math_num.specs.Word.{IsWord}
use Rattle.fx_type.specs.declared.kind.FxType.{FxType}
use Rattle.fx_type.specs.FxType.{InRange, frac_of}
use Rattle.fx_type.proofs.Ranges.{frac_bounds, type-word}
use Rattle.dg_model.specs.Operation.{operation_of, IsConverted}
use Rattle.hw_lower.specs.declared.plan.Word.{Word}
use Rattle.hw_lower.specs.inner.PlanSteps.{word_of}
use Rattle.hw_lower.specs.inner.Spread.{IsScaled}
use Rattle.hw_lower.proofs.Arguments.{frac_sum}
use Rattle.hw_lower.proofs.Products.{product-is}
use Rattle.hw_lower.proofs.Multiplies.{multiplied-put, made-after}
use Rattle.hw_lower.proofs.planning.convert_product.Goals as goal
use Rattle.hw_lower.proofs.planning.convert_product.Goals.{After-frac-2}

-- the sum of the fracs is that of the full type
full_frac : (c : After-frac-2) → to_z w16 (of_z w16 (to_z w16 (of_z w16 c.frac.result) +ℤ to_z w16 (of_z w16 c.frac-2.result))) ≡ frac_of c.requires.full.0
full_frac c =
    let full = c.requires.full.0 in
    let is_full = c.requires.full.1 in
    let e : frac_of full ≡ c.frac.result +ℤ c.frac-2.result = rw (c.frac.ensures, c.frac-2.ensures) is_full.frac in
    frac_sum c.frac.result c.frac-2.result (frac_of full) (record { sfits = c.frac.type_inv })
    (record { sfits = c.frac-2.type_inv }) e (frac_bounds full is_full.valid).0
    (frac_bounds full is_full.valid).1

pub convert_to_result-requires-clause-at : goal.convert_to_result-requires-clause-at
convert_to_result-requires-clause-at c =
    let full : FxType = c.requires.full.0 in
    let word : c.product_word-word.result ≡ word_of full = c.product_word-word.ensures full c.requires.full.1 in
    (multiplied-put _ _ c.args.one.from c.args.other.from c.product_word-word.result c.multiply-exact.result
    c.requires.one c.requires.other (subst (λ (w : Word). IsWord w.width w.signed) (sym word)
    (type-word full c.requires.full.1.valid)) c.multiply-exact.ensures).at

pub convert_to_result-requires-clause-low : goal.convert_to_result-requires-clause-low
convert_to_result-requires-clause-low c = rw (full_frac (goal.at.convert_to_result-requires-clause-low c).After-frac-2) (frac_bounds c.requires.full.0 c.requires.full.1.valid).0

pub convert_to_result-requires-clause-high : goal.convert_to_result-requires-clause-high
convert_to_result-requires-clause-high c = rw (full_frac (goal.at.convert_to_result-requires-clause-high c).After-frac-2) (frac_bounds c.requires.full.0 c.requires.full.1.valid).1

pub returns : goal.returns
returns c =
    let full : FxType = c.requires.full.0 in
    let word : c.product_word-word.result ≡ word_of full = c.product_word-word.ensures full c.requires.full.1 in
    let put = rw word at c.multiply-exact.ensures in
    let multiplied = multiplied-put _ _ c.args.one.from c.args.other.from (word_of full) c.multiply-exact.result c.requires.one c.requires.other (type-word full c.requires.full.1.valid) put in
    made-after (λ numbers. InRange c.args.one.kind (numbers c.args.one.from.place)
    → InRange c.args.other.kind (numbers c.args.other.from.place)
    → IsScaled (operation_of c.args.call.now) c.args.one.kind c.args.other.kind
    (numbers c.args.one.from.place) (numbers c.args.other.from.place)
    (numbers c.convert_to_result.result.place))
    multiplied c.convert_to_result.ensures
    (λ numbers w p first second. record {
      full = full;
      is_full = c.requires.full.1;
      converted = subst (λ (z : ℤ). IsConverted (operation_of c.args.call.now) z full (numbers c.convert_to_result.result.place))
          (product-is c.args.one.kind c.args.other.kind full (numbers c.args.one.from.place)
          (numbers c.args.other.from.place) c.requires.left c.requires.right first second c.requires.full.1
          (numbers c.multiply-exact.result.place) w)
          (p full (sym (full_frac (goal.at.returns c).After-frac-2)));
    })
