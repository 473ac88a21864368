use Rattle.std.proofs.Common.{◌≡◌, ◌+◌, ◌||◌, Bool, ℤ, ◌+ℤ◌, to_z, of_z, FitsSigned, true≢false, refl, sym, ◌∙◌, ap₂, arith}
use Rattle.std.specs.Int.{w16}
use Rattle.std.proofs.lemmas.Int.{ints, to_z-of_z}
use Rattle.fx_type.specs.FxType.{frac_of}
use Rattle.fx_type.proofs.FullTypes.{product_valid, word_most}
use Rattle.fx_type.proofs.Ranges.{frac_bounds}
use Rattle.fx_type.proofs.full.full_product.Goals as goal

-- the sum of two numbers that are given through their bits
frac_sum : (a b x y : ℤ) → to_z w16 (of_z w16 a) ≡ x → to_z w16 (of_z w16 b) ≡ y → FitsSigned w16 (x +ℤ y) → to_z w16 (of_z w16 (to_z w16 (of_z w16 a) +ℤ to_z w16 (of_z w16 b))) ≡ x +ℤ y
frac_sum a b x y left right fits = rw (left, right) (to_z-of_z w16 (x +ℤ y) fits)

pub returns-then-is_valid-clause-ok : goal.returns-then-is_valid-clause-ok
returns-then-is_valid-clause-ok c =
    let left : to_z w16 (of_z w16 c.frac.result) ≡ frac_of c.args.a = to_z-of_z w16 c.frac.result (record { sfits = c.frac.type_inv }) ∙ c.frac.ensures in
    let right : to_z w16 (of_z w16 c.frac-2.result) ≡ frac_of c.args.b = to_z-of_z w16 c.frac-2.result (record { sfits = c.frac-2.type_inv }) ∙ c.frac-2.ensures in
    let fits : FitsSigned w16 (frac_of c.args.a +ℤ frac_of c.args.b) = omega (arith, ints, frac_bounds c.args.a c.requires.left, frac_bounds c.args.b c.requires.right) in
    let valid = c.if-is_valid.ensures.0 refl in
    let most = word_most _ c.saturating_add.result valid.0 in
    let exact : c.saturating_add.result ≡ c.width.result + c.width-2.result = omega (arith, c.saturating_add.ensures, most) in
    record {
      valid = valid;
      number = tt;
      width = exact ∙ ap₂ (λ x y. x + y) c.width.ensures c.width-2.ensures;
      frac = frac_sum c.frac.result c.frac-2.result (frac_of c.args.a) (frac_of c.args.b) left right fits;
      sign = ap₂ (λ (p q : Bool). p || q) c.is_signed.ensures c.is_signed-2.ensures;
    }

pub returns-else-is_valid-clause-too_wide : goal.returns-else-is_valid-clause-too_wide
returns-else-is_valid-clause-too_wide c =
    let left : to_z w16 (of_z w16 c.frac.result) ≡ frac_of c.args.a = to_z-of_z w16 c.frac.result (record { sfits = c.frac.type_inv }) ∙ c.frac.ensures in
    let right : to_z w16 (of_z w16 c.frac-2.result) ≡ frac_of c.args.b = to_z-of_z w16 c.frac-2.result (record { sfits = c.frac-2.type_inv }) ∙ c.frac-2.ensures in
    let fits : FitsSigned w16 (frac_of c.args.a +ℤ frac_of c.args.b) = omega (arith, ints, frac_bounds c.args.a c.requires.left, frac_bounds c.args.b c.requires.right) in
    let frac = frac_sum c.frac.result c.frac-2.result (frac_of c.args.a) (frac_of c.args.b) left right fits in
    let sign = ap₂ (λ (p q : Bool). p || q) c.is_signed.ensures c.is_signed-2.ensures in
    let width = rw (c.width.ensures, c.width-2.ensures) at c.saturating_add.ensures in
    λ type full. true≢false (sym (c.if-is_valid.ensures.1 (product_valid c.args.a c.args.b type _ _ _ sign width frac full)))
