-- What an item is by the section that it stands directly in.
use Rattle.std.proofs.Common.{◌≡◌, ℕ, zero, suc, Bool, true, cond, List, Option, Some, None, refl, sym, ◌∙◌, ap, arith}
use Rattle.std.specs.Prelude.{◌==◌}
use Rattle.std.proofs.lemmas.Bool.Decides.{nat_tests}
use Rattle.mdl_text.specs.declared.tree.Item.{Item}
use Rattle.mdl_build.specs.declared.roles.Role.TheVariants.{Other}
use Rattle.mdl_build.specs.Roles.{role_if, role_at, role_under, role_of}
use Rattle.mdl_build.specs.Sections.{depth_at, holder_of, last_above}
use Rattle.mdl_build.specs.inner.Layout.{depth_below}

-- where the last item that is less deep is one less deep, its role decides
pub role_found : (items : List Item) (place depth holder : ℕ) → depth_below (depth_at items place) ≡ Some depth
    → holder_of items place ≡ Some holder → depth_at items holder ≡ depth
    → role_under items holder (role_of items holder) place ≡ role_of items place
role_found items place depth holder below held direct = by_depth (depth_at items place) refl below
  where
    by_depth : (d : ℕ) → depth_at items place ≡ d → depth_below d ≡ Some depth → role_under items holder (role_of items holder) place ≡ role_of items place
    by_depth zero e none = let bad : ◌≡◌ {A = Option ℕ} None (Some depth) = none in cc
    by_depth (suc n) e some =
        let first : ◌≡◌ {A = Option ℕ} (Some n) (Some depth) = some in
        let same : n ≡ depth = cc in
        let there : last_above items (suc n) place ≡ Some holder = ap (λ (d : ℕ). last_above items d place) (sym e) ∙ held in
        let inner : depth_at items holder ≡ n = direct ∙ sym same in
        let yes : (depth_at items holder == n) ≡ true = grind (arith, nat_tests) in
        let by_role : role_at items (suc n) place ≡ role_under items holder (role_at items n holder) place
        = ap (role_if items n (role_at items n) place) there ∙ ap (λ (b : Bool). cond b (role_under items holder (role_at items n holder) place) Other) yes in
        ap (λ (d : ℕ). role_under items holder (role_at items d holder) place) inner ∙ sym by_role ∙ sym (ap (λ (d : ℕ). role_at items d place) e)
