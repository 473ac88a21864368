-- A decimal of no digits, whatever shows that it is one.
use Rattle.std.proofs.Common.{◌≡◌, ℕ, ◌<◌, ◌^◌, Bool, false, List, [], ◌∷◌, ◌++◌, refl, ap, subst, pos, negsuc}
use Rattle.std.specs.Prelude.{◌≤ℤ◌}
use Rattle.std.proofs.Props.{props}
use Rattle.fx_type.specs.declared.decimal.Decimal.{Decimal}
use Rattle.mdl_build.specs.declared.settings.Settings.{Settings}
use Rattle.mdl_build.specs.Settings.{unset, unsaid, zero_decimal}

-- 0 with these proofs
abbrev pub zero_by : 0 < 10 ^ 18 → negsuc 35 ≤ℤ pos 0 → pos 0 ≤ℤ pos 18 → Decimal
zero_by digits least greatest =
    record { negative = false; digits = 0; exponent = pos 0; eighteen_digits = digits; least_exponent = least; greatest_exponent = greatest }

pub same_zero : (digits : 0 < 10 ^ 18) (least : negsuc 35 ≤ℤ pos 0) (greatest : pos 0 ≤ℤ pos 18) → zero_by digits least greatest ≡ zero_decimal
same_zero digits least greatest =
    let digits_prop : IsProp (0 < 10 ^ 18) = hlevel props in
    let least_prop : IsProp (negsuc 35 ≤ℤ pos 0) = hlevel props in
    let greatest_prop : IsProp (pos 0 ≤ℤ pos 18) = hlevel props in
    subst (λ (d : 0 < 10 ^ 18). zero_by digits least greatest ≡ zero_by d zero_decimal.least_exponent zero_decimal.greatest_exponent) (digits_prop digits zero_decimal.eighteen_digits)
    (subst (λ (l : negsuc 35 ≤ℤ pos 0). zero_by digits least greatest ≡ zero_by digits l zero_decimal.greatest_exponent) (least_prop least zero_decimal.least_exponent)
    (subst (λ (g : pos 0 ≤ℤ pos 18). zero_by digits least greatest ≡ zero_by digits least g) (greatest_prop greatest zero_decimal.greatest_exponent) refl))

-- nothing said, with any such 0 and empty lists
pub unset_by : (digits : 0 < 10 ^ 18) (least : negsuc 35 ≤ℤ pos 0) (greatest : pos 0 ≤ℤ pos 18)
    (list states : List Decimal) (signs : List Bool) (sizes : List ℕ) → list ≡ [] → states ≡ [] → signs ≡ []
    → sizes ≡ [] →
    record unset { said = record unsaid { rate = zero_by digits least greatest }; list = list; states = states; signs = signs; sizes = sizes } ≡ unset
unset_by digits least greatest list states signs sizes no_list no_states no_signs no_sizes =
    let same = same_zero digits least greatest in
    rw (no_list, no_states, no_signs, no_sizes)
    (ap (λ (rate : Decimal). let settings : Settings = record unset { said = record unsaid { rate = rate } } in
    settings) same)

-- behind an empty list
pub zero_alone : (digits : 0 < 10 ^ 18) (least : negsuc 35 ≤ℤ pos 0) (greatest : pos 0 ≤ℤ pos 18) (list : List Decimal) → list ≡ [] → list ++ (zero_by digits least greatest ∷ []) ≡ zero_decimal ∷ []
zero_alone digits least greatest list none =
    let same = same_zero digits least greatest in rw none (ap (λ (zero : Decimal). zero ∷ []) same)
