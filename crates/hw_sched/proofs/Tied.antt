-- The order of kinds tells them apart as they are.
use Rattle.std.proofs.Common.{◌≡◌, Bool, true, false, ◌==◌, refl, sym, ap, ◌∙◌}
use Rattle.std.specs.Prelude.{◌&&◌}
use Rattle.std.specs.Option.{option_cmp}
use Rattle.std.specs.Ordering.{nat_cmp, bool_cmp, int_cmp, int_eq, ordering_then, is_eq}
use Rattle.std.specs.Cmp.{tied_then}
use Rattle.fx_type.specs.declared.kind.FxType.{FxType}
use Rattle.fx_type.specs.declared.kind.FxType.TheVariants.{Num, Logical}
use Rattle.math_list.proofs.Sums.{tied_number}
use Rattle.hw_sched.specs.Slots.{OperationKind, is_same_mark, is_same_type, is_same_kind}
use Rattle.hw_sched.specs.inner.Keys.{word_of, key_of, compare_words, compare_keys}

tied_mark : (x y : Bool) → is_eq (bool_cmp x y) ≡ is_same_mark x y
tied_mark true true = refl
tied_mark true false = refl
tied_mark false true = refl
tied_mark false false = refl

and_again : (a b c : Bool) → (a && (b && c)) ≡ ((a && b) && c)
and_again true b c = refl
and_again false b c = refl

tied_type : (type other : FxType) → is_eq (option_cmp compare_words (word_of type) (word_of other)) ≡ is_same_type type other
tied_type (Num signed width frac) (Num other_signed other_width other_frac) =
    sym (tied_then (bool_cmp signed other_signed) (ordering_then (nat_cmp width other_width) (int_cmp frac other_frac)))
    ∙ ap (λ (b : Bool). is_eq (bool_cmp signed other_signed) && b) (sym (tied_then (nat_cmp width other_width) (int_cmp frac other_frac)))
    ∙ ap (λ (b : Bool). b && (is_eq (nat_cmp width other_width) && int_eq frac other_frac)) (tied_mark signed other_signed)
    ∙ ap (λ (b : Bool). is_same_mark signed other_signed && (b && int_eq frac other_frac)) (tied_number width other_width)
    ∙ and_again (is_same_mark signed other_signed) (width == other_width) (int_eq frac other_frac)
tied_type (Num signed width frac) Logical = refl
tied_type Logical (Num signed width frac) = refl
tied_type Logical Logical = refl

pub tied_kind : (kind other : OperationKind) → is_eq (compare_keys (key_of kind) (key_of other)) ≡ is_same_kind kind other
tied_kind kind other =
    let left = option_cmp compare_words (word_of kind.left) (word_of other.left) in
    let right = option_cmp compare_words (word_of kind.right) (word_of other.right) in
    let both = ordering_then left right in
    let late = ordering_then (nat_cmp kind.lat other.lat) both in
    sym (tied_then (nat_cmp kind.period other.period) late)
    ∙ ap (λ (b : Bool). is_eq (nat_cmp kind.period other.period) && b) (sym (tied_then (nat_cmp kind.lat other.lat) both))
    ∙ ap (λ (b : Bool). is_eq (nat_cmp kind.period other.period) && (is_eq (nat_cmp kind.lat other.lat) && b)) (sym (tied_then left right))
    ∙ ap (λ (b : Bool). b && (is_eq (nat_cmp kind.lat other.lat) && (is_eq left && is_eq right))) (tied_number kind.period other.period)
    ∙ ap (λ (b : Bool). (kind.period == other.period) && (b && (is_eq left && is_eq right))) (tied_number kind.lat other.lat)
    ∙ ap (λ (b : Bool). (kind.period == other.period) && ((kind.lat == other.lat) && (b && is_eq right))) (tied_type kind.left other.left)
    ∙ ap (λ (b : Bool). (kind.period == other.period) && ((kind.lat == other.lat) && (is_same_type kind.left other.left && b))) (tied_type kind.right other.right)
    ∙ and_again (kind.period == other.period) (kind.lat == other.lat) (is_same_type kind.left other.left && is_same_type kind.right other.right)
