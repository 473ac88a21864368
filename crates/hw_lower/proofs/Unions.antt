-- Numbers of two types in their union.
use Rattle.std.proofs.Common.{◌≡◌, ◌≢◌, ℕ, ◌⊎◌, inl, inr, Bool, true, false, true≢false, cond, ℤ, ◌≤ℤ◌, ap, sym, ◌∙◌, subst, arith, refl}
use Rattle.std.specs.Int.{int_max, int_gap}
use Rattle.std.proofs.lemmas.Int.{ints, by_lt_z}
use Rattle.std.proofs.lemmas.Bool.{cases_eq}
use Rattle.math_num.specs.Word.{IsWrapped}
use Rattle.fx_type.specs.declared.kind.FxType.{FxType}
use Rattle.fx_type.specs.declared.kind.FxType.TheVariants.{Num, Logical}
use Rattle.fx_type.specs.FxType.{IsType, InRange, is_signed, width_of, frac_of, aligned}
use Rattle.fx_type.specs.FullType.{HoldsType, IsUnion}
use Rattle.fx_type.proofs.Ranges.{type-word, range-word}
use Rattle.math_num.proofs.Integers.{int_max_cases, gap_none}
use Rattle.dg_model.specs.declared.kind.Relation.{Relation}
use Rattle.dg_model.specs.Operation.{compares, compares_values, stored_truth}
use Rattle.math_num.proofs.Words.{wrapped-is}
use Rattle.math_list.proofs.Tests.{lt-yes}
use Rattle.hw_lower.proofs.Truths.{lt-no}
use Rattle.math_num.proofs.Arithmetic.{int_cases}

bool-cases : (a b : Bool) → (a ≡ b) ⊎ (a ≡ b → ⊥)
bool-cases true true = inl refl
bool-cases false false = inl refl
bool-cases true false = inr (λ e. true≢false e)
bool-cases false true = inr (λ e. true≢false (sym e))

same-number : (s t : Bool) (w v : ℕ) (f g : ℤ) → s ≡ t → w ≡ v → f ≡ g → Num s w f ≡ Num t v g
same-number s t w v f g p q r = cc

pub type-cases : (a b : FxType) → (a ≡ b) ⊎ (a ≢ b)
type-cases Logical Logical = inl refl
type-cases Logical (Num signed width frac) = inr (λ e. (let f : Logical ≡ Num signed width frac = e in cc))
type-cases (Num signed width frac) Logical = inr (λ e. (let f : Num signed width frac ≡ Logical = e in cc))
type-cases (Num s w f) (Num t v g) =
    elim (bool-cases s t) [
      | inl same ↦ elim (cases_eq w v) [
        | inl alike ↦ elim (int_cases f g) [
          | inl equal ↦ inl (same-number s t w v f g same alike equal)
          | inr other ↦ inr (λ e. other (ap frac_of e))
        ]
        | inr other ↦ inr (λ e. other (ap width_of e))
      ]
      | inr other ↦ inr (λ e. other (ap is_signed e))
    ]

gap-same : (f : ℤ) → int_gap f f ≡ 0
gap-same f = gap_none f f (omega (arith, ints))

aligned-same : (type : FxType) (v : ℤ) → aligned (frac_of type) type v ≡ v
aligned-same type v = rw (gap-same (frac_of type)) (omega (arith, ints))

holds-self : (type : FxType) → HoldsType type type
holds-self type v range = subst (InRange type) (sym (aligned-same type v)) range

max-self : (f : ℤ) → int_max f f ≡ f
max-self f = elim (int_max_cases f f) [ inl k ↦ k | inr k ↦ k ]

max-left : (f g : ℤ) → f ≤ℤ int_max f g
max-left f g = by_lt_z g f (λ below. subst (λ (b : Bool). f ≤ℤ cond b f g) (sym (lt-yes g f below))
    (omega (arith, ints))) (λ above. subst (λ (b : Bool). f ≤ℤ cond b f g) (sym (lt-no g f above)) above)

max-right : (f g : ℤ) → g ≤ℤ int_max f g
max-right f g = by_lt_z g f (λ below. subst (λ (b : Bool). g ≤ℤ cond b f g) (sym (lt-yes g f below))
    (omega (arith, ints, below)))
    (λ above. subst (λ (b : Bool). g ≤ℤ cond b f g) (sym (lt-no g f above)) (omega (arith, ints)))

-- what a union is for both of its types
pub record IsHolder (a b union : FxType) : Type 0 where
  pub valid : IsType union
  pub frac : frac_of union ≡ int_max (frac_of a) (frac_of b)
  pub left : HoldsType union a
  pub right : HoldsType union b

pub union-holds : (a b union : FxType) → IsType a → IsUnion a b union → IsHolder a b union
union-holds a b union valid is =
    elim (type-cases a b) [
      | inl e ↦
          let own : union ≡ a = is.same e in
          subst (λ (u : FxType). IsHolder a b u) (sym own)
          (subst (λ (t : FxType). IsHolder a t a) e
          (record {
            valid = valid;
            frac = sym (max-self (frac_of a));
            left =
                holds-self a;
            right = holds-self a;
          }))
      | inr n ↦ let both = is.different n in record { valid = both.valid; frac = both.frac; left = both.left; right = both.right }
    ]

pub holder-left : (a b union : FxType) → IsHolder a b union → frac_of a ≤ℤ frac_of union
holder-left a b union is = rw is.frac (max-left (frac_of a) (frac_of b))

pub holder-right : (a b union : FxType) → IsHolder a b union → frac_of b ≤ℤ frac_of union
holder-right a b union is = rw is.frac (max-right (frac_of a) (frac_of b))

-- a number that is aligned to a type that has it
pub held-is : (holder kind : FxType) (v r : ℤ) → IsType holder → HoldsType holder kind → IsWrapped (aligned (frac_of holder) kind v) (width_of holder) (is_signed holder) r → InRange kind v
    → r ≡ aligned (frac_of holder) kind v
held-is holder kind v r valid holds is range =
    wrapped-is (aligned (frac_of holder) kind v) (width_of holder) (is_signed holder) r (type-word holder valid) (range-word holder (aligned (frac_of holder) kind v) (holds v range)) is

-- both numbers compared in the union
pub compared-is : (operator : Relation) (a b union : FxType) (x y u v left right r : ℤ) → IsHolder a b union → left ≡ aligned (frac_of union) a x → right ≡ aligned (frac_of union) b y → x ≡ u → y ≡ v
    → r ≡ stored_truth (compares operator left right) → r ≡ stored_truth (compares_values operator a b u v)
compared-is operator a b union x y u v left right r holder one other first second is =
    is ∙ ap (λ (z : ℤ). stored_truth (compares operator z right)) (one ∙ ap (aligned (frac_of union) a) first)
    ∙ ap (λ (z : ℤ). stored_truth (compares operator (aligned (frac_of union) a u) z)) (other ∙ ap (aligned (frac_of union) b) second)
    ∙ ap (λ (f : ℤ). stored_truth (compares operator (aligned f a u) (aligned f b v))) holder.frac
