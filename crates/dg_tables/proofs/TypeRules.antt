-- What a block takes for its type stays while more becomes known, and is a valid type.
use Rattle.std.proofs.Common.{◌≡◌, ℕ, suc, ◌==◌, ◌&&◌, ◌||◌, Bool, true, false, true≢false, cond, MatchBool, List, [], ◌∷◌, zip, All, Option, Some, None, ℤ, pos, negsuc, ◌≤ℤ◌, ap, sym, ◌∙◌, subst}
use Rattle.std.proofs.Common.{refl, arith, eq-eqb}
use Rattle.std.specs.Ordering.{int_eq}
use Rattle.std.specs.List.{list_all, list_any}
use Rattle.std.proofs.lemmas.Int.{ints}
use Rattle.std.proofs.lemmas.Bool.Decides.{Decides-int_eq}
use Rattle.std.proofs.lemmas.List.Elements.{All-nil, All-cons}
use Rattle.std.proofs.lemmas.Option.{none-some, same_Some}
use Rattle.math_num.specs.Word.{IsWord}
use Rattle.fx_type.specs.declared.kind.FxType.{FxType}
use Rattle.fx_type.specs.declared.kind.FxType.TheVariants.{Num, Logical}
use Rattle.fx_type.specs.declared.spec.TypeSpec.{TypeSpec}
use Rattle.fx_type.specs.declared.spec.TypeSpec.TheVariants.{Fixed, Internal, SameFirst, Auto}
use Rattle.fx_type.specs.declared.decimal.Decimal.{Decimal}
use Rattle.fx_type.specs.FxType.{IsType, is_signed, width_of}
use Rattle.fx_type.specs.FullType.{IsUnion}
use Rattle.fx_type.specs.FullTypeOf.{full_sum_of, full_product_of, union_of, same_sign, same_type}
use Rattle.fx_type.specs.Laws.{FullSumIsOne, FullProductIsOne, UnionIsOne}
use Rattle.dg_model.specs.declared.kind.Kind.{Kind}
use Rattle.dg_model.specs.declared.kind.Kind.TheVariants.{Ground, Sum}
use Rattle.dg_model.specs.declared.row.OwnType.{OwnType}
use Rattle.dg_model.specs.KindRow.{FullRule, IsSpec}
use Rattle.dg_model.specs.Library.{row_of}
use Rattle.dg_model.specs.GainParam.{ParamTypeIsOne, IsInternalParam, IsGreatestFit, is_negative, is_zero, is_param_signed, param_width, param_type_of}
use Rattle.dg_model.specs.Periods.{known_at}
use Rattle.dg_model.specs.TypeRounds.{with_known, all_known, Types, specified_type, sum_named, full_type, internal_type, own_type, taken_type}
use Rattle.dg_tables.proofs.Rounds.{Grows, known_there, there_known, rest_grows}
use Rattle.dg_model.proofs.SumTerms.{terms-valid}

-- ---- what follows from a known value
pub with_some : {A B : Type 0} (o : Option A) (next : A → Option B) (z : B) → with_known o next ≡ Some z → (x : A) × (o ≡ Some x) × (next x ≡ Some z)
with_some None next z e = absurd (none-some z e)
with_some (Some x) next z e = (x, refl, e)

pub with_is : {A B : Type 0} (o : Option A) (x : A) (next : A → Option B) (r : Option B) → o ≡ Some x → next x ≡ r → with_known o next ≡ r
with_is {A} o x next r e h = subst (λ (p : Option A). with_known p next ≡ r) (sym e) h

-- ---- more is known of the inputs
pub known_more : (inputs later : Types) → Grows inputs later → (i : ℕ) (t : FxType) → known_at inputs i ≡ Some t → known_at later i ≡ Some t
known_more inputs later g i t e = there_known later i t (g.kept i t (known_there inputs i t e))

pub all_more : (inputs later : Types) → Grows inputs later → (known : List FxType) → all_known inputs ≡ Some known → all_known later ≡ Some known
all_more [] [] g known e = e
all_more [] (y ∷ ys) g known e = absurd (omega (arith, g.same))
all_more (x ∷ xs) [] g known e = absurd (omega (arith, g.same))
all_more (x ∷ xs) (y ∷ ys) g known e =
    let h = with_some x (λ head. with_known (all_known xs) (λ tail. Some (head ∷ tail))) known e in
    let k = with_some (all_known xs) (λ tail. Some (h.0 ∷ tail)) known h.2 in
    with_is y h.0 (λ head. with_known (all_known ys) (λ tail. Some (head ∷ tail))) (Some known) (same_Some y (Some h.0) (g.kept 0 h.0 (ap (λ (o : Option FxType). Some o) h.1)))
    (with_is (all_known ys) k.0 (λ tail. Some (h.0 ∷ tail)) (Some known) (all_more xs ys (rest_grows x y xs ys g) k.0 k.1) k.2)

two_more : (f : FxType → FxType → Option FxType) (j : ℕ) (inputs later : Types) → Grows inputs later → (t : FxType)
    → with_known (known_at inputs 0) (λ left. with_known (known_at inputs j) (f left)) ≡ Some t → with_known (known_at later 0) (λ left. with_known (known_at later j) (f left)) ≡ Some t
two_more f j inputs later g t e =
    let h = with_some (known_at inputs 0) (λ left. with_known (known_at inputs j) (f left)) t e in
    let k = with_some (known_at inputs j) (f h.0) t h.2 in
    with_is (known_at later 0) h.0 (λ left. with_known (known_at later j) (f left)) (Some t) (known_more inputs later g 0 h.0 h.1)
    (with_is (known_at later j) k.0 (f h.0) (Some t) (known_more inputs later g j k.0 k.1) k.2)

full_more : (rule : FullRule) (inputs later : Types) → Grows inputs later → (t : FxType) → full_type rule inputs ≡ Some t → full_type rule later ≡ Some t
full_more FullRule.NoFull inputs later g t e = e
full_more (FullRule.FullSum negative accum) inputs later g t e =
    let h = with_some (all_known inputs) (λ known. sum_named accum (zip negative known)) t e in
    with_is (all_known later) h.0 (λ known. sum_named accum (zip negative known)) (Some t) (all_more inputs later g h.0 h.1) h.2
full_more (FullRule.FullScaled value param) inputs later g t e =
    let h = with_some (known_at inputs 0) (λ input. with_known (param_type_of value param input) (full_product_of input)) t e in
    with_is (known_at later 0) h.0 (λ input. with_known (param_type_of value param input) (full_product_of input)) (Some t) (known_more inputs later g 0 h.0 h.1) h.2
full_more FullRule.FullProduct inputs later g t e = two_more full_product_of 1 inputs later g t e
full_more FullRule.UnionOfTwo inputs later g t e = two_more union_of 1 inputs later g t e
full_more FullRule.UnionOfEnds inputs later g t e = two_more union_of 2 inputs later g t e

internal_more : (rule : FullRule) (inputs later : Types) → Grows inputs later → (t : FxType) → internal_type rule inputs ≡ Some t → internal_type rule later ≡ Some t
internal_more FullRule.NoFull inputs later g t e = e
internal_more (FullRule.FullSum negative (Fixed type)) inputs later g t e = e
internal_more (FullRule.FullSum negative Internal) inputs later g t e = full_more (FullRule.FullSum negative Internal) inputs later g t e
internal_more (FullRule.FullSum negative SameFirst) inputs later g t e = known_more inputs later g 0 t e
internal_more (FullRule.FullSum negative Auto) inputs later g t e = e
internal_more (FullRule.FullScaled value param) inputs later g t e = full_more (FullRule.FullScaled value param) inputs later g t e
internal_more FullRule.FullProduct inputs later g t e = full_more FullRule.FullProduct inputs later g t e
internal_more FullRule.UnionOfTwo inputs later g t e = full_more FullRule.UnionOfTwo inputs later g t e
internal_more FullRule.UnionOfEnds inputs later g t e = full_more FullRule.UnionOfEnds inputs later g t e

own_more : (own : OwnType) (inputs later : Types) → Grows inputs later → (t : FxType) → own_type own inputs ≡ Some t → own_type own later ≡ Some t
own_more OwnType.Untyped inputs later g t e = e
own_more (OwnType.Always type) inputs later g t e = e
own_more OwnType.OfInput inputs later g t e = known_more inputs later g 0 t e

pub taken_more : (kind : Kind) (spec : TypeSpec) (inputs later : Types) → Grows inputs later → (t : FxType) → taken_type kind spec inputs ≡ Some t → taken_type kind spec later ≡ Some t
taken_more kind (Fixed type) inputs later g t e = e
taken_more kind Internal inputs later g t e = internal_more (row_of kind).types.full inputs later g t e
taken_more kind SameFirst inputs later g t e = known_more inputs later g 0 t e
taken_more kind Auto inputs later g t e = own_more (row_of kind).types.own inputs later g t e

-- ---- valid types
abbrev pub AreValid : Types → Type 0
AreValid inputs = (i : ℕ) (t : FxType) → known_at inputs i ≡ Some t → IsType t

pub all_valid : (inputs : Types) (known : List FxType) → AreValid inputs → all_known inputs ≡ Some known → All IsType known
all_valid [] known v e = subst (All IsType) (same_Some [] known e) (All-nil IsType)
all_valid (x ∷ xs) known v e =
    let h = with_some x (λ head. with_known (all_known xs) (λ tail. Some (head ∷ tail))) known e in
    let k = with_some (all_known xs) (λ tail. Some (h.0 ∷ tail)) known h.2 in
    subst (All IsType) (same_Some (h.0 ∷ k.0) known k.2) (All-cons IsType h.0 k.0 (v 0 h.0 h.1) (all_valid xs k.0 (λ i t e. v (suc i) t e) k.1))

three_true : (a b c : Bool) → a ≡ true → b ≡ true → c ≡ true → (a && (b && c)) ≡ true
three_true true true true p q r = refl
three_true true true false p q r = absurd (true≢false (sym r))
three_true true false c p q r = absurd (true≢false (sym q))
three_true false b c p q r = absurd (true≢false (sym p))

same_sign_true : (s : Bool) → same_sign s s ≡ true
same_sign_true true = refl
same_sign_true false = refl

same_type_true : (a : FxType) → same_type a a ≡ true
same_type_true Logical = refl
same_type_true (Num s w f) = three_true (same_sign s s) (w == w) (int_eq f f) (same_sign_true s) (eq-eqb w w refl) ((Decides-int_eq f f).1 refl)

module _ (sums : FullSumIsOne) (products : FullProductIsOne) (unions : UnionIsOne) (params : ParamTypeIsOne) where
  union_valid : (a b t : FxType) → IsType a → IsType b → union_of a b ≡ Some t → IsType t
  union_valid a b t va vb e = go (same_type a b) refl e
    where
      is_union : IsUnion a b t
      is_union = (unions a b t va vb).1 e

      go : (same : Bool) → same_type a b ≡ same → union_of a b ≡ Some t → IsType t
      go true s e = subst IsType (first s e) va
        where
          first : same_type a b ≡ true → union_of a b ≡ Some t → a ≡ t
          first s e = same_Some a t (sym (by_test s) ∙ e)
            where
              by_test : same_type a b ≡ true → union_of a b ≡ Some a
              by_test s = rw s refl
      go false s e = (is_union.different (λ same. true≢false (sym (subst (λ (x : FxType). same_type a x ≡ true) same (same_type_true a)) ∙ s))).valid

  two_valid : (f : FxType → FxType → Option FxType) (j : ℕ) (inputs : Types) (t : FxType) → AreValid inputs → ((a b : FxType) → IsType a → IsType b → f a b ≡ Some t → IsType t)
      → with_known (known_at inputs 0) (λ left. with_known (known_at inputs j) (f left)) ≡ Some t → IsType t
  two_valid f j inputs t v valid e =
      let h = with_some (known_at inputs 0) (λ left. with_known (known_at inputs j) (f left)) t e in
      let k = with_some (known_at inputs j) (f h.0) t h.2 in
      valid h.0 k.0 (v 0 h.0 h.1) (v j k.0 k.1) k.2

  -- an accumulator's type is valid where it is written out
  abbrev IsRuleValid : FullRule → Type 0
  IsRuleValid FullRule.NoFull = Unit {0}
  IsRuleValid (FullRule.FullSum negative accum) = IsSpec accum
  IsRuleValid (FullRule.FullScaled value param) = Unit {0}
  IsRuleValid FullRule.FullProduct = Unit {0}
  IsRuleValid FullRule.UnionOfTwo = Unit {0}
  IsRuleValid FullRule.UnionOfEnds = Unit {0}

  rule_is_valid : (kind : Kind) → (row_of kind).parameters → IsRuleValid (row_of kind).types.full
  rule_is_valid (Sum negative accum) parameters = parameters.2
  rule_is_valid _ parameters = tt

  full_valid : (rule : FullRule) (inputs : Types) (t : FxType) → IsRuleValid rule → AreValid inputs → internal_type rule inputs ≡ Some t → IsType t
  full_valid FullRule.NoFull inputs t is v e = absurd (none-some t e)
  full_valid (FullRule.FullSum negative (Fixed type)) inputs t is v e = subst IsType (same_Some type t e) is
  full_valid (FullRule.FullSum negative SameFirst) inputs t is v e = v 0 t e
  full_valid (FullRule.FullSum negative Auto) inputs t is v e = absurd (none-some t e)
  full_valid (FullRule.FullSum negative Internal) inputs t is v e =
      let h = with_some (all_known inputs) (λ known. full_sum_of (zip negative known)) t e in
      ((sums (zip negative h.0) t (terms-valid negative h.0 (all_valid inputs h.0 v h.1))).1 h.2).valid
  full_valid (FullRule.FullScaled value param) inputs t is v e =
      let h = with_some (known_at inputs 0) (λ input. with_known (param_type_of value param input) (full_product_of input)) t e in
      let k = with_some (param_type_of value param h.0) (full_product_of h.0) t h.2 in
      ((products h.0 k.0 t).1 k.2).valid
  full_valid FullRule.FullProduct inputs t is v e = two_valid full_product_of 1 inputs t v (λ a b va vb e. ((products a b t).1 e).valid) e
  full_valid FullRule.UnionOfTwo inputs t is v e = two_valid union_of 1 inputs t v (λ a b va vb e. union_valid a b t va vb e) e
  full_valid FullRule.UnionOfEnds inputs t is v e = two_valid union_of 2 inputs t v (λ a b va vb e. union_valid a b t va vb e) e

  abbrev IsOwnValid : OwnType → Type 0
  IsOwnValid OwnType.Untyped = Unit {0}
  IsOwnValid (OwnType.Always type) = IsType type
  IsOwnValid OwnType.OfInput = Unit {0}

  own_is_valid : (kind : Kind) → IsOwnValid (row_of kind).types.own
  own_is_valid Ground = ((omega arith, omega arith), omega (arith, ints), omega (arith, ints))
  own_is_valid _ = tt

  own_valid : (own : OwnType) (inputs : Types) (t : FxType) → IsOwnValid own → AreValid inputs → own_type own inputs ≡ Some t → IsType t
  own_valid OwnType.Untyped inputs t is v e = absurd (none-some t e)
  own_valid (OwnType.Always type) inputs t is v e = subst IsType (same_Some type t e) is
  own_valid OwnType.OfInput inputs t is v e = v 0 t e

  pub taken_valid : (kind : Kind) (spec : TypeSpec) (inputs : Types) (t : FxType) → (row_of kind).parameters → IsSpec spec → AreValid inputs → taken_type kind spec inputs ≡ Some t → IsType t
  taken_valid kind (Fixed type) inputs t has is v e = subst IsType (same_Some type t e) is
  taken_valid kind Internal inputs t has is v e = full_valid (row_of kind).types.full inputs t (rule_is_valid kind has) v e
  taken_valid kind SameFirst inputs t has is v e = v 0 t e
  taken_valid kind Auto inputs t has is v e = own_valid (row_of kind).types.own inputs t (own_is_valid kind) v e

  -- ---- the type of a Gain's coefficients
  word_of : (negative : Bool) (input : FxType) → IsType input → IsWord (cond ((is_signed input || negative) && (width_of input == 1)) 2 (width_of input)) (is_signed input || negative)
  word_of true Logical t = (omega arith, omega arith)
  word_of false Logical t = (omega arith, omega arith)
  word_of negative (Num true w f) t = go (w == 1)
    where
      go : (one : Bool) → IsWord (cond one 2 w) true
      go true = (omega arith, omega arith)
      go false = t.0
  word_of true (Num false w f) t = go (w == 1) refl
    where
      go : (one : Bool) → (w == 1) ≡ one → IsWord (cond one 2 w) true
      go true e = (omega arith, omega arith)
      go false e =
          let n : ¬ (w ≡ 1) = λ h. true≢false (sym (eq-eqb w 1 h) ∙ e) in
          (omega (arith, n, t.0.0), omega (arith, t.0.1))
  word_of false (Num false w f) t = t.0

  pub param_valid : (value : List Decimal) (spec : TypeSpec) (input p : FxType) → IsSpec spec → IsType input → param_type_of value spec input ≡ Some p → IsType p
  param_valid value (Fixed type) input p is t e = subst IsType (same_Some type p e) is
  param_valid value SameFirst input p is t e = subst IsType (same_Some input p e) t
  param_valid value Auto input p is t e = absurd (none-some p e)
  param_valid value Internal input p is t e = from_internal ((params value Internal input p).1 e)
    where
      frac_range : (frac : ℤ) (zero : Bool) → MatchBool zero (frac ≡ pos 0) (IsGreatestFit value (is_param_signed value input) (param_width value input) frac) → (negsuc 63 ≤ℤ frac) × (frac ≤ℤ pos 128)
      frac_range frac true e = (omega (arith, ints, e), omega (arith, ints, e))
      frac_range frac false fit = (fit.low, fit.high)

      from_internal : IsInternalParam value input p → IsType p
      from_internal i =
          let range = frac_range i.0 (list_all is_zero value) i.2 in
          subst IsType (sym i.1) (word_of (list_any is_negative value) input t, range.0, range.1)
