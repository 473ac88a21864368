-- The type that a block takes hangs on its sources alone, and is valid.
use Rattle.std.proofs.Common.{◌≡◌, ℕ, zero, suc, ◌+◌, ◌<◌, Bool, true, false, cond, List, [], ◌∷◌, length, map, All, Some, get_or, ℤ, pos, negsuc, ◌+ℤ◌, refl, sym, ap, ◌∙◌, arith, inl, inr}
use Rattle.std.specs.Prelude.{slice_get, unwrap_or, Option, None, ◌&&◌, ◌||◌, ◌==◌, nat_le, int_le, zip}
use Rattle.std.proofs.lemmas.Bool.{and_parts, leb-true, cases_lt}
use Rattle.std.proofs.lemmas.Int.{ints}
use Rattle.std.proofs.lemmas.List.{get_or_past}
use Rattle.math_num.specs.Word.{IsWord}
use Rattle.math_list.proofs.Searches.{Decides-int_le}
use Rattle.fx_type.specs.declared.kind.FxType.TheVariants.{Num, Logical}
use Rattle.fx_type.specs.declared.spec.TypeSpec.{TypeSpec}
use Rattle.fx_type.specs.declared.spec.TypeSpec.TheVariants.{Fixed, Internal, SameFirst, Auto}
use Rattle.fx_type.specs.declared.decimal.Decimal.{Decimal}
use Rattle.fx_type.specs.FxType.{IsType, is_signed, width_of, frac_of}
use Rattle.fx_type.specs.FullType.{Terms}
use Rattle.fx_type.specs.FullTypeOf.{is_word, full_sum_of, full_product_of, union_of}
use Rattle.dg_model.specs.declared.kind.Kind.{Kind}
use Rattle.dg_model.specs.declared.kind.Kind.TheVariants.{Ground}
use Rattle.dg_model.specs.declared.row.OwnType.{OwnType}
use Rattle.dg_model.specs.KindRow.{FullRule}
use Rattle.dg_model.specs.Library.{row_of}
use Rattle.dg_model.specs.GainParam.{param_type_of}
use Rattle.std.proofs.lemmas.Option.{unwrap_or-slice_get}
use Rattle.dg_waves.specs.inner.Waves.{is_in}
use Rattle.fx_type.specs.declared.kind.FxType.{FxType}
use Rattle.dg_model.specs.declared.diagram.Block.{Block}
use Rattle.dg_model.specs.Periods.{known_or, known_at}
use Rattle.dg_model.specs.TypeRounds.{Types, with_known, all_known, type_of_next, explicit_type, specified_type, stepped, stepped_first, sum_named, full_type, internal_type, own_type}
use Rattle.dg_types.specs.declared.linked.Source.{Source}
use Rattle.dg_types.specs.declared.linked.Form.{Form}
use Rattle.dg_types.specs.inner.Widths.{AreLinked}
use Rattle.dg_types.specs.inner.TypeInputs.{source_types, IsKnownValid, AreReady, FullTypesAreValid, is_valid_type, is_valid_spec, is_full_ready, next_typed}

-- the types before the first round
abbrev pub first_types : List Block → Types
first_types blocks = map (λ block. explicit_type block.result) blocks

same_type : (old new : Types) (block : ℕ) → slice_get old block ≡ slice_get new block
    → known_at old block ≡ known_at new block
same_type old new block same =
    sym (unwrap_or-slice_get old block None) ∙ ap
    (λ (o : Option (Option FxType)). unwrap_or o None) same ∙ unwrap_or-slice_get new block None

same_types : (old new : Types) (sources : List Source)
    → ((k : ℕ) (source : Source) → slice_get sources k ≡ Some source
    → slice_get old source.block ≡ slice_get new source.block)
    → source_types old sources ≡ source_types new sources
same_types old new [] same = refl
same_types old new (x ∷ xs) same =
    let head : known_at old x.block
    ≡ known_at new x.block = same_type old new x.block (same 0 x refl) in
    let tail : source_types old xs
    ≡ source_types new xs = same_types old new xs (λ k source at. same (suc k) source at) in
    cc

pub typed_is_local : (blocks : List Block) (forms : List Form) (sources : List (List Source))
    (readers : List (List ℕ)) (old new : Types) (block : ℕ)
    → AreLinked forms sources readers → block < length sources →
    ((source : ℕ) → is_in block (get_or readers source []) ≡ true
    → slice_get old source ≡ slice_get new source)
    → next_typed blocks sources old block ≡ next_typed blocks sources new block
typed_is_local blocks forms sources readers old new block linked inside same =
    let own = same_type old new block (same block (linked.own block inside)) in
    let inputs =
    same_types old new (get_or sources block [])
    (λ k source at. same source.block (linked.known block k source at)) in
    ap (λ (o : Option FxType). known_or o
    (type_of_next (slice_get blocks block) (source_types old (get_or sources block []))))
    own
    ∙ ap (λ (types : Types). known_or (known_at new block)
    (type_of_next (slice_get blocks block) types)) inputs

-- ---- valid types

valid_parts : (signed : Bool) (width : ℕ) (frac : ℤ) → is_valid_type (Num signed width frac) ≡ true
    → (is_word width signed ≡ true) × (int_le (negsuc 63) frac ≡ true)
    × (int_le frac (pos 128) ≡ true)
valid_parts signed width frac h =
    let both =
    and_parts (is_word width signed) (int_le (negsuc 63) frac && int_le frac (pos 128)) h in
    let ends =
    and_parts (int_le (negsuc 63) frac)
    (int_le frac (pos 128)) both.1 in (both.0, ends.0, ends.1)

word_valid : (signed : Bool) (width : ℕ) → is_word width signed ≡ true → IsWord width signed
word_valid true width h =
    let both = and_parts (nat_le 2 width)
    (nat_le width 128) h in (leb-true 2 width both.0, leb-true width 128 both.1)
word_valid false width h =
    let both = and_parts (nat_le 1 width)
    (nat_le width 127) h in (leb-true 1 width both.0, leb-true width 127 both.1)

pub type_valid : (type : FxType) → is_valid_type type ≡ true → IsType type
type_valid (Num signed width frac) h =
    let parts =
    valid_parts signed width frac h
    in (
      word_valid signed width parts.0,
      (Decides-int_le (negsuc 63) frac).0 parts.1,
      (Decides-int_le frac (pos 128)).0 parts.2,
    )
type_valid Logical h = tt

spec_valid : (spec : TypeSpec) → is_valid_spec spec ≡ true → IsKnownValid (explicit_type spec)
spec_valid (Fixed type) h = type_valid type h
spec_valid _ h = tt

given : (o : Option FxType) → ((type : FxType) → o ≡ Some type → is_valid_type type ≡ true)
    → IsKnownValid o
given None is = tt
given (Some type) is = type_valid type (is type refl)

pub known_valid : (types : Types) → All IsKnownValid types → (k : ℕ)
    → IsKnownValid (known_at types k)
known_valid types valid k = elim (cases_lt k (length types)) [
  | inl inside ↦ valid k None inside
  | inr past ↦ rw (get_or_past types k None past) tt
]

pub sources_valid : (values : Types) (sources : List Source) → All IsKnownValid values
    → All IsKnownValid (source_types values sources)
sources_valid values [] valid k d inside = absurd (omega arith)
sources_valid values (x ∷ xs) valid zero d inside = known_valid values valid x.block
sources_valid values (x ∷ xs) valid (suc k) d inside =
    sources_valid values xs valid k d (omega arith)

AllValid : Option (List FxType) → Type 0
AllValid None = Unit {0}
AllValid (Some types) = All IsType types

list_valid : (o : Option FxType) (rest : Option (List FxType)) → IsKnownValid o → AllValid rest
    → AllValid (with_known o (λ y. with_known rest (λ ys. Some (y ∷ ys))))
unfolding AllValid
list_valid None rest here later = tt
list_valid (Some type) None here later = tt
list_valid (Some type) (Some types) here later = go where
  go : All IsType (type ∷ types)
  go zero d inside = here
  go (suc k) d inside = later k d (omega arith)

all_valid : (types : Types) → All IsKnownValid types → AllValid (all_known types)
unfolding AllValid
all_valid [] valid = λ k d inside. absurd (omega arith)
all_valid (x ∷ xs) valid =
    list_valid x (all_known xs) (valid 0 x (omega arith))
    (all_valid xs (λ k d inside. valid (suc k) d (omega arith)))

terms_valid : (negative : List Bool) (types : List FxType) → All IsType types
    → All (λ term. IsType term.1) (zip negative types)
terms_valid [] types valid k d inside = absurd (omega arith)
terms_valid (n ∷ signs) [] valid k d inside = absurd (omega arith)
terms_valid (n ∷ signs) (x ∷ xs) valid zero d inside = valid 0 x (omega arith)
terms_valid (n ∷ signs) (x ∷ xs) valid (suc k) d inside =
    terms_valid signs xs (λ j e i. valid (suc j) e (omega arith)) k d (omega arith)

-- an accumulator's type is valid where each step's is
kept_valid : (o : Option FxType) (accum : Option FxType) → IsKnownValid accum
    → IsKnownValid (with_known o (λ full. accum))
kept_valid None accum valid = tt
kept_valid (Some full) accum valid = valid

stepped_valid : (accum : FxType) (terms : Terms) → IsType accum → IsKnownValid (stepped accum terms)
stepped_valid accum [] valid = valid
stepped_valid accum (term ∷ terms) valid =
    kept_valid (full_sum_of ((false, accum) ∷ term ∷ [])) (stepped accum terms)
    (stepped_valid accum terms valid)

first_valid : (terms : Terms) → All (λ term. IsType term.1) terms → IsKnownValid (stepped_first terms)
first_valid [] valid = tt
first_valid (term ∷ terms) valid = stepped_valid term.1 (term ∷ terms) (valid 0 term (omega arith))

named_by : FullTypesAreValid → (accum : TypeSpec) → IsKnownValid (explicit_type accum) → (terms : Terms)
    → All (λ term. IsType term.1) terms → IsKnownValid (sum_named accum terms)
named_by full (Fixed type) is terms valid = stepped_valid type terms is
named_by full Internal is terms valid =
    given (full_sum_of terms) (λ type e. full.sums terms type valid e)
named_by full SameFirst is terms valid = first_valid terms valid
named_by full Auto is terms valid = tt

named_valid : FullTypesAreValid → (accum : TypeSpec) → IsKnownValid (explicit_type accum)
    → (negative : List Bool) (o : Option (List FxType)) → AllValid o
    → IsKnownValid (with_known o (λ known. sum_named accum (zip negative known)))
unfolding AllValid
named_valid full accum is negative None valid = tt
named_valid full accum is negative (Some types) valid =
    named_by full accum is (zip negative types) (terms_valid negative types valid)

product_test : (test : Bool) (type : FxType) → test ≡ is_valid_type type
    → IsKnownValid (cond test (Some type) None)
product_test true type e = type_valid type (sym e)
product_test false type e = tt

product_valid : (left right : FxType) → IsKnownValid (full_product_of left right)
product_valid left right =
    let signed = is_signed left || is_signed right in
    let width = width_of left + width_of right in
    let frac =
    frac_of left +ℤ frac_of right in product_test (is_valid_type (Num signed width frac))
    (Num signed width frac) refl

scaled_valid : (input : FxType) (o : Option FxType)
    → IsKnownValid (with_known o (full_product_of input))
scaled_valid input None = tt
scaled_valid input (Some param) = product_valid input param

union_valid : FullTypesAreValid → (left right : Option FxType) → IsKnownValid left
    → IsKnownValid right → IsKnownValid (with_known left (λ a. with_known right (union_of a)))
union_valid full None right l r = tt
union_valid full (Some a) None l r = tt
union_valid full (Some a) (Some b) l r = given (union_of a b) (λ type e. full.unions a b type l r e)

pair_valid : (left right : Option FxType)
    → IsKnownValid (with_known left (λ a. with_known right (full_product_of a)))
pair_valid None right = tt
pair_valid (Some a) right = scaled_valid a right

gain_valid : (value : List Decimal) (param : TypeSpec) (o : Option FxType)
    → IsKnownValid
    (with_known o (λ input. with_known (param_type_of value param input) (full_product_of input)))
gain_valid value param None = tt
gain_valid value param (Some input) = scaled_valid input (param_type_of value param input)

-- the type that an accumulator writes out is valid
IsWritten : FullRule → Type 0
IsWritten FullRule.NoFull = Unit {0}
IsWritten (FullRule.FullSum negative accum) = IsKnownValid (explicit_type accum)
IsWritten (FullRule.FullScaled value param) = Unit {0}
IsWritten FullRule.FullProduct = Unit {0}
IsWritten FullRule.UnionOfTwo = Unit {0}
IsWritten FullRule.UnionOfEnds = Unit {0}

written : (rule : FullRule) (inputs : ℕ) → is_full_ready rule inputs ≡ true → IsWritten rule
unfolding IsWritten
written FullRule.NoFull inputs ready = tt
written (FullRule.FullSum negative accum) inputs ready =
    let few = nat_le (length negative) 32 && is_valid_spec accum in
    let counted = nat_le 1 (length negative) && few in
    spec_valid accum (and_parts (nat_le (length negative) 32) (is_valid_spec accum)
    (and_parts (nat_le 1 (length negative)) few
    (and_parts (length negative == inputs) counted ready).1).1).1
written (FullRule.FullScaled value param) inputs ready = tt
written FullRule.FullProduct inputs ready = tt
written FullRule.UnionOfTwo inputs ready = tt
written FullRule.UnionOfEnds inputs ready = tt

full_valid : FullTypesAreValid → (rule : FullRule) → IsWritten rule → (types : Types)
    → All IsKnownValid types → IsKnownValid (full_type rule types)
unfolding IsWritten
full_valid full FullRule.NoFull is types valid = tt
full_valid full (FullRule.FullSum negative accum) is types valid =
    named_valid full accum is negative (all_known types) (all_valid types valid)
full_valid full (FullRule.FullScaled value param) is types valid =
    gain_valid value param (known_at types 0)
full_valid full FullRule.FullProduct is types valid = pair_valid (known_at types 0) (known_at types 1)
full_valid full FullRule.UnionOfTwo is types valid =
    union_valid full (known_at types 0) (known_at types 1) (known_valid types valid 0)
    (known_valid types valid 1)
full_valid full FullRule.UnionOfEnds is types valid =
    union_valid full (known_at types 0) (known_at types 2) (known_valid types valid 0)
    (known_valid types valid 2)

-- the type that a kind always has is valid
IsOwnValid : OwnType → Type 0
IsOwnValid OwnType.Untyped = Unit {0}
IsOwnValid (OwnType.Always type) = IsType type
IsOwnValid OwnType.OfInput = Unit {0}

own_is : (kind : Kind) → IsOwnValid (row_of kind).types.own
unfolding IsOwnValid
own_is Ground = ((omega arith, omega arith), omega (arith, ints), omega (arith, ints))
own_is _ = tt

own_valid : (own : OwnType) (types : Types) → IsOwnValid own → All IsKnownValid types
    → IsKnownValid (own_type own types)
unfolding IsOwnValid
own_valid OwnType.Untyped types is valid = tt
own_valid (OwnType.Always type) types is valid = is
own_valid OwnType.OfInput types is valid = known_valid types valid 0

by_spec : (spec : TypeSpec) (internal first own : Option FxType) → IsKnownValid (explicit_type spec)
    → IsKnownValid internal → IsKnownValid first
    → IsKnownValid own → IsKnownValid (specified_type spec internal first own)
by_spec (Fixed type) internal first own e i f o = e
by_spec Internal internal first own e i f o = i
by_spec SameFirst internal first own e i f o = f
by_spec Auto internal first own e i f o = o

internal_valid : FullTypesAreValid → (rule : FullRule) → IsWritten rule → (types : Types)
    → All IsKnownValid types → IsKnownValid (internal_type rule types)
unfolding IsWritten
internal_valid full FullRule.NoFull is types valid = tt
internal_valid full (FullRule.FullSum negative accum) is types valid =
    by_spec accum (full_type (FullRule.FullSum negative accum) types) (known_at types 0) None is
    (named_valid full accum is negative (all_known types) (all_valid types valid))
    (known_valid types valid 0) tt
internal_valid full (FullRule.FullScaled value param) is types valid =
    full_valid full (FullRule.FullScaled value param) is types valid
internal_valid full FullRule.FullProduct is types valid =
    full_valid full FullRule.FullProduct is types valid
internal_valid full FullRule.UnionOfTwo is types valid =
    full_valid full FullRule.UnionOfTwo is types valid
internal_valid full FullRule.UnionOfEnds is types valid =
    full_valid full FullRule.UnionOfEnds is types valid

next_valid : FullTypesAreValid → (o : Option Block) (types : Types)
    → ((block : Block) → o ≡ Some block → (is_valid_spec block.result ≡ true)
    × IsWritten (row_of block.kind).types.full)
    → All IsKnownValid types → IsKnownValid (type_of_next o types)
next_valid full None types ready valid = tt
next_valid full (Some block) types ready valid =
    by_spec block.result (internal_type (row_of block.kind).types.full types) (known_at types 0)
    (own_type (row_of block.kind).types.own types)
    (spec_valid block.result (ready block refl).0)
    (internal_valid full (row_of block.kind).types.full (ready block refl).1 types valid)
    (known_valid types valid 0)
    (own_valid (row_of block.kind).types.own types (own_is block.kind) valid)

or_valid : (own other : Option FxType) → IsKnownValid own → IsKnownValid other
    → IsKnownValid (known_or own other)
or_valid None other o t = t
or_valid (Some type) other o t = o

pub typed_stays : (blocks : List Block) (sources : List (List Source)) (values : Types) (block : ℕ)
    → AreReady blocks sources → FullTypesAreValid
    → All IsKnownValid values → IsKnownValid (next_typed blocks sources values block)
typed_stays blocks sources values block ready full valid =
    or_valid (known_at values block)
    (type_of_next (slice_get blocks block) (source_types values (get_or sources block [])))
    (known_valid values valid block)
    (next_valid full (slice_get blocks block) (source_types values (get_or sources block []))
    (λ b at. let both = and_parts (is_valid_spec b.result)
    (is_full_ready (row_of b.kind).types.full (length (get_or sources block [])))
    (ready.ready block b at) in
    (both.0, written (row_of b.kind).types.full (length (get_or sources block [])) both.1))
    (sources_valid values (get_or sources block []) valid))
