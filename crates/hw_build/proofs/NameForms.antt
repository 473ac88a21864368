-- The names that are given are such as ports have, and differ.
use Prim.Native.Char.{code}
use Rattle.std.proofs.Common.{◌≡◌, ◌≢◌, ℕ, zero, suc, ◌^◌, ◌<◌, inl, inr, Bool, true, false, List, [], ◌∷◌, ◌++◌, length, Contains, codes, decimal, ap, sym, ◌∙◌, subst, refl, arith, if◌then◌else◌}
use Rattle.std.specs.Prelude.{nat_eq, nat_lt, not, map, ◌&&◌, slice_index_or, drop}
use Rattle.std.specs.List.{starts_with, list_all}
use Rattle.std.specs.Str.Parse.{AllDigits}
use Rattle.std.proofs.lemmas.Bool.{and_from, false≢true}
use Rattle.std.proofs.lemmas.Fmt.{decimal_is_IsNumeral, decimal_injective}
use Rattle.std.proofs.lemmas.Str.Parse.{digit_from_value}
use Rattle.std.proofs.lemmas.List.Folds.{list_all-append}
use Rattle.vl_names.specs.Identifiers.{continues_name, is_identifier}
use Rattle.hw_net.specs.Emittable.{IsPortName, IsLabelName}
use Rattle.hw_build.specs.Multiplied.{multiplication_name}
use Rattle.hw_build.specs.Pipelined.{stage_name}
use Rattle.hw_names.specs.Names.{plain_byte, element_name, port_name, own_names, IsGiven, Given}
use Rattle.vl_names.proofs.Digits.{digit_plain}

-- letters, digits and underscores
abbrev pub IsPlain : List ℕ → Type 0
IsPlain name = list_all continues_name name ≡ true

plain_by : (plain : Bool) (byte : ℕ) → (plain ≡ true → continues_name byte ≡ true) → continues_name (if plain then byte else code "_") ≡ true
plain_by true byte is = is refl
plain_by false byte is = refl

pub plain_map : (bytes : List ℕ) → IsPlain (map plain_byte bytes)
plain_map [] = refl
plain_map (byte ∷ bytes) = and_from (continues_name (plain_byte byte)) (list_all continues_name (map plain_byte bytes)) (plain_by (continues_name byte) byte (λ is. is)) (plain_map bytes)

pub plain_append : (front back : List ℕ) → IsPlain front → IsPlain back → IsPlain (front ++ back)
plain_append front back f b = list_all-append continues_name front back ∙ and_from (list_all continues_name front) (list_all continues_name back) f b

digits_plain : (digits : List ℕ) → AllDigits 10 digits → IsPlain digits
digits_plain [] all = refl
digits_plain (digit ∷ digits) all =
    let range = digit_from_value digit all.0
    in and_from (continues_name digit) (list_all continues_name digits) (digit_plain digit range.0 range.1) (digits_plain digits all.1)

-- with a number behind it
pub plain_number : (name : List ℕ) (number : ℕ) → number < 2 ^ 64 → IsPlain name → IsPlain (name ++ (codes "_" ++ decimal number))
plain_number name number small plain =
    plain_append name (codes "_" ++ decimal number) plain
    (plain_append (codes "_") (decimal number) refl
    (digits_plain (decimal number) (decimal_is_IsNumeral number small).0.1))

element_by : (wide : Bool) (path : List ℕ) (element : ℕ) → element < 2 ^ 64 → IsPlain (if wide then map plain_byte path ++ (codes "_" ++ decimal element) else map plain_byte path)
element_by true path element small = plain_number (map plain_byte path) element small (plain_map path)
element_by false path element small = plain_map path

-- the name of an element
pub plain_element : (path : List ℕ) (width element : ℕ) → element < 2 ^ 64 → IsPlain (element_name path width element)
plain_element path width element small = element_by (nat_lt 1 width) path element small

prefixed : (name : List ℕ) → IsPlain name → is_identifier (codes "p_" ++ name) ≡ true
prefixed name plain = ap (λ all. all && true) plain

identifier_by : (one two : Bool) (name : List ℕ) → IsPlain name → (one ≡ true → is_identifier name ≡ true) → is_identifier (if one && two then name else codes "p_" ++ name) ≡ true
identifier_by true true name plain is = is refl
identifier_by true false name plain is = prefixed name plain
identifier_by false two name plain is = prefixed name plain

other_first : (name rest : List ℕ) → codes "p_" ++ name ≢ codes "fx_" ++ rest
other_first name rest same = let e : 112 ≡ 102 = ap (λ bytes. slice_index_or bytes 0 0) same in absurd (omega (arith, e))

not_own_by : (one two : Bool) (name rest : List ℕ) → two ≡ not (starts_with nat_eq name (codes "fx_")) → (if one && two then name else codes "p_" ++ name) ≢ codes "fx_" ++ rest
not_own_by true true name rest is same =
    let e : true ≡ false = is ∙ ap (λ bytes. not (starts_with nat_eq bytes (codes "fx_"))) same in false≢true (sym e)
not_own_by true false name rest is same = other_first name rest same
not_own_by false two name rest is same = other_first name rest same

-- a plain name as that of a port, where the module has it not itself
pub port_named : (name : List ℕ) → IsPlain name → ¬ Contains own_names (port_name name) → IsPortName (port_name name)
port_named name plain free = record {
  identifier = identifier_by (is_identifier name) (not (starts_with nat_eq name (codes "fx_"))) name plain (λ is. is);
  no_clock = λ e. free (0, omega arith, sym e);
  no_reset = λ e. free (1, omega arith, sym e);
  no_enable = λ e. free (2, omega arith, sym e);
  no_enabled = λ e. free (3, omega arith, sym e);
  no_own = λ rest. not_own_by (is_identifier name) (not (starts_with nat_eq name (codes "fx_"))) name rest refl;
}

-- a name that is wanted is one of a plain one
abbrev pub IsWanted : List ℕ → Type 0
IsWanted wanted = (plain : List ℕ) × IsPlain plain × (wanted ≡ port_name plain)

plain_prefixed : (one : Bool) (name : List ℕ) → IsPlain name → IsPlain (if one then name else codes "p_" ++ name)
plain_prefixed true name plain = plain
plain_prefixed false name plain = plain_append (codes "p_") name refl plain

port_at : (taken : List (List ℕ)) (name plain : List ℕ)
    → ((own : List ℕ) → Contains own_names own → Contains taken own) → ¬ Contains taken name → IsPlain plain
    → name ≡ port_name plain → IsPortName name
port_at taken name plain own free so is = subst IsPortName (sym is) (port_named plain so (λ c. free (own name (subst (Contains own_names) (sym is) c))))

given_is : (taken : List (List ℕ)) (wanted name : List ℕ) → ((own : List ℕ) → Contains own_names own → Contains taken own) → IsWanted wanted → IsGiven taken wanted name → IsPortName name
given_is taken wanted name own is given = elim given.is [
  | inl same ↦ port_at taken name is.0 own given.free is.1 (same ∙ is.2)
  | inr other ↦
      let plain : IsPlain wanted = subst IsPlain (sym is.2) (plain_prefixed (is_identifier is.0 && not (starts_with nat_eq is.0 (codes "fx_"))) is.0 is.1)
      in port_at taken name (wanted ++ (codes "_" ++ decimal other.1.number)) own given.free (plain_number wanted other.1.number other.1.small plain) other.1.is
]

-- all that are given are names of ports
pub names_are : (taken wanted names : List (List ℕ))
    → ((own : List ℕ) → Contains own_names own → Contains taken own)
    → ((j : ℕ) (d : List ℕ) → j < length wanted → IsWanted (slice_index_or wanted j d))
    → Given taken wanted names
    → (j : ℕ) (d : List ℕ) → j < length names → IsPortName (slice_index_or names j d)
names_are taken [] [] own are given j d low = absurd (omega (arith, low))
names_are taken [] (name ∷ names) own are given j d low = absurd given
names_are taken (wanted ∷ others) [] own are given j d low = absurd given
names_are taken (wanted ∷ others) (name ∷ names) own are given zero d low = given_is taken wanted name own (are 0 d (omega arith)) given.0
names_are taken (wanted ∷ others) (name ∷ names) own are given (suc j) d low =
    names_are (name ∷ taken) others names (λ o c. let h = own o c in (suc h.0, omega (arith, h.1), h.2)) (λ i e less. are (suc i) e (omega (arith, less))) given.1 j d (omega (arith, low))

none_taken : (taken wanted names : List (List ℕ)) → Given taken wanted names → (j : ℕ) (d name : List ℕ) → j < length names → Contains taken name → slice_index_or names j d ≢ name
none_taken taken [] [] given j d name low has = absurd (omega (arith, low))
none_taken taken [] (first ∷ names) given j d name low has = absurd given
none_taken taken (wanted ∷ others) [] given j d name low has = absurd given
none_taken taken (wanted ∷ others) (first ∷ names) given zero d name low has = λ e. given.0.free (subst (Contains taken) (sym e) has)
none_taken taken (wanted ∷ others) (first ∷ names) given (suc j) d name low has = none_taken (first ∷ taken) others names given.1 j d name (omega (arith, low)) (suc has.0, omega (arith, has.1), has.2)

-- and no two are the same
pub names_differ : (taken wanted names : List (List ℕ)) → Given taken wanted names → (i j : ℕ) (d : List ℕ) → i < j → j < length names → slice_index_or names i d ≢ slice_index_or names j d
names_differ taken [] [] given i j d less low = absurd (omega (arith, low))
names_differ taken [] (first ∷ names) given i j d less low = absurd given
names_differ taken (wanted ∷ others) [] given i j d less low = absurd given
names_differ taken (wanted ∷ others) (first ∷ names) given i zero d less low = absurd (omega (arith, less))
names_differ taken (wanted ∷ others) (first ∷ names) given zero (suc j) d less low = λ e. none_taken (first ∷ taken) others names given.1 j d first (omega (arith, low)) (0, omega arith, refl) (sym e)
names_differ taken (wanted ∷ others) (first ∷ names) given (suc i) (suc j) d less low = names_differ (first ∷ taken) others names given.1 i j d (omega (arith, less)) (omega (arith, low))

-- ---- labels

numbers_plain : (one two three : ℕ) → one < 2 ^ 64 → two < 2 ^ 64 → three < 2 ^ 64 → IsPlain (decimal one ++ (codes "_" ++ (decimal two ++ (codes "_" ++ decimal three))))
numbers_plain one two three low mid high =
    plain_append (decimal one) (codes "_" ++ (decimal two ++ (codes "_" ++ decimal three))) (digits_plain (decimal one) (decimal_is_IsNumeral one low).0.1)
    (plain_append (codes "_") (decimal two ++ (codes "_" ++ decimal three)) refl (plain_number (decimal two) three high (digits_plain (decimal two) (decimal_is_IsNumeral two mid).0.1)))

pipe_identifier : (rest : List ℕ) → IsPlain rest → is_identifier (codes "fx_p" ++ rest) ≡ true
pipe_identifier rest plain = ap (λ all. all && true) plain

-- a stage's is one
pub stage_labelled : (block element stage : ℕ) → block < 2 ^ 64 → element < 2 ^ 64 → stage < 2 ^ 64 → IsLabelName (stage_name block element stage)
stage_labelled block element stage low mid high = record {
  identifier = pipe_identifier (decimal block ++ (codes "_" ++ (decimal element ++ (codes "_" ++ decimal stage)))) (numbers_plain block element stage low mid high);
  begins = inr (decimal block ++ (codes "_" ++ (decimal element ++ (codes "_" ++ decimal stage))), refl);
}

no_digit : AllDigits 10 (95 ∷ []) → ⊥
no_digit all = let range = digit_from_value 95 all.0 in absurd (omega (arith, range.1))

pair_same : (front back : List ℕ) (byte : ℕ) (one two : List ℕ) → (front ≡ back) × (one ≡ two) → (byte ∷ front ≡ byte ∷ back) × (one ≡ two)
pair_same front back byte one two h = (ap (λ bytes. byte ∷ bytes) h.0, h.1)

split_at : (front back one two : List ℕ) → AllDigits 10 front → AllDigits 10 back → front ++ (95 ∷ one) ≡ back ++ (95 ∷ two) → (front ≡ back) × (one ≡ two)
split_at [] [] one two f b e = (refl, ap (drop 1) e)
split_at [] (byte ∷ back) one two f b e = absurd (no_digit (subst (λ n. AllDigits 10 (n ∷ [])) (sym (ap (λ bytes. slice_index_or bytes 0 0) e)) (b.0, tt)))
split_at (byte ∷ front) [] one two f b e = absurd (no_digit (subst (λ n. AllDigits 10 (n ∷ [])) (ap (λ bytes. slice_index_or bytes 0 0) e) (f.0, tt)))
split_at (byte ∷ front) (other ∷ back) one two f b e =
    let first : byte ≡ other = ap (λ bytes. slice_index_or bytes 0 0) e in
    let rest = split_at front back one two f.1 b.1 (ap (drop 1) e)
    in (ap (λ bytes. byte ∷ bytes) rest.0 ∙ ap (λ n. n ∷ back) first, rest.1)

digits_of_number : (number : ℕ) → number < 2 ^ 64 → AllDigits 10 (decimal number)
digits_of_number number small = (decimal_is_IsNumeral number small).0.1

-- and two stages have different ones
pub stage_injective : (block element stage other member step : ℕ) → block < 2 ^ 64 → element < 2 ^ 64 → stage < 2 ^ 64 → other < 2 ^ 64 → member < 2 ^ 64 → step < 2 ^ 64
    → stage_name block element stage ≡ stage_name other member step → (block ≡ other) × (element ≡ member) × (stage ≡ step)
stage_injective block element stage other member step b e s o m t same =
    let outer = split_at (decimal block) (decimal other) (decimal element ++ (codes "_" ++ decimal stage))
    (decimal member ++ (codes "_" ++ decimal step)) (digits_of_number block b) (digits_of_number other o)
    (ap (drop 4) same) in
    let inner = split_at (decimal element) (decimal member) (decimal stage) (decimal step) (digits_of_number element e) (digits_of_number member m) outer.1
    in (decimal_injective block other b o outer.0, decimal_injective element member e m inner.0, decimal_injective stage step s t inner.1)

product_identifier : (rest : List ℕ) → IsPlain rest → is_identifier (codes "fx_m" ++ rest) ≡ true
product_identifier rest plain = ap (λ all. all && true) plain

-- and those of multiplications
pub multiplication_labelled : (block element : ℕ) → block < 2 ^ 64 → element < 2 ^ 64 → IsLabelName (multiplication_name block element)
multiplication_labelled block element low mid = record {
  identifier = product_identifier (decimal block ++ (codes "_" ++ decimal element)) (plain_number (decimal block) element mid (digits_plain (decimal block) (digits_of_number block low)));
  begins = inl (decimal block ++ (codes "_" ++ decimal element), refl);
}

pub multiplication_injective : (block element other member : ℕ) → block < 2 ^ 64 → element < 2 ^ 64 → other < 2 ^ 64
    → member < 2 ^ 64 → multiplication_name block element ≡ multiplication_name other member
    → (block ≡ other) × (element ≡ member)
multiplication_injective block element other member b e o m same =
    let outer = split_at (decimal block) (decimal other) (decimal element) (decimal member) (digits_of_number block b) (digits_of_number other o) (ap (drop 4) same)
    in (decimal_injective block other b o outer.0, decimal_injective element member e m outer.1)

-- and a multiplication's is none of a stage
pub labels_apart : (one two : List ℕ) → codes "fx_m" ++ one ≢ codes "fx_p" ++ two
labels_apart one two same = let e : 109 ≡ 112 = ap (λ bytes. slice_index_or bytes 3 0) same in absurd (omega (arith, e))
