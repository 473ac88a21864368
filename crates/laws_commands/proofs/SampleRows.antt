-- The stimulus of a sample fits a column of 16 bits with a number in each base sample.
use Rattle.std.proofs.Common.{◌≡◌, ℕ, zero, suc, ◌+◌, ◌-◌, ◌*◌, ◌/◌, ◌%◌, ◌^◌, ◌≤◌, ◌<◌, ℤ, pos, negsuc, Bool, true, false, ◌&&◌, List, [], ◌∷◌, ◌++◌, length, map, decimal, refl, ap, subst}
use Rattle.std.proofs.Common.{◌∙◌, append_assoc, arith}
use Rattle.std.specs.Prelude.{Option, None, ◌==◌, ◌||◌, ◌≤ℤ◌, filter, int_le, nat_le, neg_ℤ, not, slice_index}
use Rattle.std.specs.Char.{is_ascii_digit}
use Rattle.std.specs.Fmt.{signed_decimal}
use Rattle.std.specs.List.{AllByRecursion, flat_map, list_all, range_with_len, slice_split}
use Rattle.std.specs.Str.Lines.{lines, lines_of_parts, strip_carriage_return}
use Rattle.std.specs.Option.{option_or}
use Rattle.std.specs.Str.Parse.{AllDigits, digits_value}
use Rattle.fx_text.specs.Digits.{is_number}
use Rattle.std.proofs.lemmas.Bool.{and_from, cond-false, cond-true, eq-eqb, le-leb, le-ltb, ne_eqb}
use Rattle.std.proofs.lemmas.Int.{ints}
use Rattle.std.proofs.lemmas.Fmt.{decimal_is_IsNumeral_wide, length-decimal-le_wide}
use Rattle.std.proofs.lemmas.List.Splits.{length-slice_split, slice_split_at, slice_split_none}
use Rattle.std.proofs.lemmas.Str.Parse.{digit_from_value}
use Rattle.cmd_sample.specs.Numbers.{number_after, sample_number}
use Rattle.cmd_sample.specs.Stimulus.{sample_stimulus, stimulus_at, stimulus_of}
use Rattle.fx_tables.specs.declared.table.Column.{Column}
use Rattle.fx_tables.specs.Fields.{fields_of, is_blank, is_run}
use Rattle.fx_tables.specs.declared.table.TableCause.{TableCause}
use Rattle.fx_tables.specs.Stimulus.{count_or_fields_fault, fault_or, field_fault, is_dash, is_in_range, is_too_large, line_fault, lines_fault, stimulus_fault}
use Rattle.fx_tables.specs.Whole.{digits_of_whole, is_whole, whole_value}
use Rattle.math_list.proofs.ByRecursion.{all_of}
use Rattle.math_list.proofs.Searches.{Decides-int_le}
use Rattle.math_list.proofs.Tests.{and_false}
use Rattle.laws_commands.proofs.PlainBytes.{IsPlain, none-marks, none-of-mark, plain-signed, some-signed}

-- ---- lines
abbrev newline : ℕ → Bool
newline byte = byte == 10

not-last : (mark : ℕ) → mark < 45 → (v : ℤ) → (slice_index (signed_decimal v) (length (signed_decimal v) - 1) == mark) ≡ false
not-last mark low v =
    let some = some-signed v in
    all_of (λ byte. (byte == mark) ≡ false) (signed_decimal v) (none-marks (λ byte. byte == mark) (none-of-mark mark low) (signed_decimal v) (plain-signed v))
    (length (signed_decimal v) - 1) 0 (omega (arith, some))

kept-whole : (v : ℤ) → strip_carriage_return (signed_decimal v) ≡ signed_decimal v
kept-whole v = cond-false (slice_index (signed_decimal v) (length (signed_decimal v) - 1) == 13) _ (signed_decimal v) (not-last 13 (omega arith) v)

before-others : (part : List ℕ) (parts : List (List ℕ)) → 0 < length parts → lines_of_parts (part ∷ parts) ≡ strip_carriage_return part ∷ lines_of_parts parts
before-others part [] some = absurd (omega (arith, some))
before-others part (next ∷ parts) some = refl

line-first : (v : ℤ) (rest : List ℕ) → lines ((signed_decimal v ++ 10 ∷ []) ++ rest) ≡ signed_decimal v ∷ lines rest
line-first v rest =
    let some = length-slice_split newline rest in
    ap (λ (bytes : List ℕ). lines_of_parts (slice_split newline bytes)) (append_assoc (signed_decimal v) (10 ∷ []) rest)
    ∙ ap lines_of_parts (slice_split_at newline (signed_decimal v) 10 rest
    (all_of (λ byte. newline byte ≡ false) (signed_decimal v) (none-marks newline (none-of-mark 10 (omega arith)) (signed_decimal v) (plain-signed v))) refl)
    ∙ before-others (signed_decimal v) (slice_split newline rest) (omega (arith, some))
    ∙ ap (λ (first : List ℕ). first ∷ lines rest) (kept-whole v)

abbrev number_of : ℕ → ℕ → ℤ
number_of count i = stimulus_of (sample_number count i)

lines-are : (count : ℕ) (places : List ℕ) → lines (flat_map (stimulus_at count) places) ≡ map (λ i. signed_decimal (number_of count i)) places
lines-are count [] = refl
lines-are count (i ∷ places) =
    line-first (number_of count i) (flat_map (stimulus_at count) places)
    ∙ ap (λ (others : List (List ℕ)). signed_decimal (number_of count i) ∷ others) (lines-are count places)

-- ---- a field
record IsShort (v : ℤ) : Type 0 where
  low : negsuc 32767 ≤ℤ v
  high : v ≤ℤ pos 32767

digits-pass : (ds : List ℕ) → AllDigits 10 ds → list_all is_ascii_digit ds ≡ true
digits-pass [] all = refl
digits-pass (d ∷ ds) all = let within = digit_from_value d all.0 in and_from (is_ascii_digit d) (list_all is_ascii_digit ds) (grind (arith, within)) (digits-pass ds all.1)

short-decimal : (n : ℕ) → n ≤ 32768 → is_number 64 (decimal n) ≡ true
short-decimal n small =
    let numeral = decimal_is_IsNumeral_wide n (omega arith) in
    let short = length-decimal-le_wide 5 n (omega arith) (omega arith) (omega arith) in
    let some = numeral.0.0 in
    and_from (nat_le 1 (length (decimal n)) && nat_le (length (decimal n)) 64) (list_all is_ascii_digit (decimal n))
    (and_from (nat_le 1 (length (decimal n))) (nat_le (length (decimal n)) 64) (le-leb 1 (length (decimal n)) (omega (arith, some))) (le-leb (length (decimal n)) 64 (omega (arith, short))))
    (digits-pass (decimal n) numeral.0.1)

first-digit : (ds : List ℕ) → 0 < length ds → AllDigits 10 ds → (slice_index ds 0 == 45) ≡ false
first-digit [] some all = absurd (omega (arith, some))
first-digit (d ∷ ds) some all = let within = digit_from_value d all.0 in ne_eqb d 45 (λ same. omega (arith, same, within))

no-dash : (ds : List ℕ) → (slice_index ds 0 == 45) ≡ false → is_dash ds ≡ false
no-dash ds is = ap (λ (b : Bool). (length ds == 1) && b) is ∙ and_false (length ds == 1)

-- the column of an input of 16 bits
abbrev pub column : Column
column = record { low = negsuc 32767; high = pos 32767; period = 1 }

number-below : (count i : ℕ) → sample_number count (suc i) < 2 ^ 64
unfolding number_after
number-below count i = omega arith

is-short : (count i : ℕ) → IsShort (number_of count (suc i))
is-short count i =
    let below = number-below count i in
    let part : sample_number count (suc i) / 2 ^ 48 < 65536 = omega (arith, below) in
    record { low = omega (arith, ints, part); high = omega (arith, ints, part) }

-- what is read of it
is-no-dash : (v : ℤ) → IsShort v → is_dash (signed_decimal v) ≡ false
is-no-dash (pos n) short =
    let high = short.high in
    let numeral = decimal_is_IsNumeral_wide n (omega (arith, ints, high)) in
    no-dash (decimal n) (first-digit (decimal n) numeral.0.0 numeral.0.1)
is-no-dash (negsuc n) short =
    let low = short.low in
    let numeral = decimal_is_IsNumeral_wide (suc n) (omega (arith, ints, low)) in
    let some = numeral.0.0 in
    ap (λ (b : Bool). b && (45 == 45)) (ne_eqb (suc (length (decimal (suc n)))) 1 (λ one. omega (arith, one, some)))

digits-are : (n : ℕ) → n ≤ 32768 → digits_of_whole (decimal n) ≡ decimal n
digits-are n small =
    let numeral = decimal_is_IsNumeral_wide n (omega arith) in
    cond-false (slice_index (decimal n) 0 == 45) _ (decimal n) (first-digit (decimal n) numeral.0.0 numeral.0.1)

whole : (v : ℤ) → IsShort v → is_whole (signed_decimal v) ≡ true
whole (pos n) short =
    let high = short.high in
    let small : n ≤ 32768 = omega (arith, ints, high) in
    ap (is_number 64) (digits-are n small) ∙ short-decimal n small
whole (negsuc n) short = let low = short.low in short-decimal (suc n) (omega (arith, ints, low))

value : (v : ℤ) → IsShort v → whole_value (signed_decimal v) ≡ v
value (pos n) short =
    let high = short.high in
    let small : n ≤ 32768 = omega (arith, ints, high) in
    let numeral = decimal_is_IsNumeral_wide n (omega arith) in
    cond-false (slice_index (decimal n) 0 == 45) _ _ (first-digit (decimal n) numeral.0.0 numeral.0.1)
    ∙ ap (λ (ds : List ℕ). pos (digits_value 10 ds)) (digits-are n small) ∙ ap pos numeral.1
value (negsuc n) short =
    let low = short.low in
    let numeral = decimal_is_IsNumeral_wide (suc n) (omega (arith, ints, low)) in
    ap (λ (d : ℕ). neg_ℤ (pos d)) numeral.1

within : (v : ℤ) → IsShort v → is_in_range column v ≡ true
within v short = and_from (int_le (negsuc 32767) v) (int_le v (pos 32767)) ((Decides-int_le (negsuc 32767) v).1 short.low) ((Decides-int_le v (pos 32767)).1 short.high)

each-hits : (sample : ℕ) → (sample % 1 == 0) ≡ true
each-hits sample = eq-eqb (sample % 1) 0 (omega arith)

no-fault : (sample : ℕ) (v : ℤ) → IsShort v → field_fault sample column (signed_decimal v) ≡ None
no-fault sample v short =
    cond-false (is_dash (signed_decimal v)) _ _ (is-no-dash v short)
    ∙ cond-false (not (is_whole (signed_decimal v))) _ _ (ap not (whole v short))
    ∙ cond-false (not (sample % 1 == 0)) _ _ (ap not (each-hits sample))
    ∙ cond-true (is_in_range column (whole_value (signed_decimal v))) _ _ (ap (is_in_range column) (value v short) ∙ within v short)

-- ---- its line
none-blank : (byte : ℕ) → IsPlain byte → is_blank byte ≡ false
none-blank byte plain = ap (λ (b : Bool). b || (byte == 9)) (none-of-mark 32 (omega arith) byte plain) ∙ none-of-mark 9 (omega arith) byte plain

one-run : (bytes : List ℕ) → 0 < length bytes → filter is_run (bytes ∷ []) ≡ bytes ∷ []
one-run [] some = absurd (omega (arith, some))
one-run (byte ∷ bytes) some = refl

fields-are : (v : ℤ) → fields_of (signed_decimal v) ≡ signed_decimal v ∷ []
fields-are v =
    ap (filter is_run) (slice_split_none is_blank (signed_decimal v) (all_of (λ byte. is_blank byte ≡ false) (signed_decimal v) (none-marks is_blank none-blank (signed_decimal v) (plain-signed v))))
    ∙ one-run (signed_decimal v) (some-signed v)

few-cells : (sample : ℕ) → sample < 8 → is_too_large 1 2 (sample + 1) ≡ false
few-cells sample below = le-ltb 50000000 ((sample + 1) * 3) (omega (arith, below))

line-good : (sample : ℕ) (v : ℤ) → sample < 8 → IsShort v → line_fault (column ∷ []) 2 sample (signed_decimal v) ≡ None
line-good sample v below short =
    cond-false (is_too_large 1 2 (sample + 1)) _ _ (few-cells sample below)
    ∙ ap (count_or_fields_fault (column ∷ []) sample) (fields-are v)
    ∙ ap (λ (fault : Option TableCause). option_or fault None) (no-fault sample v short)

abbrev AreShort : ℕ → List ℕ → Type 0
AreShort count places = AllByRecursion (λ i. IsShort (number_of count i)) places

lines-good : (count sample : ℕ) (places : List ℕ) → AreShort count places → sample + length places ≤ 8
    → lines_fault (column ∷ []) 2 sample (map (λ i. signed_decimal (number_of count i)) places) ≡ None
lines-good count sample [] short few = refl
lines-good count sample (i ∷ places) short few =
    ap (λ (fault : Option TableCause). fault_or fault (sample + 1) (lines_fault (column ∷ []) 2 (sample + 1) (map (λ k. signed_decimal (number_of count k)) places)))
    (line-good sample (number_of count i) (omega (arith, few)) short.0)
    ∙ lines-good count (sample + 1) places short.1 (omega (arith, few))

eight-short : (count first many : ℕ) → AreShort count (range_with_len (suc first) many)
eight-short count first zero = tt
eight-short count first (suc many) =
    let next : suc (suc first) ≡ suc first + 1 = omega arith in
    (is-short count first, subst (λ (from : ℕ). AreShort count (range_with_len from many)) next (eight-short count (suc first) many))

pub stimulus-good : (count : ℕ) → stimulus_fault (column ∷ []) 2 (sample_stimulus count) ≡ None
stimulus-good count =
    let next : count + 1 ≡ suc count = omega arith in
    ap (λ (first : ℕ). stimulus_fault (column ∷ []) 2 (flat_map (stimulus_at count) (range_with_len first 8))) next
    ∙ ap (lines_fault (column ∷ []) 2 0) (lines-are count (range_with_len (suc count) 8))
    ∙ lines-good count 0 (range_with_len (suc count) 8) (eight-short count count 8) (omega arith)

pub eight-lines : (count : ℕ) → length (lines (sample_stimulus count)) ≡ 8
eight-lines count = ap (λ (xs : List (List ℕ)). length xs) (lines-are count (range_with_len (count + 1) 8))
