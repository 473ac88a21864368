-- The response of a sample has a field for each number: one in each line, and a second in each other one.
use Rattle.std.proofs.Common.{◌≡◌, ℕ, zero, suc, ◌+◌, ◌%◌, ◌≤◌, ◌<◌, ℤ, Bool, true, false, ◌&&◌, List, [], ◌∷◌, ◌++◌, length, Some, slice_get, bytes_eq, refl, sym, ap}
use Rattle.std.proofs.Common.{◌∙◌, append_assoc, append-nil, arith}
use Rattle.std.specs.Prelude.{Option, ◌==◌, not, if◌then◌else◌}
use Rattle.std.specs.List.{AllByRecursion, join_with_byte, slice_split}
use Rattle.std.proofs.lemmas.Bool.{ne_eqb}
use Rattle.std.proofs.lemmas.List.Splits.{slice_split_at, slice_split_none}
use Rattle.cmd_sample.specs.Summary.{are_equal, equal_at, equal_count, equal_in, field_at, field_in, one_if}
use Rattle.fx_tables.specs.Response.{response, response_fields, response_line, text_of_field}
use Rattle.math_list.proofs.ByRecursion.{all_of}
use Rattle.math_list.proofs.Tests.{same_bytes}
use Rattle.laws_commands.proofs.PlainBytes.{IsPlain, none-marks, none-of-mark, plain-signed, some-signed}

-- ---- marks
abbrev newline : ℕ → Bool
newline byte = byte == 10

abbrev space : ℕ → Bool
space byte = byte == 32

-- a byte of a line is none that ends it
abbrev IsInLine : ℕ → Type 0
IsInLine byte = newline byte ≡ false

abbrev periods : List ℕ
periods = 1 ∷ 2 ∷ []

dash-plain : AllByRecursion IsPlain (45 ∷ [])
dash-plain = (record { low = omega arith; high = omega arith }, tt)

plain-field : (hit : Bool) (value : ℤ) → AllByRecursion IsPlain (text_of_field hit value)
plain-field true value = plain-signed value
plain-field false value = dash-plain

some-field : (hit : Bool) (value : ℤ) → 0 < length (text_of_field hit value)
some-field true value = some-signed value
some-field false value = omega arith

in-line : (bytes : List ℕ) → AllByRecursion IsPlain bytes → AllByRecursion IsInLine bytes
in-line bytes plain = none-marks newline (none-of-mark 10 (omega arith)) bytes plain

-- ---- lines
abbrev line : ℕ → List ℤ → List ℕ
line sample values = join_with_byte 32 (response_fields sample periods values)

joined-in-line : (front back : List ℕ) → AllByRecursion IsInLine front → AllByRecursion IsInLine back → AllByRecursion IsInLine (front ++ 32 ∷ back)
joined-in-line [] back front-in back-in = (refl, back-in)
joined-in-line (byte ∷ front) back front-in back-in = (front-in.0, joined-in-line front back front-in.1 back-in)

line-in-line : (sample : ℕ) (values : List ℤ) → AllByRecursion IsInLine (line sample values)
line-in-line sample [] = tt
line-in-line sample (a ∷ []) = in-line (text_of_field (sample % 1 == 0) a) (plain-field (sample % 1 == 0) a)
line-in-line sample (a ∷ b ∷ values) =
    joined-in-line (text_of_field (sample % 1 == 0) a) (text_of_field (sample % 2 == 0) b)
    (in-line (text_of_field (sample % 1 == 0) a) (plain-field (sample % 1 == 0) a))
    (in-line (text_of_field (sample % 2 == 0) b) (plain-field (sample % 2 == 0) b))

ends-at : (sample : ℕ) (values : List ℤ) (rest : List ℕ) → slice_split newline (response_line periods sample values ++ rest) ≡ line sample values ∷ slice_split newline rest
ends-at sample values rest =
    ap (slice_split newline) (append_assoc (line sample values) (10 ∷ []) rest)
    ∙ slice_split_at newline (line sample values) 10 rest (all_of IsInLine (line sample values) (line-in-line sample values)) refl

module _ (row : ℕ → List ℤ) where
  abbrev text : ℕ → List ℕ
  text samples = response periods row samples

  behind : (samples : ℕ) (rest : List ℕ) (place : ℕ) → slice_get (slice_split newline (text samples ++ rest)) (samples + place) ≡ slice_get (slice_split newline rest) place
  behind zero rest place = let none : 0 + place ≡ place = omega arith in ap (λ (k : ℕ). slice_get (slice_split newline rest) k) none
  behind (suc samples) rest place =
      let whole : text samples ++ response_line periods samples (row samples) ++ rest ≡ text samples ++ (response_line periods samples (row samples) ++ rest) =
      append_assoc (text samples) (response_line periods samples (row samples)) rest in
      let later : suc samples + place ≡ samples + suc place = omega arith in
      ap (λ (bytes : List ℕ). slice_get (slice_split newline bytes) (suc samples + place)) whole
      ∙ ap (λ (k : ℕ). slice_get (slice_split newline (text samples ++ (response_line periods samples (row samples) ++ rest))) k) later
      ∙ behind samples (response_line periods samples (row samples) ++ rest) (suc place)
      ∙ ap (λ (parts : List (List ℕ)). slice_get parts (suc place)) (ends-at samples (row samples) rest)

  -- the text goes on behind the first samples
  more : (samples later : ℕ) → (rest : List ℕ) × (text (later + samples) ≡ text samples ++ rest)
  more samples zero = let none : 0 + samples ≡ samples = omega arith in ([], ap text none ∙ sym (append-nil (text samples)))
  more samples (suc later) =
      let before = more samples later in
      let next : suc later + samples ≡ suc (later + samples) = omega arith in (
        before.0 ++ response_line periods (later + samples) (row (later + samples)),
        ap text next
            ∙ ap (λ (bytes : List ℕ). bytes ++ response_line periods (later + samples) (row (later + samples))) before.1
            ∙ append_assoc (text samples) before.0 (response_line periods (later + samples) (row (later + samples))),
      )

  line-at : (sample later : ℕ) → slice_get (slice_split newline (text (later + suc sample))) sample ≡ Some (line sample (row sample))
  line-at sample later =
      let rest = more (suc sample) later in
      let none : sample ≡ sample + 0 = omega arith in
      ap (λ (bytes : List ℕ). slice_get (slice_split newline bytes) sample) rest.1
      ∙ ap (λ (bytes : List ℕ). slice_get (slice_split newline bytes) sample) (append_assoc (text sample) (response_line periods sample (row sample)) rest.0)
      ∙ ap (λ (k : ℕ). slice_get (slice_split newline (text sample ++ (response_line periods sample (row sample) ++ rest.0))) k) none
      ∙ behind sample (response_line periods sample (row sample) ++ rest.0) 0
      ∙ ap (λ (parts : List (List ℕ)). slice_get parts 0) (ends-at sample (row sample) rest.0)

  -- ---- fields
  no-space : (bytes : List ℕ) → AllByRecursion IsPlain bytes → AllByRecursion (λ byte. space byte ≡ false) bytes
  no-space bytes plain = none-marks space (none-of-mark 32 (omega arith)) bytes plain

  two-fields : (front back : List ℕ) → AllByRecursion IsPlain front → AllByRecursion IsPlain back → slice_split space (front ++ 32 ∷ back) ≡ front ∷ back ∷ []
  two-fields front back front-plain back-plain =
      slice_split_at space front 32 back (all_of (λ byte. space byte ≡ false) front (no-space front front-plain)) refl
      ∙ ap (λ (parts : List (List ℕ)). front ∷ parts) (slice_split_none space back (all_of (λ byte. space byte ≡ false) back (no-space back back-plain)))

  itself : (field : List ℕ) → 0 < length field → are_equal (Some field) (Some field) ≡ true
  itself field some =
      ap (λ (b : Bool). not b && bytes_eq field field) (ne_eqb (length field) 0 (λ none. omega (arith, none, some)))
      ∙ same_bytes field

  abbrev first : ℕ → ℤ → List ℕ
  first sample a = text_of_field (sample % 1 == 0) a

  abbrev second : ℕ → ℤ → List ℕ
  second sample b = text_of_field (sample % 2 == 0) b

  module _ (wide : (sample : ℕ) → sample < 8 → 2 ≤ length (row sample)) where
    fields : (sample : ℕ) (values : List ℤ) → 2 ≤ length values
        → (a : ℤ) × ((b : ℤ) × (slice_split space (line sample values) ≡ first sample a ∷ second sample b ∷ []))
    fields sample [] some = absurd (omega (arith, some))
    fields sample (a ∷ []) some = absurd (omega (arith, some))
    fields sample (a ∷ b ∷ values) some = (a, (b, two-fields (first sample a) (second sample b) (plain-field (sample % 1 == 0) a) (plain-field (sample % 2 == 0) b)))

    module _ (sample later : ℕ) (whole : later + suc sample ≡ 8) where
      below : sample < 8
      below = omega (arith, whole)

      split : (a : ℤ) × ((b : ℤ) × (slice_split space (line sample (row sample)) ≡ first sample a ∷ second sample b ∷ []))
      split = fields sample (row sample) (wide sample below)

      at-line : (column : ℕ) → field_at (text 8) sample column ≡ slice_get (slice_split space (line sample (row sample))) column
      at-line column = ap (λ (found : Option (List ℕ)). field_in found column)
          (ap (λ (n : ℕ). slice_get (slice_split newline (text n)) sample) (sym whole) ∙ line-at sample later)

      first-at : field_at (text 8) sample 0 ≡ Some (first sample (split).0)
      first-at = at-line 0 ∙ ap (λ (parts : List (List ℕ)). slice_get parts 0) (split).1.1

      second-at : field_at (text 8) sample 1 ≡ Some (second sample (split).1.0)
      second-at = at-line 1 ∙ ap (λ (parts : List (List ℕ)). slice_get parts 1) (split).1.1

      first-equal : equal_at (text 8) (text 8) sample 0 ≡ 1
      first-equal = ap (λ (found : Option (List ℕ)). one_if (are_equal found found)) first-at ∙ ap one_if (itself (first sample (split).0) (some-field (sample % 1 == 0) (split).0))

      second-equal : equal_at (text 8) (text 8) sample 1 ≡ 1
      second-equal = ap (λ (found : Option (List ℕ)). one_if (are_equal found found)) second-at ∙ ap one_if (itself (second sample (split).1.0) (some-field (sample % 2 == 0) (split).1.0))

    even : (sample later : ℕ) → later + suc sample ≡ 8 → (sample % 2 == 0) ≡ true → equal_in (text 8) (text 8) sample ≡ 2
    even sample later whole is =
        let one = first-equal sample later whole in
        let other : (if sample % 2 == 0 then equal_at (text 8) (text 8) sample 1 else 0) ≡ 1 =
        ap (λ (b : Bool). if b then equal_at (text 8) (text 8) sample 1 else 0) is ∙ second-equal sample later whole in
        omega (arith, one, other)

    odd : (sample later : ℕ) → later + suc sample ≡ 8 → (sample % 2 == 0) ≡ false → equal_in (text 8) (text 8) sample ≡ 1
    odd sample later whole is =
        let one = first-equal sample later whole in
        let other : (if sample % 2 == 0 then equal_at (text 8) (text 8) sample 1 else 0) ≡ 0 = ap (λ (b : Bool). if b then equal_at (text 8) (text 8) sample 1 else 0) is in
        omega (arith, one, other)

    pub all-equal : equal_count (text 8) (text 8) ≡ 12
    all-equal =
        let e0 = even 0 7 refl refl in
        let e1 = odd 1 6 refl refl in
        let e2 = even 2 5 refl refl in
        let e3 = odd 3 4 refl refl in
        let e4 = even 4 3 refl refl in
        let e5 = odd 5 2 refl refl in
        let e6 = even 6 1 refl refl in
        let e7 = odd 7 0 refl refl in
        omega (arith, e0, e1, e2, e3, e4, e5, e6, e7)
