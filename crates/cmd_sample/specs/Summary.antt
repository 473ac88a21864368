-- The summary of a sample, and how many fields of two responses are equal (own).
use Prim.Native.Char.{code}
use Rattle.std.specs.Prelude.{ℕ, ◌+◌, ◌%◌, ◌==◌, ◌&&◌, not, Bool, false, if◌then◌else◌, List, ◌++◌, length, codes, Option, Some, None, slice_get, bytes_eq}
use Rattle.std.specs.Fmt.{decimal}
use Rattle.std.specs.List.{range_with_len, slice_split, sum_by}
use Rattle.cmd_sample.specs.declared.summing.Made.{Made}

-- the piece with this number, from 0, of those between marks
abbrev pub piece_at : ℕ → List ℕ → ℕ → Option (List ℕ)
piece_at mark text place = slice_get (slice_split (λ byte. byte == mark) text) place

-- the field at a place of a line, where there is a line
abbrev pub field_in : Option (List ℕ) → ℕ → Option (List ℕ)
field_in None column = None
field_in (Some line) column = piece_at (code " ") line column

-- the field of a base sample and a column
abbrev pub field_at : List ℕ → ℕ → ℕ → Option (List ℕ)
field_at text sample column = field_in (piece_at (code "\n") text sample) column

-- both fields are there, with the same bytes, of which there are some
abbrev pub are_equal : Option (List ℕ) → Option (List ℕ) → Bool
are_equal None other = false
are_equal (Some field) None = false
are_equal (Some field) (Some other) = not (length field == 0) && bytes_eq field other

abbrev pub one_if : Bool → ℕ
one_if equal = if equal then 1 else 0

-- whether the field of a base sample and a column stands in both responses
abbrev pub equal_at : List ℕ → List ℕ → ℕ → ℕ → ℕ
equal_at response told sample column =
    one_if (are_equal (field_at response sample column) (field_at told sample column))

-- how many fields of a base sample are equal at hits: `Out` hits at each, `Slow` at each second
abbrev pub equal_in : List ℕ → List ℕ → ℕ → ℕ
equal_in response told sample =
    equal_at response told sample 0
    + (if sample % 2 == 0 then equal_at response told sample 1 else 0)

-- how many of all eight
abbrev pub equal_count : List ℕ → List ℕ → ℕ
equal_count response told = sum_by (equal_in response told) (range_with_len 0 8)

-- a number behind its word, on a line
unfoldable pub number_line : List ℕ → ℕ → List ℕ
number_line word number = word ++ decimal number ++ codes "\n"

-- what a module says of itself
unfoldable pub made_lines : Made → List ℕ
made_lines made =
    number_line (codes "multiplications ") made.multiplications
    ++ number_line (codes "latency Out ") made.out_latency
    ++ number_line (codes "latency Slow ") made.slow_latency

-- how many fields are equal
unfoldable pub equal_line : ℕ → List ℕ
equal_line equal = codes "equal " ++ decimal equal ++ codes " of 12\n"

-- the summary of the sample of so many blocks, where so many fields are equal
abbrev pub summary_text : ℕ → Made → ℕ → List ℕ
summary_text count made equal =
    number_line (codes "blocks ") (count + 4) ++ number_line (codes "samples ") 8 ++ made_lines made
    ++ equal_line equal
