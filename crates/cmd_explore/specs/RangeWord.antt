-- The word that names a range of plans: `A..B,C..D`, clocks from A to B and multipliers from C to D
-- (own).
use Prim.Native.Char.{code}
use Rattle.std.specs.Prelude.{ℕ, ◌+◌, ◌==◌, ◌&&◌, ◌||◌, not, nat_eq, Bool, if◌then◌else◌, List, length, take, drop, codes, Option, Some, None}
use Rattle.std.specs.List.{position_or_len, starts_with}
use Rattle.std.specs.Str.Parse.{digits_value}
use Rattle.fx_text.specs.Digits.{is_number}
use Rattle.hw_explore.specs.declared.range.Ends.{Ends}
use Rattle.hw_explore.specs.declared.range.Range.{Range}
use Rattle.hw_explore.specs.Range.{range_between}

-- one to four digits, without a zero in front of others
abbrev pub is_plain : List ℕ → Bool
is_plain word =
    is_number 4 word && (nat_eq (length word) 1 || not (starts_with nat_eq word (codes "0")))

abbrev pub plain_number : List ℕ → Option ℕ
plain_number word = if is_plain word then Some (digits_value 10 word) else None

-- where a byte stands first, or the length
abbrev pub first_of : ℕ → List ℕ → ℕ
first_of mark word = position_or_len (λ byte. byte == mark) word

-- what stands before it, and what stands behind so many bytes from it on
abbrev pub before : ℕ → List ℕ → List ℕ
before mark word = take (first_of mark word) word

abbrev pub behind : ℕ → ℕ → List ℕ → List ℕ
behind mark count word = drop (first_of mark word + count) word

-- from a number to another
abbrev pub ends_by : Option ℕ → Option ℕ → Option Ends
ends_by (Some low) (Some high) = Some (record { low = low; high = high })
ends_by (Some low) None = None
ends_by None high = None

-- `A..B`
abbrev pub ends_of : List ℕ → Option Ends
ends_of word =
    if starts_with nat_eq (drop (first_of (code ".") word) word) (codes "..")
    then ends_by (plain_number (before (code ".") word)) (plain_number (behind (code ".") 2 word))
    else None

abbrev pub range_by : Option Ends → Option Ends → Option Range
range_by (Some cycles) (Some multipliers) = range_between cycles multipliers
range_by (Some cycles) None = None
range_by None multipliers = None

-- the range that a word names, where it has the shape
abbrev pub range_of : List ℕ → Option Range
range_of word = range_by (ends_of (before (code ",") word)) (ends_of (behind (code ",") 1 word))
