-- The last bit of a number, the ends of a word, and shifts down into one.
use Rattle.std.specs.Prelude.{◌≡◌, ℕ, ◌≤◌, Bool, true, false, ℤ, pos, negsuc, ◌+ℤ◌, ◌-ℤ◌, ◌≤ℤ◌}
use Rattle.math_num.specs.Word.{IsWord}
use Rattle.fx_type.specs.Conversion.{IsEven}

-- one where the number is odd, and else 0
pub record IsTie (v tie : ℤ) : Type 0 where
  pub low : pos 0 ≤ℤ tie
  pub high : tie ≤ℤ pos 1
  pub stays : tie ≡ pos 0 → IsEven v
  pub goes : tie ≡ pos 1 → IsEven (v +ℤ pos 1)

-- the least number of a word whose greatest one this is
abbrev pub least_beside : Bool → ℤ → ℤ
least_beside true highest = negsuc 0 -ℤ highest
least_beside false highest = pos 0

-- at least one place down, into a word
pub record IsLowering (by width : ℕ) (signed : Bool) : Type 0 where
  pub some : 1 ≤ by
  pub word : IsWord width signed
