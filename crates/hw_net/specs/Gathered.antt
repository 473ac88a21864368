-- What an accumulator shows over clocks: the sum of what it took since its frame began (own).
use Rattle.std.specs.Prelude.{◌≡◌, ◌≢◌, ℕ, zero, suc, ◌+◌, ◌<◌, Bool, ℤ, pos, ◌+ℤ◌}
use Rattle.math_num.specs.Word.{InWord, IsWrapped}
use Rattle.hw_net.specs.Registers.{Wave, Span, IsAcc}
use Rattle.hw_net.specs.Closed.{frame_start}

-- what is added at each clock
pub record IsPart (enable from part : Wave) : Type 0 where
  pub on : (c : ℕ) → enable c ≢ pos 0 → part c ≡ from c
  pub off : (c : ℕ) → enable c ≡ pos 0 → part c ≡ pos 0

-- the sum over so many clocks from one on
abbrev pub total : Wave → ℕ → ℕ → ℤ
total part start zero = pos 0
total part start (suc count) = total part start count +ℤ part (start + count)

-- within a frame the wave is the sum of the parts of the clocks before, cut to its word
pub record AccShows (n : ℕ) (span : Span) (width : ℕ) (signed : Bool)
    (part wave : Wave) : Type 0 where
  pub within : (k j : ℕ) → frame_start span k + j < n → j < span.length
      → IsWrapped (total part (frame_start span k) j) width signed (wave (frame_start span k + j))

abbrev pub AccIsClosed : Type 0
AccIsClosed =
    (n : ℕ) (span : Span) (width : ℕ) (signed : Bool) (enable from part wave : Wave)
    → 0 < span.length → ((c : ℕ) → c < n → InWord width signed (wave c))
    → ((c : ℕ) → c < n → c < span.start → enable c ≡ pos 0) → IsPart enable from part
    → IsAcc n span width signed enable from wave → AccShows n span width signed part wave
