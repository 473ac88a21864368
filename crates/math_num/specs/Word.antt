-- Words of a width and a sign, the numbers that they hold, and congruence (own).
use Rattle.std.specs.Prelude.{◌≡◌, ℕ, ◌-◌, ◌^◌, ◌≤◌, Bool, true, false, ℤ, pos, neg_ℤ, ◌+ℤ◌, ◌*ℤ◌, ◌≤ℤ◌}

-- a word has 2 to 128 bits where it is signed, and else 1 to 127
abbrev pub IsWord : ℕ → Bool → Type 0
IsWord width true = (2 ≤ width) × (width ≤ 128)
IsWord width false = (1 ≤ width) × (width ≤ 127)

-- the least number of the word
abbrev pub word_lowest : ℕ → Bool → ℤ
word_lowest width true = neg_ℤ (pos (2 ^ (width - 1)))
word_lowest width false = pos 0

-- the greatest number of the word
abbrev pub word_highest : ℕ → Bool → ℤ
word_highest width true = pos (2 ^ (width - 1) - 1)
word_highest width false = pos (2 ^ width - 1)

-- v is one of the word's numbers
pub record InWord (width : ℕ) (signed : Bool) (v : ℤ) : Type 0 where
  pub low : word_lowest width signed ≤ℤ v
  pub high : v ≤ℤ word_highest width signed

-- a and b differ by a multiple of m
pub record IsCongruent (a b : ℤ) (m : ℕ) : Type 0 where
  pub turns : ℤ
  pub equal : a ≡ b +ℤ turns *ℤ pos m

-- r is the number of the word that is congruent to v modulo 2 to the width
pub record IsWrapped (v : ℤ) (width : ℕ) (signed : Bool) (r : ℤ) : Type 0 where
  pub in_word : InWord width signed r
  pub congruent : IsCongruent r v (2 ^ width)
