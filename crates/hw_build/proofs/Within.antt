-- Places that have an entry in a list that was read.
use Rattle.std.proofs.Common.{◌≡◌, ◌<◌, ℕ, List, length, ap, arith}

-- the list has one for each of so many
pub entry_read : (count place : ℕ) (list read : List ℕ) → place < count → length list ≡ count → read ≡ list → place < length read
entry_read count place list read there size same = omega (arith, there, size, ap (λ (xs : List ℕ). length xs) same)
