-- Numbers one after another, and the greatest of a list (own).
use Rattle.std.specs.Prelude.{ℕ, zero, suc, List, [], ◌∷◌, max}

-- n numbers from k on
abbrev pub numbers_from : ℕ → ℕ → List ℕ
numbers_from k zero = []
numbers_from k (suc n) = k ∷ numbers_from (suc k) n

-- the greatest of a list, and 0 of an empty one
abbrev pub greatest : List ℕ → ℕ
greatest [] = 0
greatest (x ∷ xs) = max x (greatest xs)
