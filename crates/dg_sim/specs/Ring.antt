-- A ring of the latest values of a Delay (own).
use Rattle.std.specs.Prelude.{ℕ, ◌+◌, ◌-◌, nat_lt, cond, ℤ, pos, List, map, length, slice_index_or}
use Rattle.math_list.specs.Numbers.{numbers_from}

-- where a ring of n places has the value that is k older than the latest, which stands at `head`
abbrev pub place : ℕ → ℕ → ℕ → ℕ
place n head k = cond (nat_lt (head + k) n) (head + k) (head + k - n)

-- what a ring keeps, the latest first; `filled` places are in use
abbrev pub ring_values : List ℤ → ℕ → ℕ → List ℤ
ring_values values head filled =
    map (λ k. slice_index_or values (place (length values) head k) (pos 0)) (numbers_from 0 filled)

-- the latest values of an element, the latest first, of as many as there is room for
pub record PastValues : Type 0 where
  pub room : ℕ
  pub values : List ℤ
