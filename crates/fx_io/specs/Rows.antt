-- Rows, one for each of many things, while they are made (own).
use Rattle.std.specs.Prelude.{ℕ, ◌++◌, List, [], ◌∷◌, slice_index_or, slice_set}

-- the row of a thing
abbrev pub row_at : {A : Type 0} → List (List A) → ℕ → List A
row_at rows place = slice_index_or rows place []

-- the rows once an item is put at the end of one
abbrev pub noted : {A : Type 0} → List (List A) → ℕ → A → List (List A)
noted rows place item = slice_set rows place (row_at rows place ++ item ∷ [])
