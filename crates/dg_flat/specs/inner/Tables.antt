-- Tables by place, and by row and number (own).
use Rattle.std.specs.Prelude.{◌≡◌, ℕ, ◌<◌, ◌≤◌, ◌+◌, ◌-◌, List, length, take, sum, slice_index, slice_index_or, Option, Some, None}
use Rattle.dg_flat.specs.declared.rows.Rows.{Rows}

-- the table has the value of each place below a count
pub record IsTable {X : Type 0} (count : ℕ) (value : ℕ → X) (table : List X) : Type 0 where
  pub size : length table ≡ count
  pub at : (k : ℕ) (d : X) → k < count → slice_index_or table k d ≡ value k

-- a row of these lengths has the number, from 1
pub record HasCell (lengths : List ℕ) (row number : ℕ) : Type 0 where
  pub there : row < length lengths
  pub above : 1 ≤ number
  pub within : number ≤ slice_index lengths row

-- the cell of a number, where the rows stand end to end
abbrev pub cell_at : List ℕ → ℕ → ℕ → ℕ
cell_at lengths row number = sum (take row lengths) + (number - 1)

-- the cell of a number, or none where its row has no such number
abbrev pub IsCell : List ℕ → ℕ → ℕ → Option ℕ → Type 0
IsCell lengths row number None = ¬ HasCell lengths row number
IsCell lengths row number (Some cell) =
    HasCell lengths row number × (cell ≡ cell_at lengths row number) × (cell < sum lengths)

-- the table has the value of each number of each row
pub record IsRowTable {X : Type 0} (lengths : List ℕ) (value : ℕ → ℕ → X)
    (table : List X) : Type 0 where
  pub size : length table ≡ sum lengths
  pub at : (row number : ℕ) (d : X) → HasCell lengths row number
      → slice_index_or table (cell_at lengths row number) d ≡ value row number

-- the rows start where those before them end
pub record AreRows (rows : Rows) : Type 0 where
  pub starts : IsTable (length rows.lengths.items)
      (λ row. sum (take row rows.lengths.items)) rows.starts.items
  pub cells : rows.cells ≡ sum rows.lengths.items
