-- What a stimulus stands for, and its first fault. Samples, lines and columns count from 0; the
-- line that a fault names counts from 1 (own).
use Prim.Native.Char.{code}
use Rattle.std.specs.Prelude.{◌≡◌, ℕ, ℤ, pos, Bool, true, false, ◌<◌, slice_get, List, [], ◌∷◌, Option, None, Some, ◌+◌, ◌*◌, ◌%◌, ◌==◌, ◌&&◌, not, nat_lt, max, int_le, length, map, slice_index, if◌then◌else◌}
use Rattle.std.specs.List.{flat_map}
use Rattle.std.specs.Option.{option_or}
use Rattle.std.specs.Str.Lines.{lines}
use Rattle.fx_tables.specs.Fields.{fields_of}
use Rattle.fx_tables.specs.Whole.{is_whole, whole_value}
use Rattle.fx_tables.specs.declared.table.Column.{Column}
use Rattle.fx_tables.specs.declared.table.Rows.{Rows}
use Rattle.fx_tables.specs.declared.table.TableFault.{TableFault}
use Rattle.fx_tables.specs.declared.table.TableFault.TheVariants.{Bad}
use Rattle.fx_tables.specs.declared.table.TableCause.{TableCause}
use Rattle.fx_tables.specs.declared.table.TableCause.TheVariants.{TooManyRows, FieldCount, NotWhole, OutOfRange, DashAtHit, NumberOffHit}

-- a number stands in the column at this sample
abbrev pub hits_at : ℕ → ℕ → Bool
hits_at period sample = sample % period == 0

-- the field that stands where no number does
abbrev pub is_dash : List ℕ → Bool
is_dash field = length field == 1 && slice_index field 0 == code "-"

-- the number is in the column's range
abbrev pub is_in_range : Column → ℤ → Bool
is_in_range column value = int_le column.low value && int_le value column.high

-- the first fault of a field, in the order in which they are looked for
abbrev pub field_fault : ℕ → Column → List ℕ → Option TableCause
field_fault sample column field =
    if is_dash field then (if hits_at column.period sample then Some DashAtHit else None)
    else if not (is_whole field) then Some NotWhole
    else if not (hits_at column.period sample) then Some NumberOffHit
    else if is_in_range column (whole_value field) then None
    else Some OutOfRange

-- the first fault of the fields under their columns, from left to right
abbrev pub fields_fault : ℕ → List Column → List (List ℕ) → Option TableCause
fields_fault sample [] fields = None
fields_fault sample (column ∷ columns) [] = None
fields_fault sample (column ∷ columns) (field ∷ fields) =
    option_or (field_fault sample column field) (fields_fault sample columns fields)

-- the most cells of all rows, counting inputs and outputs
abbrev pub most_cells : ℕ
most_cells = 50000000

-- this many rows of inputs and outputs are above the bound
abbrev pub is_too_large : ℕ → ℕ → ℕ → Bool
is_too_large inputs outputs rows = nat_lt most_cells (rows * max 1 (inputs + outputs))

-- the first fault of a line of its fields, whose count comes first
abbrev pub count_or_fields_fault : List Column → ℕ → List (List ℕ) → Option TableCause
count_or_fields_fault columns sample fields =
    if length fields == length columns then fields_fault sample columns fields else Some FieldCount

-- the first fault of the line of a sample
abbrev pub line_fault : List Column → ℕ → ℕ → List ℕ → Option TableCause
line_fault columns outputs sample line =
    if is_too_large (length columns) outputs (sample + 1) then Some TooManyRows
    else count_or_fields_fault columns sample (fields_of line)

-- the fault of a line with this cause, or else that of the later lines
abbrev pub fault_or : Option TableCause → ℕ → Option TableFault → Option TableFault
fault_or (Some cause) line later = Some (Bad line cause)
fault_or None line later = later

-- the fault of the first bad line, the first of these lines being that of `sample`
abbrev pub lines_fault : List Column → ℕ → ℕ → List (List ℕ) → Option TableFault
lines_fault columns outputs sample [] = None
lines_fault columns outputs sample (line ∷ later) =
    fault_or (line_fault columns outputs sample line) (sample + 1)
    (lines_fault columns outputs (sample + 1) later)

-- the fault of the first bad line of a stimulus
abbrev pub stimulus_fault : List Column → ℕ → List ℕ → Option TableFault
stimulus_fault columns outputs text = lines_fault columns outputs 0 (lines text)

-- the cell of a field, 0 where no number stands
abbrev pub cell_of : List ℕ → ℤ
cell_of field = if is_dash field then pos 0 else whole_value field

-- the cells of a line of fields
abbrev pub cells_of : List ℕ → List ℤ
cells_of line = map cell_of (fields_of line)

-- the text is a stimulus of these columns, and the rows are its numbers
pub record IsRows (inputs : List Column) (outputs : ℕ) (text : List ℕ) (rows : Rows) : Type 0 where
  pub no_fault : stimulus_fault inputs outputs text ≡ None
  pub line_count : rows.lines ≡ length (lines text)
  pub column_count : rows.columns ≡ length inputs
  pub numbers : rows.cells ≡ flat_map cells_of (lines text)

-- a number in the column's range where it has one, and elsewhere 0
pub record IsCell (column : Column) (sample : ℕ) (value : ℤ) : Type 0 where
  pub at_hit : hits_at column.period sample ≡ true → is_in_range column value ≡ true
  pub elsewhere : hits_at column.period sample ≡ false → value ≡ pos 0

-- each number of the rows is one of its column
abbrev pub FitsColumns : List Column → Rows → Type 0
FitsColumns inputs rows =
    (sample k : ℕ) (column : Column) (value : ℤ) → sample < rows.lines →
    slice_get inputs k ≡ Some column →
    slice_get rows.cells (sample * rows.columns + k) ≡ Some value → IsCell column sample value
