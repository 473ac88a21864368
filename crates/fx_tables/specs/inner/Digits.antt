-- What reading the first field of a line in one go gives, where it is a number of up to 18 digits
-- (own).
use Rattle.std.specs.Prelude.{◌≡◌, ℕ, ℤ, ◌^◌, ◌<◌, ◌≤◌, true, false, None, List, ◌∷◌, length, take, drop, slice_index}
use Rattle.std.specs.List.{list_all}
use Rattle.std.specs.Char.{is_ascii_digit}
use Rattle.std.specs.Str.Parse.{digits_value}
use Rattle.fx_tables.specs.Fields.{is_blank, fields_of}
use Rattle.fx_tables.specs.Whole.{is_whole, whole_value}
use Rattle.fx_tables.specs.Stimulus.{is_dash, field_fault, cell_of}
use Rattle.fx_tables.specs.declared.table.Column.{Column}

-- the text begins with 1 to 18 digits of this number, before a blank or its end, and the tail has
-- the fields behind them
pub record IsRunOfDigits (text : List ℕ) (value : ℕ) (tail : List ℕ) : Type 0 where
  pub count : ℕ
  pub some : 0 < count
  pub few : count ≤ 18
  pub within : count ≤ length text
  pub digits : list_all is_ascii_digit (take count text) ≡ true
  pub number : value ≡ digits_value 10 (take count text)
  pub small : value < 10 ^ 18
  pub ends : count < length text → is_blank (slice_index text count) ≡ true
  pub rest : fields_of tail ≡ fields_of (drop count text)

-- the first field of the line is this number, and the tail has the others
pub record IsFirstNumber (line : List ℕ) (value : ℤ) (tail : List ℕ) : Type 0 where
  pub field : List ℕ
  pub first : fields_of line ≡ field ∷ fields_of tail
  pub whole : is_whole field ≡ true
  pub no_dash : is_dash field ≡ false
  pub number : whole_value field ≡ value

-- the first field of the line is a good one of the column with this cell, and the tail has the
-- others
pub record IsFirstCell (line : List ℕ) (column : Column) (sample : ℕ) (value : ℤ) (tail : List ℕ)
    : Type 0 where
  pub field : List ℕ
  pub first : fields_of line ≡ field ∷ fields_of tail
  pub good : field_fault sample column field ≡ None
  pub cell : cell_of field ≡ value
