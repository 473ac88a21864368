-- What callers see of the writer of a response (own).
use Rattle.std.specs.Prelude.{ℕ, List}
use Rattle.fx_tables.specs.declared.row_text.RowText.{RowText}

-- the periods of its columns from left to right
abbrev pub periods_of : RowText → List ℕ
periods_of text = text.periods.items
