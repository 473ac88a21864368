-- The column of an element by its block alone.
use Rattle.std.specs.Prelude.{ℕ}
use Rattle.std.specs.Option.{unwrap_or}
use Rattle.fx_type.specs.FxType.{lowest_of, highest_of}
use Rattle.fx_tables.specs.declared.table.Column.{Column}
use Rattle.dg_model.specs.Signals.{Attributes}

-- the column of each element of a root port that is this block
abbrev pub column_at : Attributes → ℕ → Column
column_at attributes block =
    record {
      low = lowest_of (attributes.type_at block 1);
      high = highest_of (attributes.type_at block 1);
      period = unwrap_or (attributes.period_at block) 1;
    }
