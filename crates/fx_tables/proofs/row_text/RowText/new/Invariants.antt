use Rattle.std.proofs.Common.{◌≡◌, ◌<◌, map, take, vec_len}
use Rattle.std.specs.Prelude.{All}
use Rattle.fx_tables.proofs.row_text.RowText.new.Given as goal

abbrev pub invariant-loop-column : goal.invariant-loop-column
invariant-loop-column l = record {
  copied : l.periods.items ≡ map (λ column. column.period) (take l.column-index l.columns);
  counted : vec_len l.periods ≡ l.column-index;
  hits : All (λ period. 0 < period) l.periods.items;
}
