-- The diagram of sample 1 has the columns of samples.
use Rattle.std.proofs.Common.{◌≡◌, List, [], ◌∷◌, map, refl, ap}
use Rattle.cmd_simulate.specs.Simulating.{output_periods}
use Rattle.dg_response.specs.Response.{output_columns}
use Rattle.fx_tables.specs.declared.table.Column.{Column}
use Rattle.laws_commands.specs.FirstSample.{first_sample}
use Rattle.laws_samples.specs.Columns.{HasSampleColumns, word_column}

two-columns : output_columns first_sample ≡ word_column ∷ record word_column { period = 2 } ∷ []
two-columns = refl

two-periods : output_periods first_sample ≡ 1 ∷ 2 ∷ []
two-periods = ap (λ (columns : List Column). map (λ (column : Column). column.period) columns) two-columns

pub first-has-columns : HasSampleColumns first_sample
first-has-columns = record { inputs = refl; outputs = two-periods }
