-- The columns of a sample's diagram (own).
use Rattle.std.specs.Prelude.{◌≡◌, pos, negsuc, [], ◌∷◌}
use Rattle.dg_model.specs.declared.diagram.Diagram.{Diagram}
use Rattle.cmd_simulate.specs.Simulating.{output_periods}
use Rattle.dg_response.specs.Response.{input_columns}
use Rattle.fx_tables.specs.declared.table.Column.{Column}

-- an input of 16 bits with a number in each base sample
abbrev pub word_column : Column
word_column = record { low = negsuc 32767; high = pos 32767; period = 1 }

-- the diagram has one such input, and two outputs, the first with a number in each base sample and
-- the second in each other one
pub record HasSampleColumns (diagram : Diagram) : Type 0 where
  pub inputs : input_columns diagram ≡ word_column ∷ []
  pub outputs : output_periods diagram ≡ 1 ∷ 2 ∷ []
