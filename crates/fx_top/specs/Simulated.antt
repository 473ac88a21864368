-- What a simulation makes of a model and a stimulus, and what may be wrong with them (own).
use Rattle.std.specs.Prelude.{◌≡◌, ℕ, ℤ, List, length, None, Some}
use Rattle.dg_model.specs.declared.diagram.Diagram.{Diagram}
use Rattle.dg_response.specs.Response.{input_columns, output_columns, IsResponse}
use Rattle.cmd_model.specs.Model.{IsModelOf, IsAccepted}
use Rattle.cmd_simulate.specs.Simulating.{fault_in, output_periods}
use Rattle.fx_tables.specs.declared.table.Rows.{Rows}
use Rattle.fx_tables.specs.declared.table.TableCause.{TableCause}
use Rattle.fx_tables.specs.declared.table.TableFault.TheVariants.{Bad}
use Rattle.fx_tables.specs.Response.{response}
use Rattle.fx_tables.specs.Stimulus.{IsRows}

-- the text is the response of the model to the stimulus: what the table that solves its diagram
-- shows of the root outputs, a line per sample and a number where an output has its hit
pub record IsSimulationOf (model stimulus text : List ℕ) : Type 0 where
  pub diagram : Diagram
  pub accepted : IsModelOf model diagram
  pub rows : Rows
  pub rows_are : IsRows (input_columns diagram) (length (output_columns diagram)) stimulus rows
  pub lines : ℕ → List ℤ
  pub shown : IsResponse diagram rows lines
  pub text_is : text ≡ response (output_periods diagram) lines rows.lines

-- the first bad line of the stimulus, by the columns of the model's diagram
pub record IsBadSimulation (model stimulus : List ℕ) (line : ℕ) (cause : TableCause) : Type 0 where
  pub diagram : Diagram
  pub accepted : IsModelOf model diagram
  pub bad : fault_in diagram stimulus ≡ Some (Bad line cause)

-- the model keeps the rules, and its columns have their numbers in the stimulus
pub record CanBeSimulated (model stimulus : List ℕ) : Type 0 where
  pub accepted : IsAccepted model
  pub good : (diagram : Diagram) → IsModelOf model diagram → fault_in diagram stimulus ≡ None

-- the model keeps the rules, and the stimulus has a bad line by its columns
pub record IsSpoilt (model stimulus : List ℕ) : Type 0 where
  pub accepted : IsAccepted model
  pub bad : (diagram : Diagram) → IsModelOf model diagram → (line : ℕ)
      × ((cause : TableCause) × (fault_in diagram stimulus ≡ Some (Bad line cause)))
