-- What a replay makes of a Verilog text and a stimulus, and what may be wrong with them (own).
use Rattle.std.specs.Prelude.{◌≡◌, ℕ, ℤ, ◌≤◌, List, length, map, Option, None, Some}
use Rattle.fx_tables.specs.declared.table.Rows.{Rows as Table}
use Rattle.fx_tables.specs.declared.table.TableCause.{TableCause}
use Rattle.fx_tables.specs.declared.table.TableFault.{TableFault}
use Rattle.fx_tables.specs.declared.table.TableFault.TheVariants.{Bad}
use Rattle.fx_tables.specs.Response.{response}
use Rattle.fx_tables.specs.Stimulus.{IsRows, stimulus_fault}
use Rattle.vl_ast.specs.declared.modules.Module.{Module}
use Rattle.vl_ast.specs.Conditions.{BreaksNone, Fault, IsFirstFault}
use Rattle.vl_ast.specs.Driven.{output_ports, stimulus_ports}
use Rattle.vl_ast.specs.Grammar.{Spells, most_items}
use Rattle.vl_ast.specs.Windows.{Sample}
use Rattle.vl_ast.specs.Attributes.{step_of}
use Rattle.vl_check.specs.declared.fault.VlFault.{VlFault}
use Rattle.vl_check.specs.declared.fault.VlFault.TheVariants.{Undriven, Doubly, CombLoop, TooWide, NoReset, NoAttribute, OutOfMemory}
use Rattle.vl_read.specs.Prefix.{IsRefused, IsVerilogFaultLine}
use Rattle.vl_replay.specs.Columns.{columns_of}
use Rattle.vl_replay.specs.Sampled.{Sampled, numbers_of}

-- the text spells this module, which can be read and breaks no condition
pub record IsSoundText (verilog : List ℕ) (made : Module) : Type 0 where
  pub spells : Spells verilog made
  pub few : length made.items ≤ most_items
  pub sound : BreaksNone made

-- the first bad line of a stimulus of a module
abbrev pub fault_for : Module → List ℕ → Option TableFault
fault_for made stimulus =
    stimulus_fault (columns_of (stimulus_ports made)) (length (output_ports made)) stimulus

-- the rows of a stimulus of a module
abbrev pub AreRowsFor : Module → List ℕ → Table → Type 0
AreRowsFor made stimulus rows =
    IsRows (columns_of (stimulus_ports made)) (length (output_ports made)) stimulus rows

-- the text is the response of the module that the Verilog text spells to the stimulus: what is
-- sampled of it, a line per sample and a number where an output has its hit
pub record IsReplayOf (verilog stimulus text : List ℕ) : Type 0 where
  pub made : Module
  pub spelled : IsSoundText verilog made
  pub rows : Table
  pub rows_are : AreRowsFor made stimulus rows
  pub table : Sample → List ℤ
  pub sampled : Sampled made (numbers_of rows) rows.lines table
  pub text_is : text ≡ response (map step_of (output_ports made)) table rows.lines

-- the bytes spell no module of the subset
abbrev pub IsNoVerilog : List ℕ → Type 0
IsNoVerilog bytes = IsRefused bytes

-- the bytes spell no module of the subset, and stop being the beginning of a text at this line
pub record IsNotVerilog (bytes : List ℕ) (line : ℕ) : Type 0 where
  pub refused : IsNoVerilog bytes
  pub fault : IsVerilogFaultLine bytes line

-- the condition of a fault; want of memory is none
abbrev pub condition_of : VlFault → Option Fault
condition_of (Undriven name) = Some (Fault.Undriven name)
condition_of (Doubly name) = Some (Fault.Doubly name)
condition_of (CombLoop names) = Some (Fault.CombLoop names)
condition_of (TooWide name) = Some (Fault.TooWide name)
condition_of (NoReset name) = Some (Fault.NoReset name)
condition_of (NoAttribute name) = Some (Fault.NoAttribute name)
condition_of OutOfMemory = None

-- the bytes spell a module that can be read, and breaks a condition
pub record HasFault (bytes : List ℕ) (condition : Fault) : Type 0 where
  pub made : Module
  pub spells : Spells bytes made
  pub few : length made.items ≤ most_items
  pub first : IsFirstFault made condition

-- the first condition that the module of the bytes breaks is this one
pub record IsBroken (bytes : List ℕ) (fault : VlFault) : Type 0 where
  pub condition : Fault
  pub shown : condition_of fault ≡ Some condition
  pub has : HasFault bytes condition

-- the first bad line of the stimulus, by the columns of the module that the Verilog text spells
pub record IsBadStimulus (verilog stimulus : List ℕ) (line : ℕ) (cause : TableCause) : Type 0 where
  pub made : Module
  pub spelled : IsSoundText verilog made
  pub bad : fault_for made stimulus ≡ Some (Bad line cause)

-- the module of the text has its columns' numbers in the stimulus
pub record CanBeReplayed (verilog stimulus : List ℕ) : Type 0 where
  pub made : Module
  pub spelled : IsSoundText verilog made
  pub good : fault_for made stimulus ≡ None
