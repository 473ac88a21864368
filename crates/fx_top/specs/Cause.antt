-- Why a command answers as it does (own).
use Rattle.std.specs.Prelude.{◌≡◌, ℕ, ◌⊎◌, List, Contains, All, Option, Some}
use Rattle.fx_io.specs.Shelf.{Fetched, IsOverlong}
use Rattle.fx_io.specs.Sink.{also_took, TookProperPrefix}
use Rattle.fx_top.specs.Call.{Files, Stream, Absent, Overlong, first_trouble, file_limit}
use Rattle.fx_top.specs.Command.{Command, PlanWord, Stream as StreamOf, model_of, verilog_of, plan_of, table_of, first_of, files_of}
use Rattle.cmd_design.specs.Design.{TellsPlanRule}
use Rattle.cmd_model.specs.Model.{IsNotMdl}
use Rattle.cmd_model.specs.RuleLine.{TellsRule}
use Rattle.fx_top.specs.Output.{IsBadTable, IsOutput, IsPlanText}
use Rattle.cmd_replay.specs.Replayed.{IsBroken, IsNotVerilog}
use Rattle.cmd_generate.specs.Streamed.{TellsStreamRule}
use Rattle.fx_tables.specs.declared.table.TableCause.{TableCause}
use Rattle.vl_check.specs.declared.fault.VlFault.{VlFault}

-- a fetched file was not to be had; over a steady shelf it is the first in trouble, and it isn't
-- held
pub record CannotBeRead (files : Files) (command : Command) (file : List ℕ) : Type 0 where
  pub rise : files.failed
  pub asked : Contains (files_of command) file
  pub first : files.steady → first_trouble files.held (files_of command) ≡ Some (Absent file)

-- a fetched file has this length, above the limit; over a steady shelf it is the first in trouble
pub record IsTooLong (files : Files) (command : Command) (file : List ℕ) (length : ℕ) : Type 0 where
  pub rise : files.met_overlong
  pub asked : Contains (files_of command) file
  pub overlong : IsOverlong (files.held file) file_limit length
  pub first : files.steady
      → first_trouble files.held (files_of command) ≡ Some (Overlong file length)

-- these bytes were fetched of the file
abbrev pub IsFetched : Files → List ℕ → List ℕ → Type 0
IsFetched files file bytes = Fetched (files.held file) file_limit bytes

-- each of the command's files was fetched
abbrev pub AreFetched : Files → Command → Type 0
AreFetched files command =
    All (λ file. (bytes : List ℕ) × IsFetched files file bytes) (files_of command)

-- the file is this one of the command's, if it has any, and what was fetched of it is so
pub record IsFetchedSo (files : Files) (own : Option (List ℕ)) (file : List ℕ)
    (IsSo : List ℕ → Type 0) : Type 0 where
  pub is : own ≡ Some file
  pub bytes : List ℕ
  pub fetched : IsFetched files file bytes
  pub so : IsSo bytes

-- the file is the model, and what was fetched of it stands for no tree, and stops being the
-- beginning of a text at this line
abbrev pub HasNoTree : Files → Command → List ℕ → ℕ → Type 0
HasNoTree files command file line =
    IsFetchedSo files (model_of command) file (λ bytes. IsNotMdl bytes line)

-- what was fetched of the model stands for a tree that breaks a rule, and this line tells the first
-- of them
pub record HasBrokenRule (files : Files) (command : Command) (line : List ℕ) : Type 0 where
  pub file : List ℕ
  pub is_model : model_of command ≡ Some file
  pub bytes : List ℕ
  pub fetched : IsFetched files file bytes
  pub told : TellsRule bytes line

-- what was fetched of the model keeps its rules, and the plan breaks one on its diagram, of which
-- this line tells the first
pub record HasBrokenPlan (files : Files) (command : Command) (line : List ℕ) : Type 0 where
  pub file : List ℕ
  pub is_model : model_of command ≡ Some file
  pub plan : PlanWord
  pub is_plan : plan_of command ≡ Some plan
  pub bytes : List ℕ
  pub fetched : IsFetched files file bytes
  pub text : List ℕ
  pub says : IsPlanText files.held plan text
  pub told : TellsPlanRule bytes text line

-- the command is to write with valid and ready, what was fetched of the model and the plan makes a
-- design, and its ports break the rule, which this line tells
pub record HasBrokenPorts (files : Files) (command : Command) (line : List ℕ) : Type 0 where
  pub model : List ℕ
  pub plan : PlanWord
  pub streams : command ≡ StreamOf model plan
  pub bytes : List ℕ
  pub fetched : IsFetched files model bytes
  pub text : List ℕ
  pub says : IsPlanText files.held plan text
  pub told : TellsStreamRule bytes text line

-- a rule of models, of plans or of ports is broken, the first of them told by this line
abbrev pub BreaksSomeRule : Files → Command → List ℕ → Type 0
BreaksSomeRule files command line =
    HasBrokenRule files command line
    ⊎ (HasBrokenPlan files command line ⊎ HasBrokenPorts files command line)

-- the file is the stimulus or the plan, and what was fetched of it has its first bad line there, of
-- a stimulus by the columns that the command has of what was fetched of its first file
pub record HasBadLine (files : Files) (command : Command) (file : List ℕ) (line : ℕ)
    (cause : TableCause) : Type 0 where
  pub is_table : table_of command ≡ Some file
  pub first : List ℕ
  pub table : List ℕ
  pub first_fetched : IsFetched files (first_of command) first
  pub table_fetched : IsFetched files file table
  pub bad : IsBadTable command first table line cause

-- the file is the Verilog text, and what was fetched of it isn't in the subset, and stops being the
-- beginning of a text at this line
abbrev pub HasNoVerilog : Files → Command → List ℕ → ℕ → Type 0
HasNoVerilog files command file line =
    IsFetchedSo files (verilog_of command) file (λ bytes. IsNotVerilog bytes line)

-- the file is the Verilog text, and the first condition that its module breaks is this one
abbrev pub BreaksCondition : Files → Command → List ℕ → VlFault → Type 0
BreaksCondition files command file fault =
    IsFetchedSo files (verilog_of command) file (λ bytes. IsBroken bytes fault)

-- the command's text was taken whole
pub record WroteAll (files : Files) (out : Stream) (command : Command) : Type 0 where
  pub text : List ℕ
  pub output : IsOutput command files.held text
  pub taken : out.now ≡ also_took out.before text

-- a proper prefix of the command's text was taken
pub record WrotePart (files : Files) (out : Stream) (command : Command) : Type 0 where
  pub rise : out.failed
  pub text : List ℕ
  pub output : IsOutput command files.held text
  pub taken : TookProperPrefix out.before out.now text
