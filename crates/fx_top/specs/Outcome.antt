-- Which status a command owes, where the shelf tells what it holds (own).
use Rattle.std.specs.Prelude.{◌≡◌, ℕ, ◌⊎◌, List, [], ◌∷◌, Contains, Some, None}
use Rattle.fx_top.specs.Call.{Files, Stream, Absent, Overlong, first_trouble}
use Rattle.fx_top.specs.Command.{Command, PlanWord, EmptyPlan, Named, Generate, Replay, Simulate, Explore, Check, Stream as StreamOf, OfFiles, asked_of, model_of, verilog_of, plan_of, table_of, first_of, files_of}
use Rattle.cmd_model.specs.Model.{IsAccepted, IsNoText, IsWithoutDiagram}
use Rattle.cmd_generate.specs.Generated.{CanBeDesigned, HasNoPlan, IsWithoutDesign}
use Rattle.cmd_generate.specs.Plain.{HaveStorage}
use Rattle.cmd_replay.specs.Replayed.{CanBeReplayed, HasFault, IsBadStimulus, IsNoVerilog}
use Rattle.fx_top.specs.Simulated.{CanBeSimulated, IsSpoilt}
use Rattle.cmd_generate.specs.Streamed.{CanBeStreamed, IsWithoutStream, TellsStreamRule}
use Rattle.fx_tables.specs.declared.table.TableCause.{TableCause}
use Rattle.vl_ast.specs.Conditions.{Fault}

-- P holds of the command over files that the words ask for, where they do
abbrev pub IfCommand : List (List ℕ) → (Command → Type 0) → Type 0
IfCommand words P = (command : Command) → asked_of words ≡ Some (OfFiles command) → P command

-- the status is this one, or want of memory, or one that comes earlier in the order of work
abbrev pub Yields : ℕ → List ℕ → ℕ → Type 0
Yields own earlier status = Contains (own ∷ 1 ∷ earlier) status

-- the shelf tells that the file has these bytes
abbrev pub Tells : Files → List ℕ → List ℕ → Type 0
Tells files file bytes = files.held file ≡ Some (Some bytes)

-- the shelf tells the bytes of a plan, of which the empty one has none
abbrev pub TellsPlan : Files → PlanWord → List ℕ → Type 0
TellsPlan files EmptyPlan text = text ≡ []
TellsPlan files (Named file) text = Tells files file text

-- a Verilog text whose module breaks no condition, or a model that keeps the rules, and a bad line
-- of the stimulus or the plan
abbrev pub IsBadFor : Command → List ℕ → List ℕ → Type 0
IsBadFor (Generate model plan) first table = HasNoPlan first table
IsBadFor (Replay verilog text) first table =
    (line : ℕ) × ((cause : TableCause) × IsBadStimulus first table line cause)
IsBadFor (Simulate model text) first table = IsSpoilt first table
IsBadFor (Explore model range) first table = ⊥
IsBadFor (Check model plan) first table = HasNoPlan first table
IsBadFor (StreamOf model plan) first table = HasNoPlan first table

-- what the files ask of the status
pub record IsDue (files : Files) (command : Command) (status : ℕ) : Type 0 where
  -- over a steady shelf: 3 where the first file in trouble isn't held
  pub read_fault : files.steady → (file : List ℕ)
      → first_trouble files.held (files_of command) ≡ Some (Absent file) → Yields 3 [] status
  -- over a steady shelf: 9 where the first file in trouble is too long
  pub too_long : files.steady → (file : List ℕ) (length : ℕ)
      → first_trouble files.held (files_of command) ≡ Some (Overlong file length)
      → Yields 9 [] status
  -- where the model's bytes are told: 5 where they stand for no tree
  pub syntax : (model bytes : List ℕ) → model_of command ≡ Some model → Tells files model bytes
      → IsNoText bytes → Yields 5 (3 ∷ 9 ∷ []) status
  -- where they are told: 7 where they stand for a tree and are the model of no diagram
  pub broken_rule : (model bytes : List ℕ) → model_of command ≡ Some model → Tells files model bytes
      → IsWithoutDiagram bytes → Yields 7 (3 ∷ 9 ∷ []) status
  -- where those of the plan are told too: 7 where the model keeps the rules, and the plan breaks
  -- one on its diagram
  pub broken_plan : (model bytes text : List ℕ) (plan : PlanWord) → model_of command ≡ Some model
      → plan_of command ≡ Some plan
      → Tells files model bytes → TellsPlan files plan text → IsWithoutDesign bytes text
      → Yields 7 (3 ∷ 9 ∷ []) status
  -- 7 too where the command is to write with valid and ready, and they make no design whose ports
  -- keep the rule
  pub broken_ports : (model bytes text : List ℕ) (plan : PlanWord) → command ≡ StreamOf model plan
      → Tells files model bytes → TellsPlan files plan text → IsWithoutStream bytes text
      → Yields 7 (3 ∷ 9 ∷ []) status
  -- where the bytes of the Verilog text are told: 8 where they aren't in the subset
  pub not_verilog : (verilog bytes : List ℕ) → verilog_of command ≡ Some verilog
      → Tells files verilog bytes
      → IsNoVerilog bytes → Yields 8 (3 ∷ 9 ∷ []) status
  -- where they are told: 8 where their module breaks a condition
  pub broken : (verilog bytes : List ℕ) (condition : Fault) → verilog_of command ≡ Some verilog
      → Tells files verilog bytes
      → HasFault bytes condition → Yields 8 (3 ∷ 9 ∷ []) status
  -- where the bytes of the first file and of the stimulus or the plan are told: 6 where this has a
  -- bad line
  pub bad_table : (first table bytes : List ℕ) → table_of command ≡ Some table
      → Tells files (first_of command) first → Tells files table bytes
      → IsBadFor command first bytes → Yields 6 (3 ∷ 9 ∷ []) status

-- the shelf tells the bytes of a model and of a plan of which nothing is broken
pub record CanDesign (files : Files) (model : List ℕ) (plan : PlanWord) : Type 0 where
  pub model_bytes : List ℕ
  pub plan_bytes : List ℕ
  pub model_told : Tells files model model_bytes
  pub plan_told : TellsPlan files plan plan_bytes
  pub can : CanBeDesigned model_bytes plan_bytes

-- the shelf tells those of which no rule of ports is broken either
pub record CanStream (files : Files) (model : List ℕ) (plan : PlanWord) : Type 0 where
  pub model_bytes : List ℕ
  pub plan_bytes : List ℕ
  pub model_told : Tells files model model_bytes
  pub plan_told : TellsPlan files plan plan_bytes
  pub can : CanBeStreamed model_bytes plan_bytes

-- the shelf tells the bytes of two files, whose module has its columns' numbers in the stimulus
pub record CanReplay (files : Files) (verilog stimulus : List ℕ) : Type 0 where
  pub verilog_bytes : List ℕ
  pub stimulus_bytes : List ℕ
  pub verilog_told : Tells files verilog verilog_bytes
  pub stimulus_told : Tells files stimulus stimulus_bytes
  pub can : CanBeReplayed verilog_bytes stimulus_bytes

-- the shelf tells the bytes of two files: a model that keeps the rules, and its columns' numbers
pub record CanSimulate (files : Files) (model stimulus : List ℕ) : Type 0 where
  pub model_bytes : List ℕ
  pub stimulus_bytes : List ℕ
  pub model_told : Tells files model model_bytes
  pub stimulus_told : Tells files stimulus stimulus_bytes
  pub can : CanBeSimulated model_bytes stimulus_bytes

-- the files' texts are told, and the command has an output of them
abbrev pub CanBeDone : Files → Command → Type 0
CanBeDone files (Generate model plan) = CanDesign files model plan
CanBeDone files (Replay verilog stimulus) = CanReplay files verilog stimulus
CanBeDone files (Simulate model stimulus) = CanSimulate files model stimulus
CanBeDone files (Explore model range) =
    (bytes : List ℕ) × (Tells files model bytes × IsAccepted bytes)
CanBeDone files (Check model plan) = CanDesign files model plan
CanBeDone files (StreamOf model plan) = CanStream files model plan

-- the shelf is steady and none of these files is in trouble, or neither of its counts rose
abbrev pub GivesFiles : Files → List (List ℕ) → Type 0
GivesFiles files names =
    (files.steady × (first_trouble files.held names ≡ None))
    ⊎ ((files.failed → ⊥) × (files.met_overlong → ⊥))

-- so it is of the command's files
abbrev pub GivesAll : Files → Command → Type 0
GivesAll files command = GivesFiles files (files_of command)

-- where the command has an output and no device fails, the status is 0 or want of memory
abbrev pub IsComplete : Files → Stream → Command → ℕ → Type 0
IsComplete files out command status =
    CanBeDone files command → GivesAll files command → (out.failed → ⊥)
    → Contains (0 ∷ 1 ∷ []) status

-- ---- by the empty plan

-- the shelf tells the bytes of a model that keeps its rules, of which the empty plan stores no more
-- than it may
pub record CanDesignPlain (files : Files) (model : List ℕ) : Type 0 where
  pub bytes : List ℕ
  pub told : Tells files model bytes
  pub accepted : IsAccepted bytes
  pub stored : HaveStorage bytes []

-- and of which no rule of ports is broken
pub record CanStreamPlain (files : Files) (model : List ℕ) : Type 0 where
  pub plain : CanDesignPlain files model
  pub steady : (line : List ℕ) → TellsStreamRule plain.bytes [] line → ⊥

-- P, where the word names the empty plan
abbrev pub IfEmpty : PlanWord → Type 0 → Type 0
IfEmpty EmptyPlan P = P
IfEmpty (Named file) P = ⊥

-- so a command by the empty plan has an output, whatever else a plan would have to keep
abbrev pub CanBeDonePlain : Files → Command → Type 0
CanBeDonePlain files (Generate model plan) = IfEmpty plan (CanDesignPlain files model)
CanBeDonePlain files (Replay verilog stimulus) = ⊥
CanBeDonePlain files (Simulate model stimulus) = ⊥
CanBeDonePlain files (Explore model range) = ⊥
CanBeDonePlain files (Check model plan) = IfEmpty plan (CanDesignPlain files model)
CanBeDonePlain files (StreamOf model plan) = IfEmpty plan (CanStreamPlain files model)

-- and where no device fails, its status is 0 or want of memory
abbrev pub IsPlainComplete : Files → Stream → Command → ℕ → Type 0
IsPlainComplete files out command status =
    CanBeDonePlain files command → GivesAll files command → (out.failed → ⊥)
    → Contains (0 ∷ 1 ∷ []) status
