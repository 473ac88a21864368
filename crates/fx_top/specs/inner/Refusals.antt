-- What each fault says of the texts of a command's files, and the answer to how a task ended.
use Rattle.std.specs.Prelude.{⊤, ◌⊎◌, ℕ, List, Result, Ok, Err}
use Rattle.std.specs.Borrow.{Bor}
use Rattle.cmd_design.specs.Design.{IsBadPlan, TellsPlanRule}
use Rattle.fx_io.specs.declared.sink.PutFault.{PutFault}
use Rattle.cmd_model.specs.Model.{IsNotMdl}
use Rattle.cmd_model.specs.RuleLine.{TellsRule}
use Rattle.fx_tables.specs.declared.table.TableCause.{TableCause}
use Rattle.fx_top.specs.declared.answer.Answer.{Answer}
use Rattle.fx_top.specs.declared.answer.Answer.TheVariants.{Done, OutOfMemory, CannotWrite, NotMdl, BadTable, BreaksRule, NotVerilog, Broken}
use Rattle.fx_top.specs.declared.fault.Fault.{Fault}
use Rattle.fx_top.specs.declared.fault.Fault.TheVariants as fault
use Rattle.cmd_replay.specs.Replayed.{IsBadStimulus, IsBroken, IsNotVerilog}
use Rattle.fx_top.specs.Simulated.{IsBadSimulation}
use Rattle.cmd_generate.specs.Streamed.{TellsStreamRule}

-- of a model, by what a broken rule says and what a bad line
abbrev pub OfModel : List ℕ → (List ℕ → Type 0) → (ℕ → TableCause → Type 0) → Fault → Type 0
OfModel model rule bad (fault.NotMdl line) = IsNotMdl model line
OfModel model rule bad (fault.BreaksRule line) = rule line
OfModel model rule bad (fault.NotVerilog line) = ⊥
OfModel model rule bad (fault.Broken condition) = ⊥
OfModel model rule bad (fault.BadTable line cause) = bad line cause
OfModel model rule bad fault.OutOfMemory = ⊤

-- of a model alone
abbrev pub IsModelFault : List ℕ → Fault → Type 0
IsModelFault model = OfModel model (TellsRule model) (λ line cause. ⊥)

-- of a model and a plan
abbrev pub IsDesignFault : List ℕ → List ℕ → Fault → Type 0
IsDesignFault model plan =
    OfModel model (λ line. TellsRule model line ⊎ TellsPlanRule model plan line)
    (IsBadPlan model plan)

-- of those, with valid and ready
abbrev pub IsStreamFault : List ℕ → List ℕ → Fault → Type 0
IsStreamFault model plan =
    OfModel model
    (λ line. TellsRule model line
    ⊎ (TellsPlanRule model plan line ⊎ TellsStreamRule model plan line)) (IsBadPlan model plan)

-- of a model and a stimulus
abbrev pub IsSimulationFault : List ℕ → List ℕ → Fault → Type 0
IsSimulationFault model stimulus = OfModel model (TellsRule model) (IsBadSimulation model stimulus)

-- of a Verilog text and a stimulus
abbrev pub IsReplayFault : List ℕ → List ℕ → Fault → Type 0
IsReplayFault verilog stimulus (fault.NotMdl line) = ⊥
IsReplayFault verilog stimulus (fault.BreaksRule line) = ⊥
IsReplayFault verilog stimulus (fault.NotVerilog line) = IsNotVerilog verilog line
IsReplayFault verilog stimulus (fault.Broken condition) = IsBroken verilog condition
IsReplayFault verilog stimulus (fault.BadTable line cause) =
    IsBadStimulus verilog stimulus line cause
IsReplayFault verilog stimulus fault.OutOfMemory = ⊤

-- the answer over files of these names
abbrev pub answer_to : Bor (List ℕ) → Bor (List ℕ) → Result (Result ⊤ PutFault) Fault → Answer
answer_to first second (Ok (Ok whole)) = Done
answer_to first second (Ok (Err part)) = CannotWrite
answer_to first second (Err (fault.NotMdl line)) = NotMdl first line
answer_to first second (Err (fault.BreaksRule line)) = BreaksRule line
answer_to first second (Err (fault.NotVerilog line)) = NotVerilog first line
answer_to first second (Err (fault.Broken condition)) = Broken first condition
answer_to first second (Err (fault.BadTable line cause)) = BadTable second line cause
answer_to first second (Err fault.OutOfMemory) = OutOfMemory
