-- What a task makes of two texts, which command it is by the words for their files, and how it
-- ends.
use Rattle.std.specs.Prelude.{◌≡◌, ⊤, ℕ, List, Option, None, Some, Result, Ok, Err}
use Rattle.std.specs.Borrow.{Bor}
use Rattle.fx_io.specs.declared.sink.PutFault.{PutFault}
use Rattle.fx_io.specs.Sink.{TookProperPrefix, also_took}
use Rattle.fx_top.specs.declared.fault.Fault.{Fault}
use Rattle.fx_top.specs.declared.task.Task.{Task}
use Rattle.fx_top.specs.declared.task.Task.TheVariants as task
use Rattle.fx_top.specs.Call.{IsUntouched, Stream}
use Rattle.fx_top.specs.CheckedText.{IsCheckOf}
use Rattle.fx_top.specs.Command.{Command, PlanWord, EmptyPlan, Named, Generate, Replay, Simulate, Explore, Check, Stream as StreamOf, plan_word}
use Rattle.fx_top.specs.Explored.{IsExplorationOf}
use Rattle.cmd_generate.specs.Generated.{IsVerilogOf}
use Rattle.cmd_replay.specs.Replayed.{IsReplayOf}
use Rattle.fx_top.specs.Simulated.{IsSimulationOf}
use Rattle.cmd_generate.specs.Streamed.{IsStreamedOf}
use Rattle.fx_top.specs.inner.Refusals.{IsDesignFault, IsModelFault, IsReplayFault, IsSimulationFault, IsStreamFault}
use Rattle.hw_explore.specs.Range.{IsRange}

-- its command
abbrev pub command_of : Task → List ℕ → List ℕ → Command
command_of task.Generate first second = Generate first (plan_word second)
command_of task.Replay first second = Replay first second
command_of task.Simulate first second = Simulate first second
command_of (task.Explore range) first second = Explore first range
command_of task.Check first second = Check first (plan_word second)
command_of task.Stream first second = StreamOf first (plan_word second)

-- the plan or the stimulus that the second word names; none is read beside a range
abbrev pub table_word : Task → List ℕ → PlanWord
table_word task.Generate word = plan_word word
table_word task.Replay word = Named word
table_word task.Simulate word = Named word
table_word (task.Explore range) word = EmptyPlan
table_word task.Check word = plan_word word
table_word task.Stream word = plan_word word

-- by its file
abbrev pub word_of : Option (Bor (List ℕ)) → PlanWord
word_of None = EmptyPlan
word_of (Some file) = Named file.now

-- a range that it is over is one
abbrev pub IsTask : Task → Type 0
IsTask task.Generate = ⊤
IsTask task.Replay = ⊤
IsTask task.Simulate = ⊤
IsTask (task.Explore range) = IsRange range
IsTask task.Check = ⊤
IsTask task.Stream = ⊤

-- the text that it makes of two
abbrev pub Makes : Task → List ℕ → List ℕ → List ℕ → Type 0
Makes task.Generate first second = IsVerilogOf first second
Makes task.Replay first second = IsReplayOf first second
Makes task.Simulate first second = IsSimulationOf first second
Makes (task.Explore range) first second = IsExplorationOf first range
Makes task.Check first second = IsCheckOf first second
Makes task.Stream first second = IsStreamedOf first second

-- what a fault says of them
abbrev pub IsFaultOf : Task → List ℕ → List ℕ → Fault → Type 0
IsFaultOf task.Generate first second = IsDesignFault first second
IsFaultOf task.Replay first second = IsReplayFault first second
IsFaultOf task.Simulate first second = IsSimulationFault first second
IsFaultOf (task.Explore range) first second = IsModelFault first
IsFaultOf task.Check first second = IsDesignFault first second
IsFaultOf task.Stream first second = IsStreamFault first second

-- a made text was put, or a part of it
abbrev pub IsPut : (List ℕ → Type 0) → Stream → Result ⊤ PutFault → Type 0
IsPut Made stream (Ok whole) =
    (text : List ℕ) × (Made text × (stream.now ≡ also_took stream.before text))
IsPut Made stream (Err part) =
    (text : List ℕ) × (Made text × (TookProperPrefix stream.before stream.now text × stream.failed))

-- or there is none, and nothing was put
abbrev pub IsDone : (List ℕ → Type 0) → (Fault → Type 0) → Stream → Result (Result ⊤ PutFault) Fault
    → Type 0
IsDone Made IsFault stream (Ok put) = IsPut Made stream put
IsDone Made IsFault stream (Err why) = IsFault why × IsUntouched stream
