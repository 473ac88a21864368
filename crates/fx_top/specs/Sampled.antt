-- How a sample ends: its status, its line on the stream of messages, and its cause (own).
use Rattle.std.specs.Prelude.{◌≡◌, ◌⊎◌, ⊤, ℕ, List, [], ◌∷◌, Contains, Some}
use Rattle.cmd_model.specs.Model.{IsWithoutDiagram}
use Rattle.cmd_sample.specs.ModelText.{sample_model}
use Rattle.cmd_sample.specs.Stimulus.{sample_plan}
use Rattle.fx_io.specs.Sink.{also_took, TookProperPrefix}
use Rattle.fx_top.specs.declared.answer.Answer.{Answer}
use Rattle.fx_top.specs.declared.answer.Answer.TheVariants.{Done, OutOfMemory, Usage, CannotRead, CannotWrite, NotMdl, BadTable, BreaksRule, NotVerilog, Broken, BadInstance, TooLong}
use Rattle.fx_top.specs.Answer.{status_of, line_of}
use Rattle.fx_top.specs.Call.{Stream, IsUntouched, Said}
use Rattle.fx_top.specs.Command.{Sample, asked_of}
use Rattle.cmd_generate.specs.Generated.{CanBeDesigned, IsWithoutDesign}
use Rattle.fx_top.specs.Summarized.{TellsSampleRule}

-- what an answer says of the sample
abbrev pub HasSampleCause : ℕ → Answer → Type 0
HasSampleCause count Done = ⊤
HasSampleCause count OutOfMemory = ⊤
HasSampleCause count Usage = ⊥
HasSampleCause count (CannotRead file) = ⊥
HasSampleCause count CannotWrite = ⊤
HasSampleCause count (NotMdl file line) = ⊥
HasSampleCause count (BadTable file line cause) = ⊥
HasSampleCause count (BreaksRule line) = TellsSampleRule count line
HasSampleCause count (NotVerilog file line) = ⊥
HasSampleCause count (Broken file fault) = ⊥
HasSampleCause count (BadInstance file name) = ⊥
HasSampleCause count (TooLong file length) = ⊥

-- a summary was taken whole
pub record TookSummary (IsSummary : List ℕ → Type 0) (out : Stream) : Type 0 where
  pub text : List ℕ
  pub summary : IsSummary text
  pub taken : out.now ≡ also_took out.before text

-- a proper prefix of a summary was taken
pub record TookPart (IsSummary : List ℕ → Type 0) (out : Stream) : Type 0 where
  pub rise : out.failed
  pub text : List ℕ
  pub summary : IsSummary text
  pub taken : TookProperPrefix out.before out.now text

-- what an answer says of the output
abbrev pub HasSampleWritten : (List ℕ → Type 0) → Stream → Answer → Type 0
HasSampleWritten IsSummary out Done = TookSummary IsSummary out
HasSampleWritten IsSummary out OutOfMemory = IsUntouched out
HasSampleWritten IsSummary out Usage = IsUntouched out
HasSampleWritten IsSummary out (CannotRead file) = IsUntouched out
HasSampleWritten IsSummary out CannotWrite = TookPart IsSummary out
HasSampleWritten IsSummary out (NotMdl file line) = IsUntouched out
HasSampleWritten IsSummary out (BadTable file line cause) = IsUntouched out
HasSampleWritten IsSummary out (BreaksRule line) = IsUntouched out
HasSampleWritten IsSummary out (NotVerilog file line) = IsUntouched out
HasSampleWritten IsSummary out (Broken file fault) = IsUntouched out
HasSampleWritten IsSummary out (BadInstance file name) = IsUntouched out
HasSampleWritten IsSummary out (TooLong file length) = IsUntouched out

-- the call ends by an answer: the status is the answer's, its line was said, and it has its cause
-- and its output
pub record EndsSample (count : ℕ) (IsSummary : List ℕ → Type 0) (out err : Stream)
    (status : ℕ) : Type 0 where
  pub answer : Answer
  pub status_is : status ≡ status_of answer
  pub said : Said err (line_of answer)
  pub cause : HasSampleCause count answer
  pub written : HasSampleWritten IsSummary out answer

-- P holds of the number of the sample that the words ask for, where they do
abbrev pub IfSample : List (List ℕ) → (ℕ → Type 0) → Type 0
IfSample words P = (number : ℕ) → asked_of words ≡ Some (Sample number) → P number

-- where the model of a sample is that of no diagram, or makes no design by its plan, the status is
-- 7 or want of memory
abbrev pub IsDueSample : ℕ → ℕ → Type 0
IsDueSample number status =
    IsWithoutDiagram (sample_model number) ⊎ IsWithoutDesign (sample_model number) sample_plan
    → Contains (7 ∷ 1 ∷ []) status

-- where nothing is broken and the output doesn't fail, it is 0 or want of memory
abbrev pub IsCompleteSample : Stream → ℕ → ℕ → Type 0
IsCompleteSample out number status =
    CanBeDesigned (sample_model number) sample_plan → (out.failed → ⊥)
    → Contains (0 ∷ 1 ∷ []) status
