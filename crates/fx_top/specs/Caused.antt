-- How a call ends: its status, its line on the stream of messages, and its cause (own).
use Rattle.std.specs.Prelude.{◌≡◌, ⊤, ℕ, List, Option, None, Some}
use Rattle.cmd_replay.specs.Benched.{IsTold}
use Rattle.fx_top.specs.declared.answer.Answer.{Answer}
use Rattle.fx_top.specs.declared.answer.Answer.TheVariants.{Done, OutOfMemory, Usage, CannotRead, CannotWrite, NotMdl, BadTable, BreaksRule, NotVerilog, Broken, BadInstance, TooLong}
use Rattle.fx_top.specs.Answer.{status_of, line_of}
use Rattle.fx_top.specs.Call.{Files, Stream, IsUntouched, Said}
use Rattle.fx_top.specs.Cause.{CannotBeRead, IsTooLong, AreFetched, HasNoTree, HasBadLine, BreaksSomeRule, HasNoVerilog, BreaksCondition, WroteAll, WrotePart}
use Rattle.fx_top.specs.Command.{Asked, Command, OfFiles, Flatten, Sample, asked_of}
use Rattle.fx_top.specs.Flattened.{HasFlatCause, HasFlatWritten}
use Rattle.fx_top.specs.Sampled.{HasSampleCause, HasSampleWritten}
use Rattle.fx_top.specs.Summarized.{IsSummed}

-- what a command's answer says of the files
abbrev pub HasCause : Files → Command → Answer → Type 0
HasCause files command Done = AreFetched files command
HasCause files command OutOfMemory = ⊤
HasCause files command Usage = ⊥
HasCause files command (CannotRead file) = CannotBeRead files command file.now
HasCause files command CannotWrite = AreFetched files command
HasCause files command (NotMdl file line) =
    AreFetched files command × HasNoTree files command file.now line
HasCause files command (BadTable file line cause) =
    AreFetched files command × HasBadLine files command file.now line cause
HasCause files command (BreaksRule line) =
    AreFetched files command × BreaksSomeRule files command line
HasCause files command (NotVerilog file line) =
    AreFetched files command × HasNoVerilog files command file.now line
HasCause files command (Broken file fault) =
    AreFetched files command × BreaksCondition files command file.now fault
HasCause files command (BadInstance file name) = ⊥
HasCause files command (TooLong file length) = IsTooLong files command file.now length

-- what it says of the output
abbrev pub HasWritten : Files → Stream → Command → Answer → Type 0
HasWritten files out command Done = WroteAll files out command
HasWritten files out command OutOfMemory = IsUntouched out
HasWritten files out command Usage = IsUntouched out
HasWritten files out command (CannotRead file) = IsUntouched out
HasWritten files out command CannotWrite = WrotePart files out command
HasWritten files out command (NotMdl file line) = IsUntouched out
HasWritten files out command (BadTable file line cause) = IsUntouched out
HasWritten files out command (BreaksRule line) = IsUntouched out
HasWritten files out command (NotVerilog file line) = IsUntouched out
HasWritten files out command (Broken file fault) = IsUntouched out
HasWritten files out command (BadInstance file name) = IsUntouched out
HasWritten files out command (TooLong file length) = IsUntouched out

-- the answer is that of what the words ask for, and of usage where they have no listed shape
abbrev pub IsCarriedOut : Files → Stream → Option Asked → Answer → Type 0
IsCarriedOut files out None answer = (answer ≡ Usage) × IsUntouched out
IsCarriedOut files out (Some (OfFiles command)) answer = HasCause files command answer
    × HasWritten files out command answer
IsCarriedOut files out (Some (Flatten file)) answer = HasFlatCause files file answer
    × HasFlatWritten files file out answer
IsCarriedOut files out (Some (Sample number)) answer = HasSampleCause number answer
    × HasSampleWritten (IsSummed IsTold number) out answer

-- the call ends by an answer: the status is the answer's, its line was said, and it has its cause
pub record Ends (words : List (List ℕ)) (files : Files) (out err : Stream)
    (status : ℕ) : Type 0 where
  pub answer : Answer
  pub status_is : status ≡ status_of answer
  pub said : Said err (line_of answer)
  pub carried_out : IsCarriedOut files out (asked_of words) answer
