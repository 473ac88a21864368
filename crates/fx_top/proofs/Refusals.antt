-- Why the answer to how a task ended is due.
use Rattle.std.proofs.Common.{ℕ, List, Result, Ok, Err}
use Rattle.std.specs.Prelude.{⊤}
use Rattle.std.specs.Borrow.{Bor}
use Rattle.fx_io.specs.declared.sink.PutFault.{PutFault}
use Rattle.fx_top.specs.declared.fault.Fault.{Fault}
use Rattle.fx_top.specs.declared.fault.Fault.TheVariants.{NotMdl, BreaksRule, NotVerilog, Broken, BadTable, OutOfMemory}
use Rattle.fx_top.specs.Call.{Files, Stream}
use Rattle.fx_top.specs.Cause.{AreFetched, BreaksCondition, BreaksSomeRule, HasBadLine, HasNoTree, HasNoVerilog}
use Rattle.fx_top.specs.Caused.{HasCause, HasWritten}
use Rattle.fx_top.specs.Command.{Command}
use Rattle.fx_top.specs.Output.{IsOutput}
use Rattle.fx_top.specs.inner.Refusals.{answer_to}
use Rattle.fx_top.specs.inner.Tasks.{IsDone}

-- what a fault says of a command over files of these names
abbrev pub Blames : Files → Command → List ℕ → List ℕ → Fault → Type 0
Blames files command first second (NotMdl line) = HasNoTree files command first line
Blames files command first second (BreaksRule line) = BreaksSomeRule files command line
Blames files command first second (NotVerilog line) = HasNoVerilog files command first line
Blames files command first second (Broken condition) = BreaksCondition files command first condition
Blames files command first second (BadTable line cause) = HasBadLine files command second line cause
Blames files command first second OutOfMemory = ⊤

module _ (files : Files) (out : Stream) (command : Command) (first second : Bor (List ℕ)) (Made : List ℕ → Type 0) (IsFault : Fault → Type 0) where
  pub done-caused : AreFetched files command → ((fault : Fault) → IsFault fault → Blames files command first.now second.now fault)
      → (done : Result (Result ⊤ PutFault) Fault) → IsDone Made IsFault out done → HasCause files command (answer_to first second done)
  done-caused all blames (Ok (Ok whole)) is = all
  done-caused all blames (Ok (Err part)) is = all
  done-caused all blames (Err (NotMdl line)) is = (all, blames (NotMdl line) is.0)
  done-caused all blames (Err (BreaksRule line)) is = (all, blames (BreaksRule line) is.0)
  done-caused all blames (Err (NotVerilog line)) is = (all, blames (NotVerilog line) is.0)
  done-caused all blames (Err (Broken condition)) is = (all, blames (Broken condition) is.0)
  done-caused all blames (Err (BadTable line cause)) is = (all, blames (BadTable line cause) is.0)
  done-caused all blames (Err OutOfMemory) is = tt

  pub done-written : ((text : List ℕ) → Made text → IsOutput command files.held text)
      → (done : Result (Result ⊤ PutFault) Fault) → IsDone Made IsFault out done → HasWritten files out command (answer_to first second done)
  done-written output (Ok (Ok whole)) is = record { text = is.0; output = output is.0 is.1.0; taken = is.1.1 }
  done-written output (Ok (Err part)) is = record { rise = is.1.1.1; text = is.0; output = output is.0 is.1.0; taken = is.1.1.0 }
  done-written output (Err (NotMdl line)) is = is.1
  done-written output (Err (BreaksRule line)) is = is.1
  done-written output (Err (NotVerilog line)) is = is.1
  done-written output (Err (Broken condition)) is = is.1
  done-written output (Err (BadTable line cause)) is = is.1
  done-written output (Err OutOfMemory) is = is.1
