-- How the flattening of a text ends, and the answer to it.
use Rattle.std.specs.Prelude.{⊤, ℕ, List, Result, Ok, Err}
use Rattle.std.specs.Borrow.{Bor}
use Rattle.fx_io.specs.declared.sink.PutFault.{PutFault}
use Rattle.fx_top.specs.declared.answer.Answer.{Answer}
use Rattle.fx_top.specs.declared.answer.Answer.TheVariants.{Done, OutOfMemory, CannotWrite, NotVerilog, BadInstance}
use Rattle.fx_top.specs.Call.{IsUntouched, Stream}
use Rattle.fx_top.specs.Flattened.{IsFlatTextOf, IsUnflattened}
use Rattle.fx_top.specs.inner.Tasks.{IsPut}
use Rattle.vl_hier.specs.declared.refusal.HierFault.{HierFault}
use Rattle.vl_hier.specs.declared.refusal.HierFault.TheVariants as fault

-- the flat text was put, or a part of it, or there is none and nothing was put
abbrev pub IsFlatDone : List ℕ → Stream → Result (Result ⊤ PutFault) HierFault → Type 0
IsFlatDone verilog stream (Ok put) = IsPut (IsFlatTextOf verilog) stream put
IsFlatDone verilog stream (Err why) = IsUnflattened verilog why × IsUntouched stream

-- the answer over a file of this name
abbrev pub flat_answer : Bor (List ℕ) → Result (Result ⊤ PutFault) HierFault → Answer
flat_answer file (Ok (Ok whole)) = Done
flat_answer file (Ok (Err part)) = CannotWrite
flat_answer file (Err (fault.Syntax line)) = NotVerilog file line
flat_answer file (Err (fault.Link name)) = BadInstance file name
flat_answer file (Err fault.OutOfMemory) = OutOfMemory
