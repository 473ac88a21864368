-- How the program ends (own).
use Rattle.std.specs.Prelude.{◌≡◌, ◌⊎◌, ℕ, List, [], Option, Result, Ok, Err, drop, map, string_bytes, String}
use Rattle.std.specs.Global.{Global}
use Rattle.std.specs.Vec.Iter.{into_iter_items}
use Rattle.std.specs.declared.vec.IntoIter.{IntoIter}
use Rattle.io_devices.specs.Ending.{WasPut}
use Rattle.fx_io.specs.Cause.{Rose}
use Rattle.fx_io.specs.Sink.{untold}
use Rattle.fx_top.specs.Call.{Files, Stream, stream_in}
use Rattle.fx_top.specs.Caused.{Ends}
use Rattle.fx_top.specs.Messages.{memory_line, unwritten_line}

-- the words of these arguments behind the program's name, and none where they aren't all text
abbrev pub HasWords : {E : Type 0} → Result (IntoIter (String Global) Global) E → List (List ℕ)
    → Type 0
HasWords (Ok args) words = words ≡ map string_bytes (drop 1 (into_iter_items args))
HasWords (Err fault) words = words ≡ []

-- the program's output, which tells nothing, and whose writes have failed so often
abbrev pub output_of : ℕ → Stream
output_of faults = record { before = untold; now = untold; failed = Rose 0 faults }

-- `run` ended over these words, and its status is the program's; or it was 0, the rest of the output
-- can't be written, and that was said. The messages are told by their sink before and after.
pub record IsDone {E : Type 0} (taken : E → Option (List ℕ)) (faults : E → ℕ) (old new : E)
    (words : List (List ℕ)) (files : Files) (status : ℕ) : Type 0 where
  pub of_run : ℕ
  pub between : E
  pub out_faults : ℕ
  pub ends : Ends words files (output_of out_faults) (stream_in taken faults old between) of_run
  pub closed : ((status ≡ of_run) × (new ≡ between))
      ⊎ ((of_run ≡ 0) × (status ≡ 4) × WasPut taken faults between new unwritten_line)

-- the program ended so over these arguments, or memory was wanting, which was said
abbrev pub IsEnded : {E F : Type 0} → (E → Option (List ℕ)) → (E → ℕ) → E → E
    → Result (IntoIter (String Global) Global) F → Files → ℕ → Type 0
IsEnded taken faults old new args files status =
    ((words : List (List ℕ)) × HasWords args words × IsDone taken faults old new words files status)
    ⊎ ((status ≡ 1) × WasPut taken faults old new memory_line)
