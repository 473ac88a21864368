-- What a sink took of bytes that were handed over, and what of them still waits (own).
use Rattle.std.specs.Prelude.{◌≡◌, ⊤, ℕ, List, ◌++◌, Option, Some, None, Result, Ok, Err}
use Rattle.fx_io.specs.Cause.{Rose}
use Rattle.fx_io.specs.Sink.{TookProperPrefix, also_took}
use Rattle.fx_io.specs.declared.sink.PutFault.{PutFault}
use Rattle.cmd_check.specs.declared.pending.Pending.{Pending}

-- the sink took the first of the bytes, and the others wait
pub record Waits (before now : Option (List ℕ)) (bytes waiting : List ℕ) : Type 0 where
  pub front : List ℕ
  pub taken : now ≡ also_took before front
  pub whole : bytes ≡ front ++ waiting

-- Bytes were handed over behind what a sink had taken, and it had failed so often before that.
-- After a fault it took some of them and not all, and nothing more is put.
abbrev pub HasTaken : Option (List ℕ) → ℕ → List ℕ → Option (List ℕ) → ℕ → List ℕ → Option PutFault
    → Type 0
HasTaken before count bytes now faults waiting None =
    Waits before now bytes waiting × (faults ≡ count)
HasTaken before count bytes now faults waiting (Some fault) =
    TookProperPrefix before now bytes × Rose count faults

-- bytes were handed over in a call, behind whatever was handed over before
pub record Adds {K : Type 0} (taken : K → Option (List ℕ)) (faults : K → ℕ) (old : K)
    (waited : Pending) (new : K) (waits : Pending) (bytes : List ℕ) : Type 0 where
  pub adds : (before : Option (List ℕ)) (count : ℕ) (earlier : List ℕ)
      → HasTaken before count earlier (taken old) (faults old) waited.bytes.items waited.fault
      → HasTaken before count (earlier ++ bytes) (taken new)
      (faults new) waits.bytes.items waits.fault

-- what became of all bytes that were handed over: they were taken, or a fault is answered
abbrev pub IsEnd : Option (List ℕ) → ℕ → List ℕ → Option (List ℕ) → ℕ → Result ⊤ PutFault → Type 0
IsEnd before count bytes now faults (Ok done) = now ≡ also_took before bytes
IsEnd before count bytes now faults (Err fault) =
    TookProperPrefix before now bytes × Rose count faults

-- so it became in a call, whatever was handed over before
pub record HasEnded {K : Type 0} (taken : K → Option (List ℕ)) (faults : K → ℕ) (old : K)
    (waited : Pending) (new : K) (result : Result ⊤ PutFault) : Type 0 where
  pub ends : (before : Option (List ℕ)) (count : ℕ) (bytes : List ℕ)
      → HasTaken before count bytes (taken old) (faults old) waited.bytes.items waited.fault
      → IsEnd before count bytes (taken new) (faults new) result
