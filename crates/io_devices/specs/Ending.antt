-- What was put of a line of messages (own).
use Rattle.std.specs.Prelude.{◌≡◌, ◌⊎◌, ℕ, List, Option}
use Rattle.fx_io.specs.Cause.{Rose}
use Rattle.fx_io.specs.Sink.{also_took, TookProperPrefix}

-- all of it was taken, or a proper beginning by a sink that failed
abbrev pub WasPut : {K : Type 0} → (K → Option (List ℕ)) → (K → ℕ) → K → K → List ℕ → Type 0
WasPut taken faults old new line =
    (taken new ≡ also_took (taken old) line)
    ⊎ (TookProperPrefix (taken old) (taken new) line × Rose (faults old) (faults new))
