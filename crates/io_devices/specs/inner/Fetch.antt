-- What a fetch gave, and what it counted.
use Rattle.std.specs.Prelude.{◌≡◌, ⊤, ◌+◌, ◌<◌, ◌≤◌, ℕ, List, Result, Ok, Err, None, Vec, length, IfOk, IsErrOf, OnOk}
use Rattle.std.specs.Global.{Global}
use Rattle.fx_io.specs.Cause.{Rose}
use Rattle.fx_io.specs.Shelf.{Fetched, IsOverlong}
use Rattle.fx_io.specs.declared.shelf.FetchFault.{FetchFault}
use Rattle.fx_io.specs.declared.shelf.FetchFault.TheVariants.{Failed, TooLong, OutOfMemory}

-- at most so many bytes; a fault is counted, and so is a longer file, and nothing else
abbrev pub IsCounted : ℕ → ℕ → ℕ → ℕ → ℕ → Result (List ℕ) FetchFault → Type 0
IsCounted limit faults later overlong longer (Ok bytes) =
    (length bytes ≤ limit) × (later ≡ faults) × (longer ≡ overlong)
IsCounted limit faults later overlong longer (Err Failed) =
    Rose faults later × (faults ≤ later) × (longer ≡ overlong)
IsCounted limit faults later overlong longer (Err (TooLong reported)) =
    (limit < reported) × (later ≡ faults) × Rose overlong longer × (overlong ≤ longer)
IsCounted limit faults later overlong longer (Err OutOfMemory) =
    (later ≡ faults) × (longer ≡ overlong)

-- what a shelf owes of a fetch that tells nothing of its files
pub record IsOwed (limit faults later overlong longer : ℕ) (result : Result (List ℕ) FetchFault)
    : Type 0 where
  pub found : IfOk result (λ bytes. Fetched None limit bytes)
  pub failed : IsErrOf result Failed → Rose faults later
  pub faultless : (IsErrOf result Failed → ⊥) → later ≡ faults
  pub too_long : (reported : ℕ) → result ≡ Err (TooLong reported)
      → IsOverlong None limit reported
  pub too_long_cause : (reported : ℕ) → result ≡ Err (TooLong reported) → Rose overlong longer
  pub none_too_long : OnOk result (longer ≡ overlong)
  pub faults_later : faults ≤ later
  pub overlong_later : overlong ≤ longer

-- what is fetched of a file of which so much was read, or which had a fault: all that was read,
-- where that isn't too long, and a failure but where memory was wanting
abbrev pub IsAnswerTo : {E : Type 0} → (E → Type 0) → ℕ → Result (Vec ℕ Global) E
    → Result (List ℕ) FetchFault → Type 0
IsAnswerTo IsWanting limit (Ok read) (Ok bytes) = bytes ≡ read.items
IsAnswerTo IsWanting limit (Ok read) (Err Failed) = ⊥
IsAnswerTo IsWanting limit (Ok read) (Err (TooLong reported)) =
    (limit < length read.items) × (reported ≡ limit + 1)
IsAnswerTo IsWanting limit (Ok read) (Err OutOfMemory) = ⊤
IsAnswerTo IsWanting limit (Err fault) (Ok bytes) = ⊥
IsAnswerTo IsWanting limit (Err fault) (Err Failed) = IsWanting fault → ⊥
IsAnswerTo IsWanting limit (Err fault) (Err (TooLong reported)) = ⊥
IsAnswerTo IsWanting limit (Err fault) (Err OutOfMemory) = IsWanting fault
