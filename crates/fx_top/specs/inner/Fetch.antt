-- Why a file could not be fetched, as an answer.
use Rattle.std.specs.Prelude.{◌≡◌, ℕ, ◌⊎◌, List, length, None, Some}
use Rattle.std.specs.Borrow.{Bor}
use Rattle.fx_io.specs.Shelf.{Fetched, IsOverlong}
use Rattle.fx_top.specs.declared.answer.Answer.{Answer}
use Rattle.fx_top.specs.declared.answer.Answer.TheVariants.{OutOfMemory, CannotRead, TooLong}
use Rattle.fx_top.specs.Call.{Files, file_limit}
use Rattle.fx_top.specs.Command.{PlanWord, EmptyPlan, Named}

-- the file was not to be had; over a steady shelf it isn't held
pub record IsUnread (files : Files) (file : List ℕ) (answer : Answer) : Type 0 where
  pub named : Bor (List ℕ)
  pub answer_is : answer ≡ CannotRead named
  pub same : named.now ≡ file
  pub rise : files.failed
  pub absent : files.steady → files.held file ≡ Some None

-- the file is too long
pub record IsUnfit (files : Files) (file : List ℕ) (answer : Answer) : Type 0 where
  pub named : Bor (List ℕ)
  pub reported : ℕ
  pub answer_is : answer ≡ TooLong named reported
  pub same : named.now ≡ file
  pub rise : files.met_overlong
  pub overlong : IsOverlong (files.held file) file_limit reported
  pub held : files.steady → (bytes : List ℕ)
      × ((files.held file ≡ Some (Some bytes)) × (length bytes ≡ reported))

abbrev pub IsFetchAnswer : Files → List ℕ → Answer → Type 0
IsFetchAnswer files file answer =
    (answer ≡ OutOfMemory) ⊎ (IsUnread files file answer ⊎ IsUnfit files file answer)

-- of two files: the first was not to be had, or it was and this is the answer of the second, which
-- the empty plan has none of
abbrev pub IsPairAnswer : Files → List ℕ → PlanWord → Answer → Type 0
IsPairAnswer files first EmptyPlan answer = IsFetchAnswer files first answer
IsPairAnswer files first (Named second) answer =
    IsFetchAnswer files first answer
    ⊎ ((bytes : List ℕ)
    × (Fetched (files.held first) file_limit bytes × IsFetchAnswer files second answer))
