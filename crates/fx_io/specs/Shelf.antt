-- What a shelf holds under a name, where it tells that, and what a steady shelf answers (own).
use Rattle.std.specs.Prelude.{◌≡◌, ℕ, ◌<◌, ◌≤◌, List, length, Option, None, Some, Result, Err, ◌↔◌}
use Rattle.fx_io.specs.declared.shelf.FetchFault.{FetchFault}
use Rattle.fx_io.specs.declared.shelf.FetchFault.TheVariants.{Failed, TooLong}

-- what is told of a name: None where the shelf does not tell, Some None where it holds nothing
-- there
abbrev pub Told : Type 0
Told = Option (Option (List ℕ))

-- the bytes are those held, where that is told, and at most the limit
pub record Fetched (told : Told) (limit : ℕ) (bytes : List ℕ) : Type 0 where
  pub within : length bytes ≤ limit
  pub held : (entry : Option (List ℕ)) → told ≡ Some entry → entry ≡ Some bytes

-- the file is longer than the limit, and the length is its own, where that is told
pub record IsOverlong (told : Told) (limit reported : ℕ) : Type 0 where
  pub above : limit < reported
  pub held : (entry : Option (List ℕ)) → told ≡ Some entry →
      (bytes : List ℕ) × ((entry ≡ Some bytes) × (length bytes ≡ reported))

-- what a steady shelf answers: a fault exactly where it holds nothing, a refusal exactly where what
-- it holds is too long
pub record AnswersSteadily (told : Told) (limit : ℕ)
    (result : Result (List ℕ) FetchFault) : Type 0 where
  pub tells : (entry : Option (List ℕ)) × (told ≡ Some entry)
  pub failed : (result ≡ Err Failed) ↔ (told ≡ Some None)
  pub too_long : ((reported : ℕ) × (result ≡ Err (TooLong reported)))
      ↔ ((bytes : List ℕ) × ((told ≡ Some (Some bytes)) × (limit < length bytes)))
