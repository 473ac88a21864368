-- What the reading of a text gives (own).
use Rattle.std.specs.Prelude.{Option, MatchOption}

-- a value that the text has, or none where it has none
abbrev pub Finds : {A : Type 0} → (A → Type 0) → Option A → Type 0
Finds {A} IsRead found = MatchOption found ((value : A) → ¬ IsRead value) IsRead
