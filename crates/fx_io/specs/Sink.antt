-- What a sink took, where it tells that (own).
use Rattle.std.specs.Prelude.{◌≡◌, ℕ, ◌<◌, List, ◌++◌, length, take, Option, None}
use Rattle.std.specs.Option.{option_map}

-- what was taken once these bytes were taken too
abbrev pub also_took : Option (List ℕ) → List ℕ → Option (List ℕ)
also_took told bytes = option_map (λ earlier. earlier ++ bytes) told

-- some of the bytes were taken, from the first on, and not all
abbrev pub TookProperPrefix : Option (List ℕ) → Option (List ℕ) → List ℕ → Type 0
TookProperPrefix before now bytes =
    (count : ℕ) × ((count < length bytes) × (now ≡ also_took before (take count bytes)))

-- what a sink tells that doesn't tell what it took
abbrev pub untold : Option (List ℕ)
untold = None
