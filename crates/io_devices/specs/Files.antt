-- What is fetched of a file whose bytes are told (own).
use Rattle.std.specs.Prelude.{◌≡◌, ⊤, ◌+◌, ◌^◌, ◌<◌, ℕ, List, Option, Result, Ok, Err, length, IfSome}
use Rattle.fx_io.specs.declared.shelf.FetchFault.{FetchFault}
use Rattle.fx_io.specs.declared.shelf.FetchFault.TheVariants.{Failed, TooLong, OutOfMemory}

-- all of them, or a refusal where there are more than the limit, which is below the greatest number
-- of 64 bits
abbrev pub IsOfFile : Option (List ℕ) → ℕ → Result (List ℕ) FetchFault → Type 0
IsOfFile told limit (Ok bytes) =
    IfSome told (λ held. limit + 1 < 2 ^ 64 → bytes ≡ held)
IsOfFile told limit (Err Failed) = ⊤
IsOfFile told limit (Err (TooLong reported)) = IfSome told (λ held. limit < length held)
IsOfFile told limit (Err OutOfMemory) = ⊤
