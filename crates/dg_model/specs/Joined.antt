-- The bytes of a path from its parts (own).
use Rattle.std.specs.Prelude.{ℕ, List, ◌++◌, codes, Option, Some, None}

-- a name behind the path of the System around it and a `/`; at the root the name alone
abbrev pub joined : Option (List ℕ) → List ℕ → List ℕ
joined None name = name
joined (Some around) name = around ++ codes "/" ++ name
