-- A text that is no number of signs.
use Rattle.std.proofs.Common.{ℕ, Bool, List}
use Rattle.mdl_values.specs.Numbers.{IsNumberText}
use Rattle.mdl_values.specs.Signs.{IsCount}

pub no_count : (text : List ℕ) → ((n : ℕ) → ¬ IsNumberText 2 32 text n) → (negative : List Bool) → ¬ IsCount text negative
no_count text none negative count = none count.count count.read
