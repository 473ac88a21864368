-- Elements of root ports without their types and periods (own).
use Rattle.std.specs.Prelude.{ℕ, List, map}
use Rattle.dg_model.specs.RootElements.{RootElement}
use Rattle.dg_tables.specs.declared.roots.Root.{Root}

-- an element of the root port of this number, which is this block
abbrev pub root_at : ℕ → ℕ → ℕ → Root
root_at number block element = record { number = number; block = block; element = element }

-- the elements of a list without their types and periods
abbrev pub roots_of : List RootElement → List Root
roots_of elements = map (λ e. root_at e.number e.block e.element) elements
