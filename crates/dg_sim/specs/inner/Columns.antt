-- Root elements in the order of the columns of a row (own).
use Rattle.std.specs.Prelude.{◌≡◌, ◌==◌, ◌&&◌, ◌||◌, nat_lt, Bool, true, List, AllPairs}
use Rattle.dg_tables.specs.declared.roots.Root.{Root}

-- an element stands before another one: by the number of its port, then by its place
abbrev pub is_root_before : Root → Root → Bool
is_root_before root other =
    nat_lt root.number other.number
    || ((root.number == other.number) && nat_lt root.element other.element)

-- each element stands before all later ones
abbrev pub AreSorted : List Root → Type 0
AreSorted roots = AllPairs (λ root other. is_root_before root other ≡ true) roots
