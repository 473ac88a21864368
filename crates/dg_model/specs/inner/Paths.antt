-- The bytes of a path: that of the System around, a `/`, and a name (own).
use Rattle.std.specs.Prelude.{ℕ, List, ◌++◌, codes, Option, Some, None}
use Rattle.std.specs.Arc.{arc_value}
use Rattle.std.specs.declared.alloc.Global.{Global}
use Rattle.std.specs.declared.sync.Arc.{Arc}

abbrev pub whole_path : Option (Arc (List ℕ) Global) → List ℕ → List ℕ
whole_path None name = name
whole_path (Some around) name = arc_value around ++ codes "/" ++ name
