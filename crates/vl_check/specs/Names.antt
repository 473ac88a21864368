-- The names that stand in a module's text, each once, in the order of their first places.
use Rattle.std.specs.Prelude.{ℕ, List, [], ◌∷◌, ◌++◌, map, fold, bytes_eq, if◌then◌else◌}
use Rattle.std.specs.List.{list_any}
use Rattle.vl_ast.specs.declared.modules.Module.{Module}
use Rattle.vl_ast.specs.Conditions.{mentioned}
use Rattle.vl_ast.specs.Nets.{mentions}

-- with one more at the end, if it isn't among them
abbrev pub with_name : List (List ℕ) → List ℕ → List (List ℕ)
with_name names name = if list_any (bytes_eq name) names then names else names ++ name ∷ []

abbrev pub names_of : Module → List (List ℕ)
names_of m = fold with_name [] (map mentioned (mentions m))
