-- What the assignment of a name gives, and how the multiplications of items join (own).
use Rattle.std.specs.Prelude.{◌≡◌, ◌<◌, ◌^◌, ℕ, List, [], ◌++◌, flat_map}
use Rattle.vl_ast.specs.declared.expressions.Expr.TheVariants.{Name}
use Rattle.vl_ast.specs.declared.modules.ModItem.{ModItem}
use Rattle.vl_ast.specs.declared.modules.ModItem.TheVariants.{Assign}
use Rattle.vl_ast.specs.Context.{Net}
use Rattle.vl_ast.specs.Multiplications.{item_multiplications}
use Rattle.vl_ast.specs.Value.{assigned}

-- a name that is assigned another of its width takes its bits
abbrev pub NameIsCopied : Type 0
NameIsCopied =
    (nets : List ℕ → Net) (row : List ℕ → ℕ) (width : ℕ) (name : List ℕ)
    → (nets name).width ≡ width → row name < 2 ^ width
    → assigned nets row width (Name name) ≡ row name

-- no multiplication is in it
abbrev pub NameMultipliesNone : Type 0
NameMultipliesNone = (nets : List ℕ → Net) (to from : List ℕ)
    → item_multiplications nets (Assign to (Name from)) ≡ []

-- the multiplications of items and more
abbrev pub MultiplicationsJoin : Type 0
MultiplicationsJoin =
    (nets : List ℕ → Net) (items more : List ModItem)
    → flat_map (item_multiplications nets) (items ++ more)
    ≡ flat_map (item_multiplications nets) items ++ flat_map (item_multiplications nets) more
