-- What an expression over other names is and means (own).
use Rattle.std.specs.Prelude.{◌≡◌, ℕ, List, map, length, Contains}
use Rattle.vl_ast.specs.declared.expressions.Expr.{Expr}
use Rattle.vl_ast.specs.declared.modules.ModItem.{ModItem}
use Rattle.vl_ast.specs.Conditions.{is_sound}
use Rattle.vl_ast.specs.Context.{Net, own_length, is_signed}
use Rattle.vl_ast.specs.Grammar.{IsExpr, depth, is_filled}
use Rattle.vl_ast.specs.Multiplications.{item_multiplications}
use Rattle.vl_ast.specs.Nets.{names_read}
use Rattle.vl_ast.specs.Spellable.{HasExprs}
use Rattle.vl_ast.specs.Value.{assigned, is_true}
use Rattle.vl_inner.specs.Renamed.{Renaming, renamed, renamed_item}

-- the same is declared of the names that an expression reads, under either name
abbrev pub AreDeclaredAlike : Renaming → (List ℕ → Net) → (List ℕ → Net) → Expr → Type 0
AreDeclaredAlike rename nets other e =
    (name : List ℕ) → Contains (names_read e) name → nets (rename name) ≡ other name

-- it means what it means over its own names
pub record MeansTheSame (rename : Renaming) (nets other : List ℕ → Net) (row : List ℕ → ℕ)
    (e : Expr) : Type 0 where
  pub assigned_is : (width : ℕ) → assigned nets row width (renamed rename e)
      ≡ assigned other (λ name. row (rename name)) width e
  pub true_is : is_true nets row (renamed rename e) ≡ is_true other (λ name. row (rename name)) e
  pub length_is : own_length nets (renamed rename e) ≡ own_length other e

-- where the same is declared of the names that it reads
abbrev pub RenamedMeans : Type 0
RenamedMeans =
    (rename : Renaming) (nets other : List ℕ → Net) (row : List ℕ → ℕ) (e : Expr)
    → AreDeclaredAlike rename nets other e → MeansTheSame rename nets other row e

-- it reads these names
abbrev pub RenamedReads : Type 0
RenamedReads = (rename : Renaming) (e : Expr)
    → names_read (renamed rename e) ≡ map rename (names_read e)

-- it is of the grammar where the expression is
abbrev pub RenamedIsOfGrammar : Type 0
RenamedIsOfGrammar =
    (rename : Renaming) (i : ModItem) → HasExprs i → HasExprs (renamed_item rename i)

-- an item has as many multiplications
abbrev pub RenamedMultiplies : Type 0
RenamedMultiplies =
    (rename : Renaming) (nets other : List ℕ → Net) (i : ModItem)
    → length (item_multiplications nets (renamed_item rename i))
    ≡ length (item_multiplications other i)

-- an item over its own names is itself
abbrev pub RenamedIsSame : Type 0
RenamedIsSame = (i : ModItem) → renamed_item (λ name. name) i ≡ i
