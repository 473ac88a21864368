-- What is noted of the assignments among some items, by the numbers of the names that they assign.
use Rattle.std.specs.Prelude.{◌≡◌, ℕ, List, [], length, map, slice_get, slice_set, slice_index_or, Option, Some, None}
use Rattle.vl_ast.specs.declared.expressions.Expr.{Expr}
use Rattle.vl_ast.specs.declared.modules.ModItem.{ModItem}
use Rattle.vl_ast.specs.declared.modules.ModItem.TheVariants.{Wire, Reg, Assign, Always}
use Rattle.vl_ast.specs.Nets.{names_read}
use Rattle.vl_check.specs.declared.scope.Scope.{Scope}
use Rattle.vl_check.specs.Scope.{names_in, number_at, number_in}
use Rattle.fx_io.specs.Rows.{row_at}

abbrev pub places_after : Scope → List (Option ℕ) → ℕ → ModItem → List (Option ℕ)
places_after scope places at (Wire signed width name) = places
places_after scope places at (Reg signed width name) = places
places_after scope places at (Assign name value) = slice_set places (number_at scope name) (Some at)
places_after scope places at (Always name first condition value) = places

abbrev pub reads_after : Scope → List (List ℕ) → ModItem → List (List ℕ)
reads_after scope reads (Wire signed width name) = reads
reads_after scope reads (Reg signed width name) = reads
reads_after scope reads (Assign name value) =
    slice_set reads (number_at scope name) (map (number_at scope) (names_read value))
reads_after scope reads (Always name first condition value) = reads

-- an assignment among the items, of the name of a number, and what it reads
pub record IsNotedAt (scope : Scope) (passed : List ModItem) (reads : List (List ℕ))
    (v j : ℕ) : Type 0 where
  pub name : List ℕ
  pub value : Expr
  pub item : slice_get passed j ≡ Some (Assign name value)
  pub number : number_in scope name ≡ Some v
  pub row : row_at reads v ≡ map (number_at scope) (names_read value)

pub record IsNoted (scope : Scope) (passed : List ModItem) (places : List (Option ℕ))
    (reads : List (List ℕ)) : Type 0 where
  pub places_long : length places ≡ length (names_in scope)
  pub reads_long : length reads ≡ length (names_in scope)
  pub noted : (v j : ℕ) → slice_index_or places v None ≡ Some j → IsNotedAt scope passed reads v j
  pub none : (v : ℕ) → slice_index_or places v None ≡ None → row_at reads v ≡ []
  pub some : (j v : ℕ) (name : List ℕ) (value : Expr)
      → slice_get passed j ≡ Some (Assign name value) → number_in scope name ≡ Some v → (k : ℕ)
      × (slice_index_or places v None ≡ Some k)
