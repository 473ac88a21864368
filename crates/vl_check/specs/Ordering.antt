-- The assignments of a module in an order in which each stands behind those whose names it reads.
use Rattle.std.specs.Prelude.{◌≡◌, ◌≢◌, ℕ, ◌<◌, List, length, slice_get, slice_index, slice_index_or, Contains, Option, Some, None}
use Rattle.vl_ast.specs.declared.expressions.Expr.{Expr}
use Rattle.vl_ast.specs.declared.modules.ModItem.TheVariants.{Assign}
use Rattle.vl_ast.specs.declared.modules.Module.{Module}
use Rattle.vl_ast.specs.Nets.{names_read}
use Rattle.vl_check.specs.declared.scope.Scope.{Scope}
use Rattle.vl_check.specs.Scope.{names_in, number_in}

-- the numbers of names in order, and by number the place of the item that assigns it
pub record IsOrdering (m : Module) (scope : Scope) (order : List ℕ)
    (places : List (Option ℕ)) : Type 0 where
  pub within : (p : ℕ) → p < length order → slice_index order p < length (names_in scope)
  pub once : (p q : ℕ) → p < q → q < length order → slice_index order p ≢ slice_index order q
  -- each assignment is at the place of its name's number, which stands in the order
  pub each : (j : ℕ) (name : List ℕ) (value : Expr) → slice_get m.items j ≡ Some (Assign name value)
      → (v k : ℕ) × (number_in scope name ≡ Some v) × (slice_index_or places v None ≡ Some k)
      × (slice_get m.items k ≡ Some (Assign name value)) × Contains order v
  -- and nothing else has a place
  pub only : (v j : ℕ) → slice_index_or places v None ≡ Some j → (name : List ℕ) × (value : Expr)
      × (slice_get m.items j ≡ Some (Assign name value)) × (number_in scope name ≡ Some v)
  -- what an assignment reads stands before it
  pub earlier : (p j v : ℕ) (name read : List ℕ) (value : Expr) → p < length order
      → slice_index_or places (slice_index order p) None ≡ Some j
      → slice_get m.items j ≡ Some (Assign name value)
      → Contains (names_read value) read → number_in scope read ≡ Some v → (q : ℕ) × (q < p)
      × (slice_index order q ≡ v)
