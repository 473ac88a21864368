-- What is known of a module's names before its conditions are tried.
use Rattle.std.specs.Prelude.{◌≡◌, ℕ, List, length, map, None}
use Rattle.vl_ast.specs.declared.modules.Module.{Module}
use Rattle.vl_ast.specs.Conditions.{BreaksNone, IsAcyclic, doubly, mentioned, undriven}
use Rattle.vl_ast.specs.Nets.{mentions}
use Rattle.vl_check.specs.declared.mentions.Mention.{Mention}
use Rattle.vl_check.specs.declared.ordering.Found.{Found}
use Rattle.vl_check.specs.declared.scope.Scope.{Scope}
use Rattle.vl_check.specs.Ordering.{IsOrdering}
use Rattle.vl_check.specs.Scope.{IsScopeOf}
use Rattle.vl_check.specs.inner.Marks.{AreFirst, AreNumbered}
use Rattle.vl_check.specs.inner.Mentions.{shown}

-- the names of a module's text with their declarations, and the number of the name at each place
pub record IsKnown (m : Module) (text : List Mention) (names : Scope)
    (places : List ℕ) : Type 0 where
  pub whole : shown text ≡ mentions m
  pub scope : IsScopeOf m names
  pub numbers : AreNumbered text places (length names.declared.items)
  pub first : AreFirst (map mentioned (shown text)) places names.declared.items (shown text)

-- a module whose assignments can be told by the names that they give
pub record IsOrderable (m : Module) (text : List Mention) (names : Scope) : Type 0 where
  pub whole : shown text ≡ mentions m
  pub scope : IsScopeOf m names
  pub driven : undriven m ≡ None
  pub once : doubly m ≡ None

-- an order of the assignments of a module, none of which are in a cycle
pub record IsFound (m : Module) (names : Scope) (found : Found) : Type 0 where
  pub acyclic : IsAcyclic m
  pub order : IsOrdering m names found.order.items found.places.items

-- and of a module that breaks no condition
pub record IsSoundOrder (m : Module) (names : Scope) (found : Found) : Type 0 where
  pub sound : BreaksNone m
  pub order : IsOrdering m names found.order.items found.places.items
