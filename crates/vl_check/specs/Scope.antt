-- The names that stand in a text, by their numbers, with their declarations.
use Rattle.std.specs.Prelude.{◌≡◌, ℕ, List, length, position, slice_index_or, bytes_eq, Contains, map, unwrap_or, Option, None, Some, option_map, option_and_then}
use Rattle.std.specs.List.{IsDistinct}
use Rattle.vl_ast.specs.Conditions.{mentioned}
use Rattle.std.specs.Borrow.{Bor}
use Rattle.vl_ast.specs.declared.modules.Module.{Module}
use Rattle.vl_ast.specs.Context.{Net}
use Rattle.vl_ast.specs.Nets.{Declared, declaration_of, mentions, net_or_none}
use Rattle.vl_check.specs.Names.{names_of}
use Rattle.vl_check.specs.declared.scope.Scope.{Scope}
use Rattle.vl_check.specs.inner.Mentions.{declared_of, texts}

-- the names in order
abbrev pub names_in : Scope → List (List ℕ)
names_in scope = texts scope.names.items

-- the place of a name among them
abbrev pub number_in : Scope → List ℕ → Option ℕ
number_in scope name = position (λ (key : Bor (List ℕ)). bytes_eq name key.now) scope.names.items

-- its declaration
abbrev pub declaration_in : Scope → List ℕ → Option Declared
declaration_in scope name =
    option_and_then (λ k. option_map declared_of (slice_index_or scope.declared.items k None))
    (number_in scope name)

-- its width and sign
abbrev pub nets_in : Scope → List ℕ → Net
nets_in scope name = net_or_none (declaration_in scope name)

-- its number, or how many names there are where it is none of them
abbrev pub number_at : Scope → List ℕ → ℕ
number_at scope name = unwrap_or (number_in scope name) (length (names_in scope))

-- the scope of a module's text: the names that stand in it, each once, with their declarations
pub record IsScopeOf (m : Module) (scope : Scope) : Type 0 where
  pub declares : (name : List ℕ) → declaration_in scope name ≡ declaration_of m name
  pub knows : (name : List ℕ) → Contains (map mentioned (mentions m)) name → (k : ℕ)
      × (number_in scope name ≡ Some k)
  pub apart : IsDistinct bytes_eq (names_in scope)
  pub names : names_in scope ≡ names_of m
