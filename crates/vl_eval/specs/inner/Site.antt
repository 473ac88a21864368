-- What is built for the expressions of a module, whose names have places by their numbers.
use Rattle.std.specs.Prelude.{◌≡◌, ℕ, ◌+◌, ◌≤◌, ◌<◌, Bool, true, false, List, length, slice_index, Contains, Option, Some, None}
use Rattle.vl_ast.specs.declared.expressions.Expr.{Expr}
use Rattle.vl_ast.specs.Conditions.{is_sound}
use Rattle.vl_ast.specs.Context.{own_length, is_signed}
use Rattle.vl_ast.specs.Nets.{names_read}
use Rattle.vl_ast.proofs.Agree.{ByLayer}
use Rattle.vl_check.specs.declared.scope.Scope.{Scope}
use Rattle.vl_check.specs.declared.shapes.Shape.{Shape}
use Rattle.vl_check.specs.Scope.{nets_in, number_in}
use Rattle.vl_eval.specs.declared.adding.Additions.{Additions}
use Rattle.vl_eval.specs.declared.ops.Op.{Op}
use Rattle.vl_eval.specs.declared.site.Alone.{Alone}
use Rattle.vl_eval.specs.declared.site.Site.{Site}
use Rattle.vl_eval.specs.inner.PlaceBits.{Grows, IfFine, Shows}

-- the place of a name
abbrev pub slot_at : List ℕ → Option ℕ → ℕ
slot_at slots None = 0
slot_at slots (Some number) = slice_index slots number

abbrev pub slot_in : Scope → List ℕ → List ℕ → ℕ
slot_in scope slots name = slot_at slots (number_in scope name)

-- operations were added, and the place shows the expression
pub record Built (base : ℕ) (scope : Scope) (slots : List ℕ) (before after : List Op)
    (slot width : ℕ) (signed : Bool) (e : Expr) : Type 0 where
  pub grows : Grows base before after
  pub shows : Shows base (nets_in scope) (slot_in scope slots) after slot width signed e

-- operations were added, and the place shows the expression in the context that it makes by itself
pub record BuiltAlone (base : ℕ) (scope : Scope) (slots : List ℕ) (before after : Additions)
    (alone : Alone) (e : Expr) : Type 0 where
  pub length : alone.shape.length ≡ own_length (nets_in scope) e
  pub sign : alone.shape.signed ≡ is_signed (nets_in scope) e
  pub few : alone.shape.length ≤ 128
  pub built : IfFine before after
      (Built base scope slots before.code after.code alone.slot alone.shape.length
      alone.shape.signed e)

-- the names have places that stand before the next operation, and 1 to 128 bits
pub record ArePlaced (base : ℕ) (scope : Scope) (slots : List ℕ) (ops : List Op)
    (names : List (List ℕ)) : Type 0 where
  pub below : (name : List ℕ) → Contains names name → slot_in scope slots name < base + length ops
  pub few : (name : List ℕ) → Contains names name → (nets_in scope name).width ≤ 128

-- what building an expression in a context asks for: the law of a value by its layer, a sound
-- expression, room for it, and names with places
pub record CanBuild (site : Site) (ops : Additions) (width : ℕ) (e : Expr) : Type 0 where
  pub by_layer : ByLayer
  pub sound : is_sound (nets_in site.scope.now) e ≡ true
  pub longer : own_length (nets_in site.scope.now) e ≤ width
  pub most : width ≤ 128
  pub placed : ops.wanting ≡ false
      → ArePlaced site.base site.scope.now site.slots.now ops.code (names_read e)

-- and what it gives
abbrev pub IsBuilt : Site → Additions → Additions → Shape → Expr → ℕ → Type 0
IsBuilt site before after context e slot =
    IfFine before after
    (Built site.base site.scope.now site.slots.now before.code after.code slot context.length
    context.signed e)

-- the same in the context that the expression makes by itself
pub record CanBuildAlone (site : Site) (ops : Additions) (e : Expr) : Type 0 where
  pub by_layer : ByLayer
  pub sound : is_sound (nets_in site.scope.now) e ≡ true
  pub placed : ops.wanting ≡ false
      → ArePlaced site.base site.scope.now site.slots.now ops.code (names_read e)

abbrev pub IsBuiltAlone : Site → Additions → Additions → Expr → Alone → Type 0
IsBuiltAlone site before after e alone =
    BuiltAlone site.base site.scope.now site.slots.now before after alone e
