-- What the operations of an assignment, of a condition and of a register's next bits show.
use Rattle.std.specs.Prelude.{◌≡◌, ℕ, ◌+◌, ◌<◌, ◌≤◌, ◌==◌, not, Bool, if◌then◌else◌, List, ◌∷◌, ◌++◌, length, codes, Option, None, Some, true}
use Rattle.vl_ast.specs.declared.expressions.Sized.{Sized}
use Rattle.vl_ast.specs.declared.expressions.Expr.{Expr}
use Rattle.vl_ast.specs.Context.{Net}
use Rattle.vl_ast.specs.Nets.{condition_names, names_read}
use Rattle.vl_ast.specs.Value.{assigned, assigned_number, is_true}
use Rattle.vl_check.specs.declared.scope.Scope.{Scope}
use Rattle.vl_check.specs.Scope.{nets_in}
use Rattle.vl_eval.specs.declared.ops.Op.{Op}
use Rattle.vl_eval.specs.inner.Ops.{IsSettled}
use Rattle.vl_eval.specs.inner.PlaceBits.{Grows, NamesFit, row_of}
use Rattle.vl_eval.specs.inner.Site.{slot_in}

pub record Assigns (base : ℕ) (scope : Scope) (slots : List ℕ) (before after : List Op)
    (slot width : ℕ) (e : Expr) : Type 0 where
  pub grows : Grows base before after
  pub below : slot < base + length after
  pub is : (values : ℕ → ℕ) → IsSettled base after values
      → NamesFit (nets_in scope) (row_of (slot_in scope slots) values) (names_read e)
      → values slot ≡ assigned (nets_in scope) (row_of (slot_in scope slots) values) width e

-- whether a register takes its value
abbrev pub takes_in : (List ℕ → Net) → (List ℕ → ℕ) → Option Expr → Bool
takes_in nets row None = true
takes_in nets row (Some condition) = is_true nets row condition

pub record Tests (base : ℕ) (scope : Scope) (slots : List ℕ) (before after : List Op) (slot : ℕ)
    (condition : Option Expr) : Type 0 where
  pub grows : Grows base before after
  pub below : slot < base + length after
  pub is : (values : ℕ → ℕ) → IsSettled base after values
      → NamesFit (nets_in scope) (row_of (slot_in scope slots) values) (condition_names condition)
      → not (values slot == 0)
      ≡ takes_in (nets_in scope) (row_of (slot_in scope slots) values) condition

-- a register's bits after an edge
abbrev pub next_in : (List ℕ → Net) → (List ℕ → ℕ) → List ℕ → Sized → Option Expr → Expr → ℕ
next_in nets row name first condition value =
    if row (codes "reset") == 1 then assigned_number (nets name).width first
    else (if takes_in nets row condition then assigned nets row (nets name).width value
    else row name)

abbrev pub next_names : List ℕ → Option Expr → Expr → List (List ℕ)
next_names name condition value =
    codes "reset" ∷ name ∷ (condition_names condition ++ names_read value)

pub record Captures (base : ℕ) (scope : Scope) (slots : List ℕ) (before after : List Op) (slot : ℕ)
    (name : List ℕ) (first : Sized) (condition : Option Expr) (value : Expr) : Type 0 where
  pub grows : Grows base before after
  pub below : slot < base + length after
  pub above : base ≤ slot
  pub is : (values : ℕ → ℕ) → IsSettled base after values
      → NamesFit (nets_in scope) (row_of (slot_in scope slots) values)
      (next_names name condition value)
      → values slot
      ≡ next_in (nets_in scope) (row_of (slot_in scope slots) values) name first condition value
