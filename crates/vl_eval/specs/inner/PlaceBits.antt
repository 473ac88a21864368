-- What a place shows of an expression, and how operations are added for it.
use Rattle.std.specs.Prelude.{◌≡◌, ℕ, ◌+◌, ◌<◌, ◌^◌, Bool, false, List, ◌++◌, ◌∷◌, [], ◌-◌, ◌⊎◌, length, Contains}
use Rattle.vl_ast.specs.declared.expressions.Expr.{Expr}
use Rattle.vl_ast.specs.Context.{Net}
use Rattle.vl_ast.specs.Nets.{names_read}
use Rattle.vl_ast.specs.Value.{value_in}
use Rattle.vl_eval.specs.declared.adding.Additions.{Additions}
use Rattle.vl_eval.specs.declared.ops.Op.{Op}
use Rattle.vl_eval.specs.declared.ops.Op.TheVariants.{One, Beside}
use Rattle.vl_eval.specs.declared.ops.OneOp.TheVariants.{Extended}
use Rattle.vl_eval.specs.inner.Ops.{IsOrdered, IsSettled}

-- a row gives each of these names bits that fit its width
pub record NamesFit (nets : List ℕ → Net) (row : List ℕ → ℕ) (names : List (List ℕ)) : Type 0 where
  pub at : (name : List ℕ) → Contains names name → row name < 2 ^ (nets name).width

-- the row that values in places are
abbrev pub row_of : (List ℕ → ℕ) → (ℕ → ℕ) → List ℕ → ℕ
row_of slot_of values name = values (slot_of name)

-- the place has the value of the expression in the context, once the operations are settled
pub record Shows (base : ℕ) (nets : List ℕ → Net) (slot_of : List ℕ → ℕ) (ops : List Op)
    (slot width : ℕ) (signed : Bool) (e : Expr) : Type 0 where
  pub below : slot < base + length ops
  pub is : (values : ℕ → ℕ) → IsSettled base ops values
      → NamesFit nets (row_of slot_of values) (names_read e)
      → values slot ≡ value_in nets (row_of slot_of values) width signed e

-- operations were added, each of which reads what stands before it
pub record Grows (base : ℕ) (before after : List Op) : Type 0 where
  pub more : List Op
  pub grown : after ≡ before ++ more
  pub ordered : IsOrdered base before → IsOrdered base after

-- this was done, and nothing was wanting before, unless something was wanting
abbrev pub IfFine : Additions → Additions → Type 0 → Type 0
IfFine before after Done = after.wanting ≡ false → (before.wanting ≡ false) × Done

-- one operation was added, at this place
pub record Pushed (base : ℕ) (before after : List Op) (slot : ℕ) (op : Op) : Type 0 where
  pub place : slot ≡ base + length before
  pub grown : after ≡ before ++ op ∷ []

-- a word, extended by its sign bit where the context is longer
abbrev pub IsExtended : ℕ → List Op → List Op → ℕ → ℕ → ℕ → ℕ → Type 0
IsExtended base before after slot part from to =
    ((from ≡ to) × (slot ≡ part) × (after ≡ before))
    ⊎ Pushed base before after slot (One (Extended (2 ^ (from - 1)) (2 ^ to - 2 ^ from)) part)

-- an operand on the right of another; where that has no bits, the operand itself
abbrev pub IsBeside : ℕ → List Op → List Op → ℕ → ℕ → ℕ → ℕ → ℕ → Type 0
IsBeside base before after slot left left_length right right_length =
    ((left_length ≡ 0) × (slot ≡ right) × (after ≡ before))
    ⊎ ((0 < left_length) × Pushed base before after slot (Beside left right right_length))
