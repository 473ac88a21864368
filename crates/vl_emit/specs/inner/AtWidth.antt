-- An expression that is written at a width, and a net that shows a number.
use Rattle.std.specs.Prelude.{◌≡◌, ℕ, Bool, List, ℤ}
use Rattle.math_num.specs.Word.{IsWord, InWord}
use Rattle.vl_ast.specs.declared.expressions.Expr.{Expr}
use Rattle.vl_ast.specs.Context.{Net, own_length}
use Rattle.vl_ast.specs.Value.{value_in}
use Rattle.vl_ast.specs.Value.{bits_of}
use Rattle.vl_emit.specs.Names.{Wire}

-- the expression has this length, and in a context of this length, whatever its sign, the bits of z
pub record IsWritten (nets : List ℕ → Net) (row : List ℕ → ℕ) (width : ℕ) (z : ℤ)
    (e : Expr) : Type 0 where
  pub length : own_length nets e ≡ width
  pub value : (signed : Bool) → value_in nets row width signed e ≡ bits_of width z

-- the net is declared with its word, and shows this number of the word
pub record Shows (nets : List ℕ → Net) (row : List ℕ → ℕ) (wire : Wire) (z : ℤ) : Type 0 where
  pub declared : nets wire.name ≡ record { width = wire.width; signed = wire.signed }
  pub word : IsWord wire.width wire.signed
  pub bits : row wire.name ≡ bits_of wire.width z
  pub in_word : InWord wire.width wire.signed z
