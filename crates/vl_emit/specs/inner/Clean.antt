-- An expression that breaks no condition, reads allowed names only and multiplies nothing.
use Rattle.std.specs.Prelude.{◌≡◌, ℕ, Bool, true, false, List, [], Contains}
use Rattle.vl_ast.specs.declared.expressions.Expr.{Expr}
use Rattle.vl_ast.specs.declared.expressions.Expr.TheFolds.{para-Expr}
use Rattle.vl_ast.specs.Context.{Net, own_length}
use Rattle.vl_ast.specs.Conditions.{is_sound_step, is_sound_item}
use Rattle.vl_ast.specs.declared.modules.ModItem.{ModItem}
use Rattle.vl_ast.specs.Nets.{names_read}
use Rattle.vl_emit.specs.Reads.{item_reads}
use Rattle.vl_ast.specs.Multiplications.{multiplications_in, item_multiplications}

pub record IsClean (nets : List ℕ → Net) (allowed : List ℕ → Type 0) (width : ℕ)
    (e : Expr) : Type 0 where
  pub length : own_length nets e ≡ width
  pub sound : para-Expr Bool (is_sound_step nets) e ≡ true
  pub reads : (name : List ℕ) → Contains (names_read e) name → allowed name
  pub products : (context : ℕ) (signed : Bool) → multiplications_in nets context signed e ≡ []

-- an item that breaks no condition on its expressions, reads allowed names only, and where it may
-- not multiply has no multiplication
pub record IsCleanItem (nets : List ℕ → Net) (allowed : List ℕ → Type 0) (multiplies : Bool)
    (item : ModItem) : Type 0 where
  pub sound : is_sound_item nets item ≡ true
  pub reads : (name : List ℕ) → Contains (item_reads item) name → allowed name
  pub products : multiplies ≡ false → item_multiplications nets item ≡ []
