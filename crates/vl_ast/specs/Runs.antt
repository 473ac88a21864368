-- The run of a module, row after row: a set of equations over rows, with no order and no state
-- (IEEE 1364-2005, 6.1 and 9.2.2). A row gives each name its bits, and one edge of `clk` stands
-- between a row and the next.
use Rattle.std.specs.Prelude.{◌≡◌, ℕ, ◌+◌, ◌^◌, ◌<◌, ◌==◌, Bool, true, if◌then◌else◌, List, Contains, Option, Some, None, codes}
use Rattle.vl_ast.specs.declared.expressions.Sized.{Sized}
use Rattle.vl_ast.specs.declared.expressions.Expr.{Expr}
use Rattle.vl_ast.specs.declared.modules.Port.{Port}
use Rattle.vl_ast.specs.declared.modules.ModItem.TheVariants.{Reg, Assign, Always}
use Rattle.vl_ast.specs.declared.modules.Module.{Module}
use Rattle.vl_ast.specs.Nets.{Declared, declarations, nets_of}
use Rattle.vl_ast.specs.Value.{assigned, assigned_number, is_true}

-- the bits of each name
abbrev pub Row : Type 0
Row = List ℕ → ℕ

-- row after row
abbrev pub Rows : Type 0
Rows = ℕ → Row

-- whether a register takes its value at an edge without reset: no condition, or a true one
abbrev pub takes_value : Module → Row → Option Expr → Bool
takes_value m row None = true
takes_value m row (Some condition) = is_true (nets_of m) row condition

-- a register's bits after the edge that ends a row
abbrev pub next_bits : Module → Row → List ℕ → Sized → Option Expr → Expr → ℕ
next_bits m row name first condition value =
    if row (codes "reset") == 1 then assigned_number (nets_of m name).width first
    else (if takes_value m row condition then assigned (nets_of m) row (nets_of m name).width value
    else row name)

-- these are rows of the module, `count` of them, where `start` gives each register its bits in row
-- 0 and `inputs` gives the input ports their bits in each row
pub record Runs (m : Module) (count : ℕ) (start : Row) (inputs rows : Rows) : Type 0 where
  -- each name has bits of its width
  pub fits : (k : ℕ) → k < count → (declared : Declared) → Contains (declarations m) declared
      → rows k declared.name < 2 ^ declared.net.width
  pub starts : 0 < count → (signed : Bool) (width : ℕ) (name : List ℕ)
      → Contains m.items (Reg signed width name) → rows 0 name ≡ start name
  pub driven : (k : ℕ) → k < count → (port : Port) → Contains m.ports port → port.input ≡ true
      → rows k port.name ≡ inputs k port.name
  pub assigns : (k : ℕ) → k < count → (name : List ℕ) (value : Expr)
      → Contains m.items (Assign name value)
      → rows k name ≡ assigned (nets_of m) (rows k) (nets_of m name).width value
  pub steps : (k : ℕ) → k + 1 < count
      → (name : List ℕ) (first : Sized) (condition : Option Expr) (value : Expr)
      → Contains m.items (Always name first condition value)
      → rows (k + 1) name ≡ next_bits m (rows k) name first condition value
