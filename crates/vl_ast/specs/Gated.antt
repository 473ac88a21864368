-- A module whose registers stand still where `clk_enable` is 0 (own).
use Rattle.std.specs.Prelude.{◌≡◌, ◌≢◌, List, [], ◌∷◌, ◌++◌, map, codes, Contains, Option, Some, None}
use Rattle.vl_ast.specs.declared.expressions.BinOp.TheVariants.{Both}
use Rattle.vl_ast.specs.declared.expressions.Expr.{Expr}
use Rattle.vl_ast.specs.declared.expressions.Expr.TheVariants.{Name, Binary}
use Rattle.vl_ast.specs.declared.modules.ModItem.{ModItem}
use Rattle.vl_ast.specs.declared.modules.ModItem.TheVariants.{Wire, Reg, Assign, Always}
use Rattle.vl_ast.specs.declared.modules.Port.{Port}
use Rattle.vl_ast.specs.declared.modules.Module.{Module}
use Rattle.vl_ast.specs.Header.{bit_input, bit_output}
use Rattle.vl_ast.specs.Nets.{Declared, declarations}

-- `clk_enable`, and the condition where there is one
abbrev pub gated_condition : Option Expr → Expr
gated_condition None = Name (codes "clk_enable")
gated_condition (Some condition) = Binary Both (Name (codes "clk_enable")) condition

abbrev pub gated_item : ModItem → ModItem
gated_item (Wire signed width name) = Wire signed width name
gated_item (Reg signed width name) = Reg signed width name
gated_item (Assign name value) = Assign name value
gated_item (Always name first condition value) =
    Always name first (Some (gated_condition condition)) value

-- the same module, where no register takes its value without `clk_enable`
abbrev pub gated : Module → Module
gated m = record { name = m.name; attrs = m.attrs; ports = m.ports; items = map gated_item m.items }

-- a module has all ports and items of another
pub record HasAllOf (m o : Module) : Type 0 where
  pub ports : (port : Port) → Contains m.ports port → Contains o.ports port
  pub items : (i : ModItem) → Contains m.items i → Contains o.items i

-- `ce_out` shows `clk_enable`
abbrev pub shows_enable : ModItem
shows_enable = Assign (codes "ce_out") (Name (codes "clk_enable"))

-- the module declares neither name
pub record IsFresh (m : Module) : Type 0 where
  pub enable : (d : Declared) → Contains (declarations m) d → d.name ≢ codes "clk_enable"
  pub out : (d : Declared) → Contains (declarations m) d → d.name ≢ codes "ce_out"

-- the module with `clk_enable` and `ce_out` between its ports, and the item of `ce_out` at its end
pub record IsOpened (m o : Module) : Type 0 where
  pub name : o.name ≡ m.name
  pub attrs : o.attrs ≡ m.attrs
  pub front : List Port
  pub middle : List Port
  pub back : List Port
  pub were : m.ports ≡ front ++ (middle ++ back)
  pub ports : o.ports ≡ front ++ bit_input (codes "clk_enable")
      ∷ (middle ++ bit_output (codes "ce_out") ∷ back)
  pub items : o.items ≡ m.items ++ shows_enable ∷ []
