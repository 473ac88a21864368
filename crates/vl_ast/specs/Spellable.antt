-- What a module asks of its names, its attributes and its expressions so that some text spells it,
-- beside that it breaks no condition (own).
use Rattle.std.specs.Prelude.{◌≡◌, ◌≢◌, ◌^◌, ◌<◌, true, [], Contains, ⊤}
use Rattle.vl_ast.specs.declared.modules.Attr.{Attr}
use Rattle.vl_ast.specs.declared.modules.Port.{Port}
use Rattle.vl_ast.specs.declared.modules.ModItem.{ModItem}
use Rattle.vl_ast.specs.declared.modules.ModItem.TheVariants.{Wire, Reg, Assign, Always}
use Rattle.vl_ast.specs.declared.modules.Module.{Module}
use Rattle.vl_ast.specs.Grammar.{IsExpr, IsCondition}
use Rattle.vl_ast.specs.Nets.{Declared, declarations}
use Rattle.vl_names.specs.Identifiers.{is_identifier}

-- an attribute's name is an identifier, and its number has at most nine digits
pub record IsShortAttr (attr : Attr) : Type 0 where
  pub name : is_identifier attr.name ≡ true
  pub value : attr.value < 10 ^ 9

-- the expressions of an item are of the grammar
abbrev pub HasExprs : ModItem → Type 0
HasExprs (Wire signed width name) = ⊤
HasExprs (Reg signed width name) = ⊤
HasExprs (Assign name value) = IsExpr value
HasExprs (Always name first condition value) = IsCondition condition × IsExpr value

-- its names are identifiers, its attributes short, and its expressions of the grammar
pub record IsSpellable (m : Module) : Type 0 where
  pub name : is_identifier m.name ≡ true
  pub has_port : m.ports ≢ []
  pub declared : (d : Declared) → Contains (declarations m) d → is_identifier d.name ≡ true
  pub attrs : (attr : Attr) → Contains m.attrs attr → IsShortAttr attr
  pub port_attrs : (port : Port) → Contains m.ports port → (attr : Attr) → Contains port.attrs attr
      → IsShortAttr attr
  pub items : (i : ModItem) → Contains m.items i → HasExprs i
