-- Which item drives a name (own).
use Rattle.std.specs.Prelude.{◌≡◌, ℕ, Bool, true, false, List, Contains, slice_get, Some}
use Rattle.vl_ast.specs.declared.modules.ModItem.{ModItem}
use Rattle.vl_ast.specs.declared.modules.ModItem.TheVariants.{Wire, Reg, Assign, Always}
use Rattle.vl_ast.specs.declared.modules.Module.{Module}
use Rattle.vl_ast.specs.Conditions.{IsAcyclic, item_name, needs_driver}
use Rattle.vl_ast.specs.Nets.{Declared, declarations}

-- the item declares a net; else it drives one
abbrev pub declares : ModItem → Bool
declares (Wire signed width name) = true
declares (Reg signed width name) = true
declares (Assign name value) = false
declares (Always name first condition value) = false

-- the item at this place drives the name
pub record DrivesAt (m : Module) (name : List ℕ) (place : ℕ) (i : ModItem) : Type 0 where
  pub there : slice_get m.items place ≡ Some i
  pub drives : declares i ≡ false
  pub named : item_name i ≡ name

-- one item does, and no other
pub record IsDrivenOnce (m : Module) (name : List ℕ) : Type 0 where
  pub place : ℕ
  pub item : ModItem
  pub here : DrivesAt m name place item
  pub only : (k : ℕ) (other : ModItem) → DrivesAt m name k other → k ≡ place

-- each declared name that needs a driver has exactly one
abbrev pub OneDriver : Type 0
OneDriver =
    (m : Module) (d : Declared) → IsAcyclic m → Contains (declarations m) d
    → needs_driver d.kind ≡ true → IsDrivenOnce m d.name
