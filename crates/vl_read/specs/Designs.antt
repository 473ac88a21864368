-- The text of a design (IEEE 1364-2005, 12.1), and the line of a fault in it (own).
use Rattle.std.specs.Prelude.{◌≡◌, ℕ, ◌+◌, ◌≤◌, false, List, [], ◌∷◌, ◌++◌, length, sum_by}
use Rattle.std.specs.List.{AllZip, flat_map}
use Rattle.fx_io.specs.FaultLine.{IsFaultLine}
use Rattle.vl_ast.specs.declared.modules.Module.{Module}
use Rattle.vl_ast.specs.Grammar.{IsModuleText, most_items}
use Rattle.vl_ast.specs.Instances.{IsTopText}
use Rattle.vl_ast.specs.Tokens.{Token, Lays}
use Rattle.vl_read.specs.declared.design.Design.{Design}

-- design = {module} top: modules without instances, and the top, among whose items they stand
pub record IsDesignText (design : Design) (tokens : List Token) : Type 0 where
  pub below : List Module
  pub top : Module
  pub parted : design.modules ≡ below ++ top ∷ []
  pub texts : List (List Token)
  pub each_below : AllZip IsModuleText below texts
  pub last : List Token
  pub top_text : IsTopText top design.instances last
  pub text : tokens ≡ flat_map (λ text. text) texts ++ last

-- the bytes are a text of the design
pub record SpellsDesign (bytes : List ℕ) (design : Design) : Type 0 where
  pub tokens : List Token
  pub grammar : IsDesignText design tokens
  pub layout : Lays false tokens bytes

-- how many items modules have together
abbrev pub items_of : List Module → ℕ
items_of modules = sum_by (λ (m : Module). length m.items) modules

-- how many items a design has, instances counted
abbrev pub items_in : Design → ℕ
items_in design = items_of design.modules + length design.instances

-- the bytes spell a design that isn't too long to be read
abbrev pub IsDesign : List ℕ → Type 0
IsDesign bytes = (design : Design) × SpellsDesign bytes design × (items_in design ≤ most_items)

-- the bytes spell no such design
abbrev pub IsNoDesign : List ℕ → Type 0
IsNoDesign bytes = (design : Design) → SpellsDesign bytes design → items_in design ≤ most_items → ⊥

-- the line at which the bytes stop being the beginning of such a text
abbrev pub IsDesignFaultLine : List ℕ → ℕ → Type 0
IsDesignFaultLine bytes line = IsFaultLine IsDesign bytes line
