-- The texts of a scope, and the line of a fault in one (own).
use Rattle.std.specs.Prelude.{ℕ, List}
use Rattle.fx_io.specs.FaultLine.{IsFaultLine}
use Rattle.vl_read.specs.declared.designer.Scope.{Scope}
use Rattle.vl_read.specs.declared.designer.Scope.TheVariants.{Alone, Together}
use Rattle.vl_read.specs.Designs.{IsDesign}
use Rattle.vl_read.specs.Prefix.{IsVerilog}

-- the bytes are a text of the scope that isn't too long to be read
abbrev pub IsTextIn : Scope → List ℕ → Type 0
IsTextIn Alone bytes = IsVerilog bytes
IsTextIn Together bytes = IsDesign bytes

-- they are none
abbrev pub IsNoText : Scope → List ℕ → Type 0
IsNoText scope bytes = IsTextIn scope bytes → ⊥

-- the line at which they stop being the beginning of one
abbrev pub IsLineIn : Scope → List ℕ → ℕ → Type 0
IsLineIn scope bytes line = IsFaultLine (IsTextIn scope) bytes line
