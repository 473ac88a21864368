-- What is read, and the line of a fault in a Verilog text (own).
use Rattle.std.specs.Prelude.{◌≡◌, ℕ, ◌≤◌, List, length, Result, Ok, Err}
use Rattle.fx_io.specs.FaultLine.{IsFaultLine}
use Rattle.vl_ast.specs.declared.modules.Module.{Module}
use Rattle.vl_ast.specs.Grammar.{Spells, most_items}
use Rattle.vl_read.specs.declared.fault.VlSyntax.{VlSyntax}
use Rattle.vl_read.specs.declared.fault.VlSyntax.TheVariants.{Syntax, OutOfMemory}

-- the bytes spell a module that isn't too long to be read
abbrev pub IsVerilog : List ℕ → Type 0
IsVerilog bytes = (m : Module) × Spells bytes m × (length m.items ≤ most_items)

-- the bytes spell no such module
abbrev pub IsRefused : List ℕ → Type 0
IsRefused bytes = (m : Module) → Spells bytes m → length m.items ≤ most_items → ⊥

-- the line at which the bytes stop being the beginning of such a text
abbrev pub IsVerilogFaultLine : List ℕ → ℕ → Type 0
IsVerilogFaultLine bytes line = IsFaultLine IsVerilog bytes line

-- P holds of the line, where the answer is a fault in the text
abbrev pub IfSyntax : {A : Type 0} → Result A VlSyntax → (ℕ → Type 0) → Type 0
IfSyntax (Ok read) P = Unit {0}
IfSyntax (Err (Syntax line)) P = P line
IfSyntax (Err OutOfMemory) P = Unit {0}

-- the answer is the module, or memory is wanting
abbrev pub IsReadBack : Result Module VlSyntax → Module → Type 0
IsReadBack (Ok n) m = n ≡ m
IsReadBack (Err (Syntax line)) m = ⊥
IsReadBack (Err OutOfMemory) m = Unit {0}
