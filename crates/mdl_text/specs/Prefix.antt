-- The line of a fault in an MDL text (own).
use Rattle.std.specs.Prelude.{ℕ, List, Result, Ok, Err}
use Rattle.fx_io.specs.FaultLine.{IsFaultLine}
use Rattle.mdl_text.specs.declared.tree.Tree.{Tree}
use Rattle.mdl_text.specs.declared.fault.MdlFault.{MdlFault}
use Rattle.mdl_text.specs.declared.fault.MdlFault.TheVariants.{Syntax, OutOfMemory}
use Rattle.mdl_text.specs.Stands.{Stands}

-- the bytes stand for some tree
abbrev pub IsMdl : List ℕ → Type 0
IsMdl bytes = (tree : Tree) × Stands bytes tree

-- the line at which the bytes stop being the beginning of an MDL text
abbrev pub IsMdlFaultLine : List ℕ → ℕ → Type 0
IsMdlFaultLine bytes line = IsFaultLine IsMdl bytes line

-- P holds of the line, where the answer is a fault in the text
abbrev pub IfSyntax : Result Tree MdlFault → (ℕ → Type 0) → Type 0
IfSyntax (Ok tree) P = Unit {0}
IfSyntax (Err (Syntax line)) P = P line
IfSyntax (Err OutOfMemory) P = Unit {0}
