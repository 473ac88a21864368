-- What each fault of a check says of the module.
use Rattle.std.specs.Prelude.{⊤}
use Rattle.vl_ast.specs.declared.modules.Module.{Module}
use Rattle.vl_ast.specs.Conditions.{Fault, IsFirstFault}
use Rattle.vl_check.specs.declared.fault.VlFault.{VlFault}
use Rattle.vl_check.specs.declared.fault.VlFault.TheVariants.{Undriven, Doubly, CombLoop, TooWide, NoReset, NoAttribute, OutOfMemory}

-- the condition is the first that is broken, with these names; want of memory says nothing
abbrev pub IsCause : Module → VlFault → Type 0
IsCause m (Undriven name) = IsFirstFault m (Fault.Undriven name)
IsCause m (Doubly name) = IsFirstFault m (Fault.Doubly name)
IsCause m (CombLoop names) = IsFirstFault m (Fault.CombLoop names)
IsCause m (TooWide name) = IsFirstFault m (Fault.TooWide name)
IsCause m (NoReset name) = IsFirstFault m (Fault.NoReset name)
IsCause m (NoAttribute name) = IsFirstFault m (Fault.NoAttribute name)
IsCause m OutOfMemory = ⊤
