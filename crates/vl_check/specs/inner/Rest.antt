-- The faults that show one name, and the last three conditions by themselves.
use Rattle.std.specs.Prelude.{◌≡◌, List, ℕ, Option, Some, None}
use Rattle.vl_ast.specs.declared.modules.Module.{Module}
use Rattle.vl_ast.specs.Conditions.{Fault, IsAcyclic, IsFirstFault, too_wide, no_reset, no_attribute}
use Rattle.vl_check.specs.declared.checking.Broken.{Broken}
use Rattle.vl_check.specs.declared.checking.Broken.TheVariants.{Undriven, Doubly, TooWide, NoReset, NoAttribute}
use Rattle.vl_check.specs.declared.checking.Named.{Named}

abbrev pub fault_in : Broken → List ℕ → Fault
fault_in Undriven name = Fault.Undriven name
fault_in Doubly name = Fault.Doubly name
fault_in TooWide name = Fault.TooWide name
fault_in NoReset name = Fault.NoReset name
fault_in NoAttribute name = Fault.NoAttribute name

pub record IsSoundRest (m : Module) : Type 0 where
  pub narrow : too_wide m ≡ None
  pub clocked : no_reset m ≡ None
  pub attributed : no_attribute m ≡ None

-- the first of the last three conditions that is broken, where the others hold
abbrev pub IsFirstOfRest : Module → Option Named → Type 0
IsFirstOfRest m None = IsSoundRest m
IsFirstOfRest m (Some named) = IsAcyclic m → IsFirstFault m (fault_in named.broken named.name.now)
