-- A refusal by a rule, and by one that says less.
use Rattle.dg_model.specs.declared.fault.RuleFault.{RuleFault}
use Rattle.dg_model.specs.declared.fault.CheckFault.{CheckFault}
use Rattle.dg_model.specs.Faults.{IsRefusal}
use Rattle.dg_model.specs.declared.fault.CheckFault.TheVariants.{Broken, OutOfMemory}

-- what refuses by one rule refuses by any that is broken where this one is
pub refused_as : (P Q : RuleFault → Type 0) (fault : CheckFault) → ((f : RuleFault) → P f → Q f) → IsRefusal P fault → IsRefusal Q fault
refused_as P Q (Broken fault) all is = all fault is
refused_as P Q OutOfMemory all is = is
