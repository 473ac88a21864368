use Rattle.std.proofs.Common.{◌≡◌, ℕ, List, sym, subst}
use Rattle.vl_ast.specs.declared.modules.Module.{Module}
use Rattle.vl_ast.specs.Conditions.{IsFirstFault}
use Rattle.vl_check.specs.declared.checking.Broken.{Broken}
use Rattle.vl_check.specs.inner.Rest.{fault_in}
use Rattle.vl_check.proofs.checking.fault_of.Goals as goal

-- the fault with a copy of the name
shown-at : (m : Module) {broken kind : Broken} {copy name : List ℕ} → broken ≡ kind → copy ≡ name → IsFirstFault m (fault_in broken name) → IsFirstFault m (fault_in kind copy)
shown-at m {broken} {kind} {copy} {name} is same first =
    subst (λ (text : List ℕ). IsFirstFault m (fault_in kind text)) (sym same) (subst (λ (of : Broken). IsFirstFault m (fault_in of name)) is first)

pub returns-in-Undriven : goal.returns-in-Undriven
returns-in-Undriven c m is = shown-at m c.in-Undriven.is c.in-Ok.ensures is

pub returns-in-Doubly : goal.returns-in-Doubly
returns-in-Doubly c m is = shown-at m c.in-Doubly.is c.in-Ok.ensures is

pub returns-in-TooWide : goal.returns-in-TooWide
returns-in-TooWide c m is = shown-at m c.in-TooWide.is c.in-Ok.ensures is

pub returns-in-NoReset : goal.returns-in-NoReset
returns-in-NoReset c m is = shown-at m c.in-NoReset.is c.in-Ok.ensures is

pub returns-in-NoAttribute : goal.returns-in-NoAttribute
returns-in-NoAttribute c m is = shown-at m c.in-NoAttribute.is c.in-Ok.ensures is
