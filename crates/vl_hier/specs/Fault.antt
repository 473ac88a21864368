-- Why a design has no flat module (own).
use Rattle.std.specs.Prelude.{◌≡◌, ℕ, List, ◌∷◌, ◌++◌, Result, Ok, Err}
use Rattle.vl_ast.specs.declared.designs.Instance.{Instance}
use Rattle.vl_ast.specs.declared.modules.Module.{Module}
use Rattle.vl_read.specs.declared.design.Design.{Design}
use Rattle.vl_hier.specs.declared.refusal.HierFault.{HierFault}
use Rattle.vl_hier.specs.declared.refusal.HierFault.TheVariants.{Syntax, Link, OutOfMemory}
use Rattle.vl_hier.specs.Linked.{AreLinked, IsLinkedIn, IsParted}

-- the first instance that isn't linked as it must be has this name
pub record IsBadFirst (design : Design) (name : List ℕ) : Type 0 where
  pub below : List Module
  pub top : Module
  pub parted : IsParted design below top
  pub before : List Instance
  pub instance : Instance
  pub after : List Instance
  pub whole : design.instances ≡ before ++ instance ∷ after
  pub sound : AreLinked design below top before
  pub bad : ¬ IsLinkedIn design.instances below top instance
  pub name_is : name ≡ instance.name

-- P holds of the name, where the answer is an instance that isn't so linked
abbrev pub IfLink : {A : Type 0} → Result A HierFault → (List ℕ → Type 0) → Type 0
IfLink (Ok made) P = Unit {0}
IfLink (Err (Syntax line)) P = Unit {0}
IfLink (Err (Link name)) P = P name
IfLink (Err OutOfMemory) P = Unit {0}

-- and of the line, where it is a fault in the text
abbrev pub IfSyntax : {A : Type 0} → Result A HierFault → (ℕ → Type 0) → Type 0
IfSyntax (Ok made) P = Unit {0}
IfSyntax (Err (Syntax line)) P = P line
IfSyntax (Err (Link name)) P = Unit {0}
IfSyntax (Err OutOfMemory) P = Unit {0}
