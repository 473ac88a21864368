-- What the definitions of blocks and lines and of the three rules say together (own).
use Rattle.std.specs.Prelude.{◌≡◌}
use Rattle.dg_model.specs.declared.fault.RuleFault.{RuleFault}
use Rattle.dg_model.specs.declared.nested.Nested.{Nested}
use Rattle.dg_model.specs.Sound.{IsSound}
use Rattle.mdl_text.specs.declared.tree.Tree.{Tree}
use Rattle.mdl_build.specs.Nested.{IsNestedOf}
use Rattle.mdl_build.specs.Rules.{Breaks}

-- a tree has its blocks and lines in one way
abbrev pub NestedIsOne : Type 0
NestedIsOne =
    (tree : Tree) (one other : Nested) → IsNestedOf tree one → IsNestedOf tree other → one ≡ other

-- the first broken rule has one fault
abbrev pub FaultIsOne : Type 0
FaultIsOne =
    (tree : Tree) (one other : RuleFault) → Breaks tree one → Breaks tree other → one ≡ other

-- rules that are kept aren't broken
abbrev pub NestedIsNotBroken : Type 0
NestedIsNotBroken =
    (tree : Tree) (nested : Nested) (fault : RuleFault) → IsNestedOf tree nested → Breaks tree fault
    → ⊥

-- a tree that breaks none of the rules isn't without blocks and lines, which are well formed
abbrev pub NestedIsThere : Type 0
NestedIsThere =
    (tree : Tree) → ((nested : Nested) → IsNestedOf tree nested → ¬ IsSound nested)
    → ((fault : RuleFault) → ¬ Breaks tree fault) → ⊥
