-- What the definitions of flat diagrams and of the two rules say together (own).
use Rattle.std.specs.Prelude.{◌≡◌}
use Rattle.dg_model.specs.declared.diagram.Diagram.{Diagram}
use Rattle.dg_model.specs.declared.fault.RuleFault.{RuleFault}
use Rattle.dg_model.specs.declared.nested.Nested.{Nested}
use Rattle.dg_model.specs.Sound.{IsSound}
use Rattle.dg_model.specs.Wired.{IsWired}
use Rattle.dg_flat.specs.Flat.{IsFlatOf}
use Rattle.dg_flat.specs.Rules.{AllNestedKeep, KeepsWiring, KeepsEnable, BreaksWiringOrEnable}

-- at most one flat diagram is wired; with two lines into one port their edges could stand in either
-- order
abbrev pub FlatIsOne : Type 0
FlatIsOne =
    (nested : Nested) (one other : Diagram) → IsFlatOf nested one → IsWired one
    → IsFlatOf nested other → one ≡ other

-- the first broken rule has one fault
abbrev pub BrokenIsOne : Type 0
BrokenIsOne =
    (nested : Nested) (one other : RuleFault) → BreaksWiringOrEnable nested one
    → BreaksWiringOrEnable nested other → one ≡ other

-- rules that are kept aren't broken
abbrev pub FlatIsNotBroken : Type 0
FlatIsNotBroken =
    (nested : Nested) (fault : RuleFault) → AllNestedKeep nested KeepsWiring
    → AllNestedKeep nested KeepsEnable → BreaksWiringOrEnable nested fault → ⊥

-- sound blocks and lines that break neither rule aren't without a flat diagram that is wired
abbrev pub FlatIsThere : Type 0
FlatIsThere = (nested : Nested) → IsSound nested
    → ((diagram : Diagram) → AllNestedKeep nested KeepsWiring → AllNestedKeep nested KeepsEnable
    → IsFlatOf nested diagram → ¬ IsWired diagram)
    → ((fault : RuleFault) → ¬ BreaksWiringOrEnable nested fault) → ⊥
