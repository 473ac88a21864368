-- What the definitions of the rules of dimensions, types, rates and loops say together (own).
use Rattle.std.specs.Prelude.{◌≡◌, ◌≢◌, [], ◌∷◌}
use Rattle.dg_model.specs.declared.diagram.Diagram.{Diagram}
use Rattle.dg_model.specs.declared.fault.RuleFault.{RuleFault}
use Rattle.dg_model.specs.declared.fault.Shown.{Shown}
use Rattle.dg_model.specs.declared.fault.Shown.TheVariants.{Nothing, Word, Periods, Cycle, Latency, Budget, Size}
use Rattle.dg_model.specs.declared.rule.Rule.{Rule}
use Rattle.dg_model.specs.Attributes.{attributes_of}
use Rattle.dg_model.specs.Checked.{IsChecked, BreaksRule}
use Rattle.dg_model.specs.Loop.{BreaksLoop}
use Rattle.dg_model.specs.Signals.{Attributes}
use Rattle.dg_model.specs.Wired.{IsWired}
use Rattle.dg_rules.specs.ShownCycle.{BreaksLoopAlone}

-- what is shown, but of a cycle its first block alone: through the least block on any cycle may
-- lead several, and any of them may be told
abbrev pub shown_first : Shown → Shown
shown_first Nothing = Nothing
shown_first (Word word) = Word word
shown_first (Periods own other) = Periods own other
shown_first (Cycle []) = Cycle []
shown_first (Cycle (first ∷ more)) = Cycle (first ∷ [])
shown_first (Latency blocks total) = Latency blocks total
shown_first (Budget period need have) = Budget period need have
shown_first (Size storage latency) = Size storage latency

-- the fault with that
abbrev pub told_first : RuleFault → RuleFault
told_first fault =
    record { rule = fault.rule; place = fault.place; shown = shown_first fault.shown }

-- a fault of the rules of dimensions, types and rates is the only one of its diagram
abbrev pub FaultIsOne : Type 0
FaultIsOne =
    (diagram : Diagram) (one other : RuleFault) → BreaksRule diagram one → BreaksRule diagram other
    → one.rule ≢ Rule.Loop → one ≡ other

-- and one of the rule of loops but for its cycle
abbrev pub ToldIsOne : Type 0
ToldIsOne =
    (diagram : Diagram) (one other : RuleFault) → BreaksRule diagram one → BreaksRule diagram other
    → told_first one ≡ told_first other

-- rules that are kept aren't broken
abbrev pub CheckedIsNotBroken : Type 0
CheckedIsNotBroken =
    (diagram : Diagram) (fault : RuleFault) → IsChecked diagram → BreaksRule diagram fault → ⊥

-- of one diagram the rule of loops can be told with two cycles
pub record CyclesDiffer : Type 0 where
  pub diagram : Diagram
  pub one : RuleFault
  pub other : RuleFault
  pub breaks : BreaksLoop diagram (attributes_of diagram) one
  pub breaks_too : BreaksLoop diagram (attributes_of diagram) other
  pub differ : one ≢ other

-- it is told with one where the cycle is to be a shortest one whose edges stand first
abbrev pub ShownCycleIsOne : Type 0
ShownCycleIsOne =
    (diagram : Diagram) (attributes : Attributes) (one other : RuleFault)
    → BreaksLoopAlone diagram attributes one → BreaksLoopAlone diagram attributes other
    → one ≡ other

-- a wired diagram that breaks none of the rules isn't one that doesn't keep them
abbrev pub RuleIsThere : Type 0
RuleIsThere =
    (diagram : Diagram) → IsWired diagram → ¬ IsChecked diagram
    → ((fault : RuleFault) → ¬ BreaksRule diagram fault) → ⊥
