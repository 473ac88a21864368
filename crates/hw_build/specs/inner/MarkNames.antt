-- What the names of nets are for, and which frames Counters count, while elements are put in (own).
use Rattle.std.specs.Prelude.{◌≡◌, ◌≢◌, ℕ, ◌+◌, ◌<◌, ◌≤◌, ◌⊎◌, List, [], length, map, Some, slice_get}
use Rattle.dg_model.specs.declared.diagram.Diagram.{Diagram}
use Rattle.dg_model.specs.declared.resolved.Resolved.{Resolved}
use Rattle.hw_net.specs.declared.netlist.Frame.{Frame}
use Rattle.hw_net.specs.declared.netlist.NetLabel.{NetLabel}
use Rattle.hw_net.specs.Circuit.{Circuit}
use Rattle.hw_net.specs.Frames.{IsCounterAt}
use Rattle.hw_sched.specs.Slots.{Timing as Times}
use Rattle.hw_build.specs.inner.FrameCounts.{IsBlockFrame}
use Rattle.hw_build.specs.inner.HubPlaces.{hub_at}
use Rattle.hw_build.specs.inner.NetNames.{Mark, mark_name, IsSmallMark}

-- a label is of an element before this hub, on a net below this number, or one of the first stages
-- of its pipeline, which stand behind a net
abbrev pub IsMarkOf : (Mark → ℕ) → ℕ → ℕ → ℕ → ℕ → Mark → NetLabel → Type 0
IsMarkOf hub_of count hub begin stages mark label =
    ((hub_of mark < hub) × (label.net < count))
    ⊎ ((hub_of mark ≡ hub) × (1 ≤ mark.stage) × (mark.stage ≤ stages)
    × (label.net ≡ begin + mark.stage))

-- these labels are for such marks, each for one of its own and of a net of its own
pub record AreApart (hub_of : Mark → ℕ) (labels : List NetLabel)
    (count hub begin stages : ℕ) : Type 0 where
  pub marks : List Mark
  pub named : map (λ label. label.name) labels ≡ map mark_name marks
  pub small : (k : ℕ) (mark : Mark) → slice_get marks k ≡ Some mark → IsSmallMark mark
  pub each : (k : ℕ) (mark : Mark) (label : NetLabel) → slice_get marks k ≡ Some mark
      → slice_get labels k ≡ Some label → IsMarkOf hub_of count hub begin stages mark label
  pub differ : (i j : ℕ) (one other : Mark) → i < j → slice_get marks i ≡ Some one
      → slice_get marks j ≡ Some other → one ≢ other
  pub nets_differ : (i j : ℕ) (one other : NetLabel) → i < j → slice_get labels i ≡ Some one
      → slice_get labels j ≡ Some other → one.net ≢ other.net

abbrev pub hub_of_mark : List (List ℕ) → Mark → ℕ
hub_of_mark firsts mark = hub_at firsts mark.block 1 mark.element

-- what is named and counted since the elements began, up to this hub
pub record AreMarked (diagram : Diagram) (plan : Resolved) (times : Times) (firsts : List (List ℕ))
    (start now : Circuit) (closed : ℕ) : Type 0 where
  pub inputs : now.inputs ≡ start.inputs
  pub outputs : now.outputs ≡ start.outputs
  pub labels : start.labels ≡ []
      → AreApart (hub_of_mark firsts) now.labels (length now.nets) closed 0 0
  pub frames : (k : ℕ) (frame : Frame) → length start.nets ≤ k → IsCounterAt now.nets k frame
      → (block : ℕ) × IsBlockFrame diagram plan times block frame
