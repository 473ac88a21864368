-- The tests for clocks of frames that are known.
use Rattle.std.specs.Prelude.{◌≡◌, ℕ, List, Option, Some}
use Rattle.std.specs.declared.cmp.Ordering.{Ordering}
use Rattle.std.specs.Ordering.{nat_cmp, then_cmp, on}
use Rattle.std.specs.BTreeMap.{is_at}
use Rattle.std.specs.Map.{lookup}
use Rattle.hw_net.specs.ByFrame.{compare_frames}
use Rattle.hw_net.specs.declared.netlist.Frame.{Frame}
use Rattle.hw_net.specs.Circuit.{Circuit}
use Rattle.hw_share.specs.declared.moments.Moment.{Moment}
use Rattle.hw_share.specs.inner.Choices.{IsTestAt}

-- the order in which clocks are known
abbrev pub compare_moments : Moment → Moment → Ordering
compare_moments =
    then_cmp (on (λ (moment : Moment). moment.frame) compare_frames)
    (on (λ (moment : Moment). moment.slot) nat_cmp)

-- the net that tests for a clock, if one is known
abbrev pub test_of : List (Moment × ℕ) → Moment → Option ℕ
test_of tests moment = lookup (is_at (compare_moments moment)) tests

-- all that are known test for their clocks, and were put behind the nets of the first netlist
pub record AreTests (before now : Circuit) (tests : List (Moment × ℕ)) : Type 0 where
  pub each : (moment : Moment) (number : ℕ) → test_of tests moment ≡ Some number
      → IsTestAt before now moment.frame moment.slot number

-- one more is, if those before are
pub record IsTested (before now new : Circuit) (old more : List (Moment × ℕ)) (frame : Frame)
    (slot number : ℕ) : Type 0 where
  pub test : AreTests before now old → IsTestAt before new frame slot number
  pub tests : AreTests before now old → AreTests before new more
