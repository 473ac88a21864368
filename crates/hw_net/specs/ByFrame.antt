-- Numbers of nets by frame (own).
use Rattle.std.specs.Prelude.{ℕ, ◌==◌, ◌&&◌, Bool, List, Option}
use Rattle.std.specs.declared.cmp.Ordering.{Ordering}
use Rattle.std.specs.Ordering.{nat_cmp, then_cmp, on}
use Rattle.std.specs.BTreeMap.{is_at}
use Rattle.std.specs.Map.{lookup}
use Rattle.hw_net.specs.declared.netlist.Frame.{Frame}

abbrev pub is_same_frame : Frame → Frame → Bool
is_same_frame one other = (one.period == other.period) && (one.latency == other.latency)

-- the order in which an index has its frames
abbrev pub compare_frames : Frame → Frame → Ordering
compare_frames =
    then_cmp (on (λ (frame : Frame). frame.period) nat_cmp)
    (on (λ (frame : Frame). frame.latency) nat_cmp)

-- the number of a frame among the entries of an index
abbrev pub number_at_frame : List (Frame × ℕ) → Frame → Option ℕ
number_at_frame entries frame = lookup (is_at (compare_frames frame)) entries
