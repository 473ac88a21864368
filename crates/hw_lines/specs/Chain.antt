-- What a chain of registers owes for a source and its uses (own).
use Rattle.std.specs.Prelude.{◌≡◌, ℕ, ◌+◌, ◌/◌, ◌%◌, ◌^◌, ◌<◌, ◌≤◌, ◌⊎◌, ◌||◌, max, ℤ}
use Rattle.std.specs.Prelude.{◌==◌, ◌&&◌, not, nat_le, filter}
use Rattle.std.specs.Prelude.{List, [], ◌∷◌, ◌++◌, map, length, Contains, slice_get, Some, Bool}
use Rattle.std.specs.Prelude.{true, false, if◌then◌else◌, ⊤}
use Rattle.math_num.specs.Word.{IsWord, InWord}
use Rattle.hw_net.specs.declared.netlist.Frame.{Frame}
use Rattle.hw_net.specs.declared.netlist.Net.{Net}
use Rattle.hw_net.specs.declared.netlist.NetKind.{NetKind}
use Rattle.hw_net.specs.declared.netlist.NetKind.TheVariants.{Comb, Reg, EnReg, Acc, Bridge, Unit}
use Rattle.hw_net.specs.declared.netlist.NetKind.TheVariants.{Counter}
use Rattle.hw_net.specs.Circuit.{Circuit}
use Rattle.hw_net.specs.ByFrame.{is_same_frame}
use Rattle.hw_net.specs.Frames.{register_count}
use Rattle.hw_net.specs.Netlist.{HasWord}
use Rattle.hw_net.specs.Growing.{InRows, Appends, IsNewReg}
use Rattle.hw_lines.specs.declared.source.Source.{Source}
use Rattle.hw_lines.specs.declared.source.Use.{Use}
use Rattle.hw_lines.specs.Line.{Line, ShowsLater}
use Rattle.hw_net.specs.Emittable.{most_period}

abbrev pub source_of : ℕ → Frame → ℤ → Bool → Source
source_of from frame first registered =
    record { from = from; frame = frame; first = first; registered = registered }

-- the frame in which a use is seen
abbrev pub reader_of : Source → Use → Frame
reader_of source one =
    record {
      period = max source.frame.period one.period;
      latency = source.frame.latency
          + one.shift;
    }

abbrev pub line_to : ℕ → Source → Frame → Line
line_to cycles source reader = record { cycles = cycles; own = source.frame; reader = reader }

-- the source is there in a word that has its first number, and its frame is in its bounds
pub record IsSource (netlist : Circuit) (source : Source) : Type 0 where
  pub net : Net
  pub is : slice_get netlist.nets source.from ≡ Some net
  pub word : IsWord net.width net.signed
  pub first : InWord net.width net.signed source.first
  pub some : 0 < source.frame.period
  pub most : source.frame.period ≤ most_period
  pub early : source.frame.latency < 2 ^ 62

-- a plain use is as slow as the source or slower, a registered one as fast or faster and behind it
pub record IsUse (source : Source) (one : Use) : Type 0 where
  pub some : 0 < one.period
  pub most : one.period ≤ most_period
  pub near : one.shift < 2 ^ 62
  pub plain : source.registered ≡ false → one.period % source.frame.period ≡ 0
  pub registered : source.registered ≡ true
      → (source.frame.period % one.period ≡ 0) × (1 ≤ one.shift)

-- an answer shows the source in the reader's frame, in every later netlist, and has its word
pub record IsAnswer (before after : Circuit) (source : Source) (reader : Frame)
    (number : ℕ) : Type 0 where
  pub shows : InRows before after (λ n rows.
      ShowsLater source.registered n (line_to before.cycles source reader) source.first
      (rows source.from) (rows number))
  pub word : (net : Net) → slice_get before.nets source.from ≡ Some net
      → HasWord after.nets number net.width net.signed
  pub holds : source.registered ≡ true → IsNewReg before after number
  -- it is the source itself, or was put behind the nets of the first netlist
  pub stands : (number ≡ source.from) ⊎ (length before.nets ≤ number)

-- one answer for each use, in order
pub record AreAnswers (before after : Circuit) (source : Source) (uses : List Use)
    (answers : List ℕ) : Type 0 where
  pub count : length answers ≡ length uses
  pub each : (k : ℕ) (one : Use) (number : ℕ) → slice_get uses k ≡ Some one
      → slice_get answers k ≡ Some number
      → IsAnswer before after source (reader_of source one) number

-- registers, bridges only where they may be, and Counters of such frames alone
abbrev pub IsPart : Type 0 → (Frame → Type 0) → NetKind → Type 0
IsPart bridges frames (Comb op args) = ⊥
IsPart bridges frames (Reg frame slot first from) = ⊤
IsPart bridges frames (EnReg frame enable reset first from) = ⊥
IsPart bridges frames (Acc frame enable from) = ⊥
IsPart bridges frames (Bridge frame live from) = bridges
IsPart bridges frames (Unit left right) = ⊥
IsPart bridges frames (Counter frame) = frames frame

-- the source's frame, and of plain uses those of the readers
abbrev pub IsCountedIn : Source → List Use → Frame → Type 0
IsCountedIn source uses frame =
    (frame ≡ source.frame)
    ⊎ ((source.registered ≡ false)
    × ((one : Use) × (Contains uses one × (frame ≡ reader_of source one))))

-- how many of the frames are different: those that none before is
abbrev pub is_among : Frame → List Frame → Bool
is_among frame [] = false
is_among frame (one ∷ frames) = is_same_frame one frame || is_among frame frames

abbrev pub different_after : List Frame → List Frame → ℕ
different_after before [] = 0
different_after before (one ∷ frames) =
    (if is_among one before then 0 else 1) + different_after (before ++ one ∷ []) frames

abbrev pub different : List Frame → ℕ
different frames = different_after [] frames

-- the greatest count of whole periods of the source by which a use is behind it
abbrev pub most_frames : ℕ → List Use → ℕ
most_frames period [] = 0
most_frames period (one ∷ uses) = max (one.shift / period) (most_frames period uses)

-- whether a use is seen in frames of the source's period, by whole periods later
abbrev pub is_whole : Source → Use → Bool
is_whole source one =
    (one.shift % source.frame.period == 0) && nat_le one.period source.frame.period

-- the uses that aren't seen so
abbrev pub parted : Source → List Use → List Use
parted source uses = filter (λ one. not (is_whole source one)) uses

-- the frames in which these are seen
abbrev pub parted_frames : Source → List Use → List Frame
parted_frames source uses = map (reader_of source) (parted source uses)

-- what a chain puts behind the nets: one register for each frame of the source up to the last that
-- is used, which show the uses of whole periods, and at most one more for each different other use
pub record IsChained (before after : Circuit) (source : Source) (uses : List Use) : Type 0 where
  pub appends : Appends before after (source.from ∷ [])
  pub parts : (k : ℕ) (net : Net) → length before.nets ≤ k → slice_get after.nets k ≡ Some net
      → IsPart (source.registered ≡ false) (IsCountedIn source uses) net.kind
  pub few : register_count after.nets ≤ register_count before.nets
      + most_frames source.frame.period uses + different (parted_frames source uses)
