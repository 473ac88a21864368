-- The end of a line, behind a tap.
use Rattle.std.specs.Prelude.{◌≡◌, ℕ, ◌+◌, ◌*◌, ◌/◌, ◌<◌, ◌≤◌, ◌^◌, List, map, take, drop, length}
use Rattle.std.specs.Prelude.{All, Contains, slice_get, Option, None, Some, is_some, false}
use Rattle.std.specs.Prelude.{◌++◌, ◌∷◌, [], if◌then◌else◌}
use Rattle.hw_net.specs.declared.netlist.Frame.{Frame}
use Rattle.hw_net.specs.Circuit.{Circuit}
use Rattle.hw_net.specs.ByFrame.{is_same_frame, number_at_frame}
use Rattle.hw_net.specs.Frames.{register_count}
use Rattle.hw_net.specs.Growing.{Extends}
use Rattle.hw_lines.specs.declared.source.Source.{Source}
use Rattle.hw_lines.specs.declared.source.Use.{Use}
use Rattle.hw_lines.specs.Chain.{IsUse, IsAnswer, IsCountedIn, reader_of, is_among, different_after}
use Rattle.hw_lines.specs.Chain.{is_whole, parted_frames}
use Rattle.hw_lines.specs.Register.{CanHold, Grows}
use Rattle.hw_lines.specs.inner.Parts.{AreTaps}

-- the taps reach the use, and the numbers that come have room
pub record CanEnd (netlist : Circuit) (source : Source) (taps : List ℕ) (one : Use) : Type 0 where
  pub cycles : 0 < netlist.cycles
  pub room : source.frame.period * netlist.cycles < 2 ^ 32
  pub some : 0 < source.frame.period
  pub early : source.frame.latency < 2 ^ 62
  pub use_is : IsUse source one
  pub held : All (λ tap. CanHold netlist tap source.first) taps
  pub size : one.shift / source.frame.period < length taps

-- the number is an answer for the use, if these are the taps of the source
pub record IsEnd (now new : Circuit) (source : Source) (taps : List ℕ) (one : Use)
    (number : ℕ) : Type 0 where
  pub answer : (before : Circuit) → AreTaps before now source taps → Extends before now
      → IsAnswer before new source (reader_of source one) number

-- what was put in for it is at most one register, none where it is whole, and of the parts of a
-- chain
pub record Ends (now new : Circuit) (source : Source) (taps : List ℕ) (one : Use) : Type 0 where
  pub extends : Extends now new
  pub grown : (before : Circuit) (uses : List Use) → Contains uses one
      → AreTaps before now source taps
      → Grows before now source.from (source.registered ≡ false) (IsCountedIn source uses)
      → Grows before new source.from (source.registered ≡ false) (IsCountedIn source uses)
  pub few : register_count new.nets ≤ register_count now.nets
      + (if is_whole source one then 0 else 1)

-- the number of each frame of an index is an answer for it
pub record AreEnds (before after : Circuit) (source : Source)
    (entries : List (Frame × ℕ)) : Type 0 where
  pub each : (reader : Frame) (number : ℕ) → number_at_frame entries reader ≡ Some number
      → IsAnswer before after source reader number

-- the number is known and nothing was put in, or it is that of a new end
pub record IsEndFor (now new : Circuit) (source : Source) (taps : List ℕ) (known : Option ℕ)
    (one : Use) (number : ℕ) : Type 0 where
  pub extends : Extends now new
  pub stood : (k : ℕ) → known ≡ Some k → (number ≡ k) × (new ≡ now)
  pub made : known ≡ None → IsEnd now new source taps one number × Ends now new source taps one

-- it was put behind the answers, and into the index of ends by frame
pub record PutsEnd (now new : Circuit) (source : Source) (taps : List ℕ)
    (old more : List (Frame × ℕ)) (answers answered : List ℕ) (one : Use) : Type 0 where
  pub number : ℕ
  pub end : IsEndFor now new source taps (number_at_frame old (reader_of source one)) one number
  pub put : (other : Frame) → number_at_frame more other
      ≡ (if is_same_frame (reader_of source one) other then Some number
      else number_at_frame old other)
  pub answers_are : answered ≡ answers ++ number ∷ []

abbrev pub frames_of : Source → List Use → List Frame
frames_of source uses = map (reader_of source) uses

-- the first i uses have their answers, and the index has those of their frames
pub record IsDone (before now : Circuit) (source : Source) (uses : List Use) (bound : ℕ)
    (taps : List ℕ) (entries : List (Frame × ℕ)) (answers : List ℕ) (i : ℕ) : Type 0 where
  pub size : length answers ≡ i
  pub are : (k : ℕ) (one : Use) (number : ℕ) → slice_get uses k ≡ Some one
      → slice_get answers k ≡ Some number → IsAnswer before now source (reader_of source one) number
  pub ends : AreEnds before now source entries
  pub among : (frame : Frame) → is_some (number_at_frame entries frame)
      ≡ is_among frame (take i (frames_of source uses))
  pub grown : Grows before now source.from (source.registered ≡ false) (IsCountedIn source uses)
  pub few : register_count now.nets + different_after (parted_frames source (take i uses))
      (parted_frames source (drop i uses)) ≤ bound
  pub taps_are : AreTaps before now source taps
