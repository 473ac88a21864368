-- Registers one behind another, as they are put in (own).
use Rattle.std.specs.Prelude.{◌≡◌, ℕ, zero, suc, ◌+◌, ◌<◌, ◌≤◌, ℤ, List, [], ◌∷◌, length, All, IsSome, Option, None, Some, slice_get}
use Rattle.math_num.specs.Word.{InWord, IsWord}
use Rattle.hw_net.specs.declared.netlist.Frame.{Frame}
use Rattle.hw_net.specs.declared.netlist.NetKind.{NetKind}
use Rattle.hw_net.specs.declared.netlist.NetKind.TheVariants.{Comb, Reg, EnReg, Acc, Bridge, Unit, Counter}
use Rattle.hw_net.specs.Circuit.{Circuit}
use Rattle.hw_net.specs.Frames.{counter_of}
use Rattle.hw_net.specs.Netlist.{HasWord}
use Rattle.hw_build.specs.declared.parts.Word.{Word}
use Rattle.hw_build.specs.declared.states.Enabled.{Enabled}
use Rattle.hw_build.specs.declared.states.Series.{Series}
use Rattle.hw_share.specs.inner.Parts.{Grows}

-- what the register takes that stands behind so many others
abbrev pub taken_by : ℕ → ℕ → ℕ → ℕ
taken_by from begin zero = from
taken_by from begin (suc k) = begin + k

-- a register that takes a net in this slot of its frames, or at their ends where it is enabled
abbrev pub register_of : Option Enabled → Frame → ℕ → ℤ → ℕ → NetKind
register_of None frame slot first = λ from. Reg frame slot first from
register_of (Some by) frame slot first = λ from. EnReg frame by.enable by.reset first from

-- what it reads beside that net
abbrev pub enables_by : Option Enabled → List ℕ
enables_by None = []
enables_by (Some by) = by.enable ∷ []

-- registers of this frame can be put in behind the net, with this number first
pub record CanPutSeries (before : Circuit) (word : Word) (frame : Frame) (by : Option Enabled)
    (count : ℕ) (begins : ℤ) (behind : ℕ) : Type 0 where
  pub cycles : 0 < before.cycles
  pub period : 0 < frame.period
  pub some : 1 ≤ count
  pub is_word : IsWord word.width word.signed
  pub from : HasWord before.nets behind word.width word.signed
  pub enabled : All (λ read. read < length before.nets) (enables_by by)
  pub first : InWord word.width word.signed begins

-- registers and a Counter of this frame
abbrev pub IsOfFrame : Frame → NetKind → Type 0
IsOfFrame own (Comb op args) = ⊥
IsOfFrame own (Reg frame slot first from) = frame ≡ own
IsOfFrame own (EnReg frame enable reset first from) = frame ≡ own
IsOfFrame own (Acc frame enable from) = ⊥
IsOfFrame own (Bridge frame live from) = ⊥
IsOfFrame own (Unit left right) = ⊥
IsOfFrame own (Counter frame) = frame ≡ own

-- so many registers of a form stand from this number on, each of which takes the one before it, the
-- first a net that was there
pub record AreSeries (make : ℕ → NetKind) (before after : Circuit) (named : List ℕ) (frame : Frame)
    (word : Word) (from begin count : ℕ) : Type 0 where
  pub grows : Grows before after named (IsOfFrame frame) count
  pub each : (k : ℕ) → k < count
      → slice_get after.nets (begin + k)
      ≡ Some (record {
        signed = word.signed;
        width = word.width;
        kind = make (taken_by from begin k);
      })
  pub size : length after.nets ≡ begin + count
  pub new : length before.nets ≤ begin
  pub counted : IsSome (counter_of after.nets frame)
  pub last : HasWord after.nets (taken_by from begin count) word.width word.signed

-- they were put in, and these are the numbers of the first and the last
pub record PutsSeries (make : ℕ → NetKind) (before after : Circuit) (named : List ℕ) (frame : Frame)
    (word : Word) (from count : ℕ) (series : Series) : Type 0 where
  pub are : AreSeries make before after named frame word from series.first count
  pub last_is : series.last ≡ taken_by from series.first count
  pub word_is : series.word ≡ word
