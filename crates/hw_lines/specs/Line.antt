-- What a line owes its reader: what its source shows, some base samples later (own).
use Rattle.std.specs.Prelude.{◌≡◌, ℕ, ◌+◌, ◌-◌, ◌*◌, ◌%◌, ◌<◌, ◌≤◌, ℤ, min, Bool, true, false}
use Rattle.hw_net.specs.declared.netlist.Frame.{Frame}
use Rattle.hw_net.specs.Registers.{Wave}

-- The frame of a source, and that in which a reader sees it: the greater of the two periods, and
-- the source's latency with the shift. A base sample has so many clocks.
pub record Line : Type 0 where
  pub cycles : ℕ
  pub own : Frame
  pub reader : Frame

-- the first clock at which the reader sees hit t
abbrev pub seen_from : Line → ℕ → ℕ
seen_from line t = (t + line.reader.latency) * line.cycles

-- the last clock of hit t in the source's frame
abbrev pub own_end : Line → ℕ → ℕ
own_end line t = (t + line.own.latency + line.own.period) * line.cycles - 1

-- the reader sees hit t at this clock, one of the first n
pub record Sees (n : ℕ) (line : Line) (t clock : ℕ) : Type 0 where
  pub is_hit : t % line.reader.period ≡ 0
  pub below : clock < n
  pub from : seen_from line t ≤ clock
  pub until : clock < seen_from line t + line.reader.period * line.cycles

-- a plain line: what the source shows at the clock itself, or at the end of its frame if that is
-- earlier
pub record IsLine (n : ℕ) (line : Line) (source result : Wave) : Type 0 where
  pub shows : (t clock : ℕ) → Sees n line t clock
      → result clock ≡ source (min clock (own_end line t))

-- a registered line: what the source shows just before the reader sees the hit, or at the end of
-- its frame if that is earlier; and `first` for hits before 0
pub record IsRegistered (n : ℕ) (line : Line) (first : ℤ) (source result : Wave) : Type 0 where
  pub shows : (t clock : ℕ) → Sees n line t clock
      → result clock ≡ source (min (seen_from line t - 1) (own_end line t))
  pub begins : (clock : ℕ) → clock < n → clock < seen_from line 0 → result clock ≡ first

abbrev pub ShowsLater : Bool → ℕ → Line → ℤ → Wave → Wave → Type 0
ShowsLater true n line first source result = IsRegistered n line first source result
ShowsLater false n line first source result = IsLine n line source result
