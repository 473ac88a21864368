-- When a wave shows the entries of a table (own).
use Rattle.std.specs.Prelude.{◌≡◌, ℕ, ◌+◌, ◌*◌, ◌%◌, ◌<◌, ◌≤◌, ℤ, Option, None, Some}
use Rattle.hw_net.specs.Registers.{Wave}

-- hit t of a block of this period is to be seen at this clock: from `ready` clocks after the frame
-- of the hit begins up to its end
pub record IsSeenAt (cycles period latency ready t clock : ℕ) : Type 0 where
  pub is_hit : t % period ≡ 0
  pub from : (t + latency) * cycles + ready ≤ clock
  pub until : clock < (t + latency + period) * cycles

-- the same of a block whose value may never change: it is seen at every clock
abbrev pub IsSeen : ℕ → Option ℕ → ℕ → ℕ → ℕ → ℕ → Type 0
IsSeen cycles None latency ready t clock = t ≡ 0
IsSeen cycles (Some period) latency ready t clock = IsSeenAt cycles period latency ready t clock

-- at the first clocks the wave shows the entries below sample n wherever they are to be seen
pub record Shows (clocks n cycles : ℕ) (period : Option ℕ) (latency ready : ℕ) (entry : ℕ → ℤ)
    (wave : Wave) : Type 0 where
  pub at : (t clock : ℕ) → t < n → clock < clocks → IsSeen cycles period latency ready t clock
      → wave clock ≡ entry t
