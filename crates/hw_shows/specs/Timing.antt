-- The times of a diagram's blocks, as numbers (own).
use Rattle.std.specs.Prelude.{◌≡◌, ℕ, zero, suc, ◌+◌, ◌*◌, ◌%◌, ◌<◌, ◌≤◌, Option, None, Some}

-- when each block shows its entries
pub record Timing : Type 0 where
  -- how many clocks a base sample has
  pub cycles : ℕ
  -- the base sample in which a block shows its first entry
  pub latency : ℕ → ℕ
  -- how many pipeline registers stand behind each element of a block
  pub stages : ℕ → ℕ
  -- the clock of its frame from which a block shows its entry
  pub ready : ℕ → ℕ
  -- the clock of the frame in which a shared multiplier has the operands of an element of a block,
  -- if one has them
  pub slot : ℕ → ℕ → Option ℕ

-- the base sample in which the first entry of a block of this period has come through its pipeline
abbrev pub latency_after : Timing → ℕ → ℕ → ℕ
latency_after timing period block = timing.latency block + timing.stages block * period

-- the same, where a block whose value never changes has no pipeline
abbrev pub latency_behind : Timing → Option ℕ → ℕ → ℕ
latency_behind timing None block = timing.latency block
latency_behind timing (Some period) block = latency_after timing period block

-- the clock of the frame from which a block shows its entry there: pipeline registers show it from
-- the first on
abbrev pub ready_behind : ℕ → ℕ → ℕ
ready_behind zero ready = ready
ready_behind (suc stages) ready = 0

-- the same of a block
abbrev pub ready_after : Timing → ℕ → ℕ
ready_after timing block = ready_behind (timing.stages block) (timing.ready block)

-- the source of an edge without registers shows its entry no later than the reader does, in frames
-- that are parts of the reader's
pub record IsPlainEdge (timing : Timing) (from source block own : ℕ) : Type 0 where
  pub divides : own % source ≡ 0
  pub behind : latency_after timing source from ≤ timing.latency block

-- on an edge with registers there is a base sample for one of them at least, and a period of the
-- source where that isn't ready from the first clock on
pub record IsLateEdge (timing : Timing) (from source block own lag : ℕ) : Type 0 where
  pub divides : source % own ≡ 0
  pub behind : latency_after timing source from < timing.latency block + lag
  pub whole : 0 < timing.ready from
      → latency_after timing source from + source ≤ timing.latency block + lag

-- an edge is in time, by whether it has registers and by how much they add
abbrev pub IsEdgeInTime : Timing → ℕ → ℕ → ℕ → ℕ → Option ℕ → Type 0
IsEdgeInTime timing from source block own None = IsPlainEdge timing from source block own
IsEdgeInTime timing from source block own (Some lag) = IsLateEdge timing from source block own lag
