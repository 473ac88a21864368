-- What is asked of chains: the frames in which blocks show their entries behind their pipelines,
-- and by how much their readers are later (own).
use Rattle.std.specs.Prelude.{ℕ, ◌+◌, ◌-◌, Option, None, Some}
use Rattle.hw_net.specs.declared.netlist.Frame.{Frame}
use Rattle.hw_lines.specs.declared.source.Use.{Use}
use Rattle.hw_shows.specs.Timing.{Timing, latency_after}

-- the frame of what stands behind the pipeline of a block of this period
abbrev pub frame_behind : Timing → ℕ → ℕ → Frame
frame_behind timing period block =
    record { period = period; latency = latency_after timing period block }

-- by how many base samples a reader is later, with what its registers add
abbrev pub shift_into : Timing → ℕ → ℕ → ℕ → Option ℕ → ℕ
shift_into timing from source block None = timing.latency block - latency_after timing source from
shift_into timing from source block (Some lag) =
    timing.latency block + lag - latency_after timing source from

-- a reader of a period, as a chain is asked for it
abbrev pub use_into : Timing → ℕ → ℕ → ℕ → ℕ → Option ℕ → Use
use_into timing from source block own lag =
    record { shift = shift_into timing from source block lag; period = own }
