-- Clocks at which the inputs stay as they are and no output is due.
use Rattle.std.specs.Prelude.{◌≡◌, ℕ, ◌+◌, ◌<◌, ◌≤◌, ⊤, slice_get, Some}
use Rattle.vl_ast.specs.declared.modules.Module.{Module}
use Rattle.vl_ast.specs.Runs.{Row, Rows}
use Rattle.vl_ast.specs.Steps.{IsEdge}
use Rattle.vl_eval.specs.Machine.{IsKept, row_of}
use Rattle.vl_eval.specs.declared.machine.Machine.{Machine}
use Rattle.vl_eval.specs.declared.machine.Snapshot.{Snapshot}
use Rattle.vl_replay.specs.declared.drivers.Driver.{Driver}
use Rattle.vl_replay.specs.declared.drivers.Driver.TheVariants.{Reset, Enable, Column}
use Rattle.vl_replay.specs.declared.playing.Score.{Score}
use Rattle.vl_replay.specs.declared.samplers.Sampler.{Sampler}

-- from a sample on a column shows no number of so many samples
abbrev pub IsPast : ℕ → ℕ → Driver → Type 0
IsPast samples from Reset = ⊤
IsPast samples from Enable = ⊤
IsPast samples from (Column place period width) = samples + period ≤ from

-- from a sample up to another no column shows a number, and no output is due
pub record IsQuiet (score : Score) (from until : ℕ) : Type 0 where
  pub drivers : (k : ℕ) (driver : Driver) → slice_get score.drivers.items k ≡ Some driver
      → IsPast score.stimulus.lines from driver
  pub samplers : (place : ℕ) (sampler : Sampler)
      → slice_get score.samplers.items place ≡ Some sampler → sampler.delay < until
      → score.stimulus.lines + sampler.delay ≤ from

-- so many edges with the same inputs lead from one row to another
pub record Leads (m : Module) (inputs first : Row) (count : ℕ) (last : Row) : Type 0 where
  pub rows : Rows
  pub begins : rows 0 ≡ first
  pub edges : (k : ℕ) → k < count → IsEdge m (rows k) inputs (rows (k + 1))
  pub ends : rows count ≡ last

-- so many edges lead to the machine's row, and the last of them from that of a snapshot
pub record IsSince (m : Module) (inputs first : Row) (count since : ℕ) (machine : Machine)
    (snapshot : Snapshot) : Type 0 where
  pub row : Row
  pub kept : IsKept machine snapshot row
  pub before : ℕ
  pub sum : before + since ≡ count
  pub led : Leads m inputs first before row
  pub leads : Leads m inputs row since (row_of machine)
