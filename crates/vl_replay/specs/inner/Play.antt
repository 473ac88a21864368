-- How far a machine is driven, and what was sampled on the way.
use Rattle.std.specs.Prelude.{◌≡◌, ℕ, ◌+◌, ◌*◌, ◌<◌, ◌≤◌, List, length, map, slice_get, slice_index_or, Some, ℤ, pos}
use Rattle.vl_ast.specs.declared.modules.Module.{Module}
use Rattle.vl_ast.specs.Conditions.{BreaksNone}
use Rattle.vl_ast.specs.Control.{is_stallable}
use Rattle.vl_ast.specs.Driven.{output_ports, port_number, stimulus_ports}
use Rattle.vl_ast.specs.Windows.{Each, Sample}
use Rattle.vl_ast.specs.Runs.{Rows}
use Rattle.vl_ast.specs.Steps.{AreSteps, IsFirstRow}
use Rattle.vl_ast.specs.Attributes.{clocks_of, lateness_of, most_latency, step_of}
use Rattle.vl_eval.specs.Given.{driven_ports}
use Rattle.vl_eval.specs.Machine.{IsReady, row_of, source_of}
use Rattle.vl_eval.specs.declared.machine.Machine.{Machine}
use Rattle.vl_replay.specs.declared.playing.Score.{Score}
use Rattle.vl_replay.specs.declared.samplers.Sampler.{Sampler}
use Rattle.vl_replay.specs.Sampled.{hit_at, numbers_of}
use Rattle.vl_replay.specs.inner.Drivers.{drivers_from, inputs_of}
use Rattle.vl_replay.specs.inner.Samplers.{cell_of, sampler_of}

-- an output is sampled so many samples late
pub record HasDelay (samplers : List Sampler) (delay : ℕ) : Type 0 where
  pub place : ℕ
  pub sampler : Sampler
  pub there : slice_get samplers place ≡ Some sampler
  pub is : sampler.delay ≡ delay

-- no number of so many samples is sampled more samples late, and one is so late; with no samples
-- there are none
pub record IsDelay (samplers : List Sampler) (samples delay : ℕ) : Type 0 where
  pub few : delay ≤ most_latency
  pub most : (place : ℕ) (sampler : Sampler) → slice_get samplers place ≡ Some sampler
      → 0 < samples → sampler.delay ≤ delay
  pub least : 0 < delay → (0 < samples) × HasDelay samplers delay

-- a ring of so many rows holds the numbers of a sample until all of them are sampled: its row is
-- another's only once that one's number is sampled, by each sampler's own delay. It has no more
-- rows than there are samples, and one more than the latest is later than some other
pub record IsWindow (samplers : List Sampler) (samples delay window : ℕ) : Type 0 where
  pub some : 0 < window
  pub few : window ≤ most_latency + 1
  pub wide : (place : ℕ) (sampler : Sampler) → slice_get samplers place ≡ Some sampler
      → window < samples → delay < window + sampler.delay
  pub least : 1 < window → (window ≤ samples)
      × ((earliest : ℕ) × HasDelay samplers earliest × (window + earliest ≤ delay + 1))

-- a score of a module that breaks no condition
pub record IsScoreOf (m : Module) (score : Score) : Type 0 where
  pub sound : BreaksNone m
  pub columns : score.stimulus.columns ≡ length (stimulus_ports m)
  pub cycles : score.cycles ≡ clocks_of m
  pub drivers : score.drivers.items ≡ drivers_from (is_stallable m) 0 (driven_ports m)
  pub samplers : score.samplers.items ≡ map (sampler_of (clocks_of m)) (output_ports m)
  pub delay : IsDelay score.samplers.items score.stimulus.lines score.delay
  pub window : IsWindow score.samplers.items score.stimulus.lines score.delay score.window

-- in a ring of so many rows the cells whose clocks are among so many have the numbers of their
-- hits, until another sample's number is put there
pub record HaveCells (m : Module) (samples window clocks : ℕ) (rows : Rows)
    (cells : List ℤ) : Type 0 where
  pub long : length cells ≡ window * length (output_ports m)
  pub at : Each (output_ports m)
      (λ place port. (t : Sample) → t < samples → t * clocks_of m + lateness_of port < clocks
      → (t + window < samples → clocks ≤ (t + window) * clocks_of m + lateness_of port)
      → slice_index_or cells (cell_of window (length (output_ports m)) place t) (pos 0)
      ≡ port_number port
      (rows (2 + (hit_at (step_of port) t * clocks_of m + lateness_of port)) port.name))

-- a machine in row 0, with its score and room for the bits of its inputs and for a ring of so many
-- rows
pub record CanPlay (machine : Machine) (score : Score) (window : ℕ) (bits : List ℕ)
    (cells : List ℤ) : Type 0 where
  pub ready : IsReady machine
  pub is : IsScoreOf (source_of machine) score
  pub row : IsFirstRow (source_of machine) (λ name. 0) (λ name. 0) (row_of machine)
  pub some : 0 < window
  pub room : length cells ≡ window * length score.samplers.items
  pub wide : length bits ≡ length score.drivers.items

-- so many clocks are passed: the rows up to the machine's run, and their numbers stand in the cells
pub record IsPlayed (score : Score) (window clocks : ℕ) (machine : Machine)
    (cells : List ℤ) : Type 0 where
  pub ready : IsReady machine
  pub score_is : IsScoreOf (source_of machine) score
  pub some : 0 < window
  pub rows : Rows
  pub steps : AreSteps (source_of machine) (2 + clocks) (λ name. 0)
      (inputs_of (source_of machine) (numbers_of score.stimulus) score.stimulus.lines) rows
  pub last : rows (1 + clocks) ≡ row_of machine
  pub have : HaveCells (source_of machine) score.stimulus.lines window clocks rows cells

-- no output is sampled more samples late than it may come clocks late
pub record AreNear (samplers : List Sampler) : Type 0 where
  pub delay : (place : ℕ) (sampler : Sampler) → slice_get samplers place ≡ Some sampler
      → sampler.delay ≤ most_latency
