-- The ports that carry numbers, when the outputs are sampled, and the cells of a table in which
-- their numbers stand.
use Rattle.std.specs.Prelude.{◌≡◌, ℕ, ◌+◌, ◌-◌, ◌*◌, ◌/◌, ◌%◌, ◌<◌, ◌==◌, Bool, if◌then◌else◌, List, length, slice_get, slice_index_or, Option, None, Some, ℤ, pos}
use Rattle.vl_ast.specs.declared.modules.Port.{Port}
use Rattle.vl_ast.specs.declared.modules.Module.{Module}
use Rattle.vl_ast.specs.Attributes.{lateness_of, step_of}
use Rattle.vl_ast.specs.Control.{is_number_input, is_number_output}
use Rattle.vl_ast.specs.Driven.{output_ports, port_number}
use Rattle.vl_ast.specs.Windows.{Sample}
use Rattle.vl_ast.specs.Runs.{Row}
use Rattle.vl_eval.specs.Machine.{IsReady, row_of, source_of}
use Rattle.vl_eval.specs.declared.machine.Machine.{Machine}
use Rattle.vl_replay.specs.declared.samplers.Sampler.{Sampler}
use Rattle.vl_replay.specs.Sampled.{hit_at}

-- a port is an input that carries numbers, or else an output that does
abbrev pub carries : Bool → Bool → Port → Bool
carries inputs stalls port =
    if inputs then is_number_input stalls port else is_number_output stalls port

-- when an output is sampled, with so many clocks per sample
abbrev pub sampler_of : ℕ → Port → Sampler
sampler_of cycles port =
    record {
      period = step_of port;
      delay = lateness_of port / cycles;
      phase = lateness_of port % cycles;
    }

-- the number of a port in a row
abbrev pub number_or_zero : Row → Option Port → ℤ
number_or_zero row None = pos 0
number_or_zero row (Some port) = port_number port (row port.name)

-- the number of the output at a place
abbrev pub number_at : Module → Row → ℕ → ℤ
number_at m row place = number_or_zero row (slice_get (output_ports m) place)

-- the place of an output's number in a ring of so many rows, in which the row of a sample is that
-- of its remainder
abbrev pub cell_of : ℕ → ℕ → ℕ → Sample → ℕ
cell_of window outputs place t = t % window * outputs + place

-- those of a machine's row
abbrev pub numbers_in : Machine → ℕ → ℤ
numbers_in machine place = number_at (source_of machine) (row_of machine) place

abbrev pub sampler_at : List Sampler → ℕ → Sampler
sampler_at samplers place =
    slice_index_or samplers place (record { period = 0; delay = 0; phase = 0 })

-- what an output's cell of a sample gets: what the output shows at a hit, and between hits the
-- number of the sample before
abbrev pub number_due : (ℕ → ℤ) → List Sampler → ℕ → ℕ → Sample → List ℤ → ℤ
number_due numbers samplers window place t cells =
    if hit_at (sampler_at samplers place).period t == t then numbers place
    else slice_index_or cells (cell_of window (length samplers) place (t - 1)) (pos 0)

-- a ring of so many rows has room for the numbers of a machine's outputs, which are sampled so
pub record HasRing (machine : Machine) (samplers : List Sampler) (window : ℕ)
    (cells : List ℤ) : Type 0 where
  pub ready : IsReady machine
  pub outputs : length samplers ≡ length (output_ports (source_of machine))
  pub periods : (place : ℕ) (sampler : Sampler) → slice_get samplers place ≡ Some sampler
      → 0 < sampler.period
  pub some : 0 < window
  pub room : length cells ≡ window * length samplers

-- the numbers of the first `count` outputs that are due at a clock are put into their cells: what
-- the output shows at a hit, and between hits the number of the sample before
pub record ArePut (numbers : ℕ → ℤ) (samplers : List Sampler)
    (samples window sample phase count : ℕ) (before after : List ℤ) : Type 0 where
  pub long : length after ≡ length before
  pub put : (place : ℕ) (sampler : Sampler) (t : Sample) → slice_get samplers place ≡ Some sampler
      → place < count → t < samples → sampler.phase ≡ phase → t + sampler.delay ≡ sample
      → slice_index_or after (cell_of window (length samplers) place t) (pos 0)
      ≡ (if hit_at sampler.period t == t then numbers place
      else slice_index_or before (cell_of window (length samplers) place (t - 1)) (pos 0))
  pub kept : (place : ℕ) (sampler : Sampler) (row : ℕ) → slice_get samplers place ≡ Some sampler
      → ((t : Sample) → t < samples → place < count → sampler.phase ≡ phase
      → t + sampler.delay ≡ sample → t % window ≡ row → ⊥)
      → slice_index_or after (row * length samplers + place) (pos 0)
      ≡ slice_index_or before (row * length samplers + place) (pos 0)
