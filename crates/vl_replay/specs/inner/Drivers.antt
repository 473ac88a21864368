-- How the input ports of a module but `clk` are driven, in order, and the bits that they show.
use Rattle.std.specs.Prelude.{◌≡◌, ℕ, zero, suc, ◌+◌, ◌/◌, ◌<◌, nat_lt, Bool, true, ◌&&◌, ◌||◌, ⊤, if◌then◌else◌, List, [], ◌∷◌, length, map, slice_get, slice_index, Some, bytes_eq, codes}
use Rattle.vl_ast.specs.declared.modules.Port.{Port}
use Rattle.vl_ast.specs.declared.modules.Module.{Module}
use Rattle.vl_ast.specs.Attributes.{clocks_of, step_of}
use Rattle.vl_ast.specs.Conditions.{is_width}
use Rattle.vl_ast.specs.Control.{is_stallable}
use Rattle.vl_ast.specs.Windows.{PortNumbers, Sample}
use Rattle.vl_ast.specs.Runs.{Rows}
use Rattle.vl_ast.specs.Value.{bits_of}
use Rattle.vl_eval.specs.Given.{driven_ports, given}
use Rattle.vl_replay.specs.declared.drivers.Driver.{Driver}
use Rattle.vl_replay.specs.declared.drivers.Driver.TheVariants.{Reset, Enable, Column}
use Rattle.vl_replay.specs.Sampled.{hit_at}

-- the port is `reset`, or `clk_enable` of a module that stalls
abbrev pub is_own : Bool → Port → Bool
is_own stalls port =
    (stalls && bytes_eq port.name (codes "clk_enable")) || bytes_eq port.name (codes "reset")

-- the driver of such a port
abbrev pub own_driver : Port → Driver
own_driver port = if bytes_eq port.name (codes "reset") then Reset else Enable

-- the driver of a port, by its name or else the column at this place
abbrev pub driver_of : Bool → ℕ → Port → Driver
driver_of stalls place port =
    if is_own stalls port then own_driver port else Column place (step_of port) port.width

-- the place of the next column
abbrev pub place_after : Bool → ℕ → Port → ℕ
place_after stalls place port = if is_own stalls port then place else place + 1

-- the drivers of ports, the first column being at this place
abbrev pub drivers_from : Bool → ℕ → List Port → List Driver
drivers_from stalls place [] = []
drivers_from stalls place (port ∷ ports) =
    driver_of stalls place port ∷ drivers_from stalls (place_after stalls place port) ports

-- the bits in the row with `reset`
abbrev pub reset_bits : Driver → ℕ
reset_bits Reset = 1
reset_bits Enable = 0
reset_bits (Column place period width) = 0

-- the bits at the clocks of a sample: those of the last hit's number, and 0 where there is none
abbrev pub driver_bits : PortNumbers → ℕ → Sample → Driver → ℕ
driver_bits numbers samples sample Reset = 0
driver_bits numbers samples sample Enable = 1
driver_bits numbers samples sample (Column place period width) =
    if nat_lt (hit_at period sample) samples
    then bits_of width (numbers place (hit_at period sample)) else 0

-- the bits of the first `count` drivers
pub record AreBits (of : Driver → ℕ) (drivers : List Driver) (count : ℕ)
    (bits : List ℕ) : Type 0 where
  pub long : length bits ≡ length drivers
  pub at : (k : ℕ) (driver : Driver) → slice_get drivers k ≡ Some driver → k < count
      → slice_index bits k ≡ of driver

-- a column is one of the stimulus, whose numbers fit a word of the program
abbrev pub IsWithin : ℕ → Driver → Type 0
IsWithin columns Reset = ⊤
IsWithin columns Enable = ⊤
IsWithin columns (Column place period width) =
    (place < columns) × (0 < period) × (is_width width ≡ true)

-- so is each
pub record AreWithin (columns : ℕ) (drivers : List Driver) : Type 0 where
  pub at : (k : ℕ) (driver : Driver) → slice_get drivers k ≡ Some driver → IsWithin columns driver

-- the bits of the input ports in each row
abbrev pub inputs_of : Module → PortNumbers → ℕ → Rows
inputs_of m numbers samples zero = λ name. 0
inputs_of m numbers samples (suc zero) =
    given (driven_ports m) (map reset_bits (drivers_from (is_stallable m) 0 (driven_ports m)))
inputs_of m numbers samples (suc (suc clock)) =
    given (driven_ports m)
    (map (driver_bits numbers samples (clock / clocks_of m))
    (drivers_from (is_stallable m) 0 (driven_ports m)))
