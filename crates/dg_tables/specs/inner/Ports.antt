-- The blocks of root ports by the numbers of these (own).
use Rattle.std.specs.Prelude.{◌≡◌, ℕ, ◌<◌, ◌≤◌, ◌-◌, List, length, filter_map, Option, Some, None, ⊤, slice_get, slice_set}
use Rattle.dg_model.specs.declared.diagram.Block.{Block}
use Rattle.dg_model.specs.declared.row.Role.{Role}
use Rattle.dg_model.specs.RootElements.{number_in}
use Rattle.dg_model.specs.declared.diagram.Diagram.{Diagram}
use Rattle.dg_model.specs.Signals.{Attributes}
use Rattle.dg_model.specs.Wired.{root_input, root_output}
use Rattle.dg_model.specs.Wires.{width_into}
use Rattle.dg_tables.specs.Finding.{AreLines}
use Rattle.dg_tables.specs.declared.roots.Side.{Side}
use Rattle.dg_tables.specs.declared.roots.Side.TheVariants.{Inputs, Outputs}

-- the number of a root port of a side
abbrev pub root_on : Side → Role → Option ℕ
root_on Inputs = root_input
root_on (Outputs starts) = root_output

-- how wide a root port of a side is
abbrev pub width_on : Diagram → Attributes → Side → ℕ → ℕ
width_on diagram attributes Inputs block = attributes.width_at block 1
width_on diagram attributes (Outputs starts) block = width_into diagram attributes block 1

-- the lines that this is read of are found
abbrev pub FindsWidths : Diagram → Side → Type 0
FindsWidths diagram Inputs = ⊤
FindsWidths diagram (Outputs starts) = AreLines diagram starts.now.lines.items

-- of the first blocks, each root port stands in a list at its number
pub record ArePortsTo (number_of : Role → Option ℕ) (blocks : List Block) (count : ℕ)
    (ports : List ℕ) : Type 0 where
  pub size : length ports ≡ length (filter_map (number_in number_of) blocks)
  pub each : (block : ℕ) (b : Block) (number : ℕ) → block < count → slice_get blocks block ≡ Some b
      → number_in number_of b ≡ Some number → slice_get ports (number - 1) ≡ Some block

-- a number is that of a port
abbrev pub IsPortNumber : (Role → Option ℕ) → List Block → ℕ → Type 0
IsPortNumber number_of blocks number =
    (1 ≤ number) × (number ≤ length (filter_map (number_in number_of) blocks))

-- a number, where there is one, is one of so many ports
abbrev pub IsNumberOf : ℕ → Option ℕ → Type 0
IsNumberOf count None = ⊤
IsNumberOf count (Some number) = (1 ≤ number) × (number ≤ count)

-- the block of a port is written down at its number
abbrev pub port_put : List ℕ → Option ℕ → ℕ → List ℕ
port_put ports None block = ports
port_put ports (Some number) block = slice_set ports (number - 1) block
