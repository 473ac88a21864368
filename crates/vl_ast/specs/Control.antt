-- The ports that control a module, and carry no numbers (own).
use Rattle.std.specs.Prelude.{ℕ, not, ◌&&◌, ◌||◌, ◌==◌, Bool, List, bytes_eq, codes}
use Rattle.std.specs.List.{list_any}
use Rattle.vl_ast.specs.declared.modules.Port.{Port}
use Rattle.vl_ast.specs.declared.modules.Module.{Module}

-- an unsigned input of one bit with this name
abbrev pub is_bit_input : List ℕ → Port → Bool
is_bit_input name port = bytes_eq port.name name && port.input && not port.signed && port.width == 1

-- the port is `clk` or `reset`
abbrev pub is_clock_or_reset : Port → Bool
is_clock_or_reset port = bytes_eq port.name (codes "clk") || bytes_eq port.name (codes "reset")

-- the module has an unsigned input `clk_enable` of one bit
abbrev pub is_stallable : Module → Bool
is_stallable m = list_any (is_bit_input (codes "clk_enable")) m.ports

-- the port is `clk`, `reset`, or of a module that stalls `clk_enable`
abbrev pub is_control_input : Bool → Port → Bool
is_control_input stalls port =
    (stalls && bytes_eq port.name (codes "clk_enable")) || is_clock_or_reset port

-- the port is `ce_out` of a module that stalls: unsigned, of one bit
abbrev pub is_control_output : Bool → Port → Bool
is_control_output stalls port =
    stalls && bytes_eq port.name (codes "ce_out") && not port.signed && port.width == 1

-- the port is an input that carries numbers
abbrev pub is_number_input : Bool → Port → Bool
is_number_input stalls port = port.input && not (is_control_input stalls port)

-- the port is an output that carries numbers
abbrev pub is_number_output : Bool → Port → Bool
is_number_output stalls port = not (is_control_output stalls port || port.input)
