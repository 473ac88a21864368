-- The numbers that a module and its ports carry as attributes (IEEE 1364-2005, 3.8; the names are
-- own).
use Rattle.std.specs.Prelude.{ℕ, nat_le, ◌&&◌, if◌then◌else◌, List, find, bytes_eq, codes, Option, Some, None, unwrap_or}
use Rattle.vl_ast.specs.declared.modules.Attr.{Attr}
use Rattle.vl_ast.specs.declared.modules.Port.{Port}
use Rattle.vl_ast.specs.declared.modules.Module.{Module}

-- an attribute's number, where it is in a range
abbrev pub value_between : ℕ → ℕ → Option Attr → Option ℕ
value_between low high None = None
value_between low high (Some attr) =
    if nat_le low attr.value && nat_le attr.value high then Some attr.value else None

-- the number of the first attribute of a name, where it is in the range
abbrev pub attribute : List Attr → List ℕ → ℕ → ℕ → Option ℕ
attribute attrs name low high =
    value_between low high (find (λ attr. bytes_eq attr.name name) attrs)

-- the most clocks of a base sample
abbrev pub most_cycles : ℕ
most_cycles = 1024

-- the greatest period of a port, in base samples
abbrev pub most_period : ℕ
most_period = 4096

-- the greatest latency of an output, in clocks
abbrev pub most_latency : ℕ
most_latency = 16777216

-- how many clocks a base sample takes
abbrev pub cycles_of : Module → Option ℕ
cycles_of m = attribute m.attrs (codes "fx_cycles") 1 most_cycles

-- the period of a port in base samples
abbrev pub period_of : Port → Option ℕ
period_of port = attribute port.attrs (codes "fx_period") 1 most_period

-- how many clocks an output comes after its sample
abbrev pub latency_of : Port → Option ℕ
latency_of port = attribute port.attrs (codes "fx_latency") 0 most_latency

-- how many clocks a base sample takes, 1 where the module doesn't say
abbrev pub clocks_of : Module → ℕ
clocks_of m = unwrap_or (cycles_of m) 1

-- the base samples from one number of a port to the next, 1 where it doesn't say
abbrev pub step_of : Port → ℕ
step_of port = unwrap_or (period_of port) 1

-- how many clocks an output comes after its sample, 0 where it doesn't say
abbrev pub lateness_of : Port → ℕ
lateness_of port = unwrap_or (latency_of port) 0
