-- The columns of a module's stimulus and response: a port's period and the range of its numbers
-- (own).
use Rattle.std.specs.Prelude.{ℤ, pos, ◌-◌, ◌^◌, ◌==◌, neg_ℤ, Bool, ◌||◌, if◌then◌else◌, List, map}
use Rattle.vl_ast.specs.declared.modules.Port.{Port}
use Rattle.vl_ast.specs.Attributes.{step_of}
use Rattle.fx_tables.specs.declared.table.Column.{Column}

-- a port is read by two's complement where it is signed, or 128 bits wide
abbrev pub has_sign : Port → Bool
has_sign port = port.signed || port.width == 128

-- the least number that a port shows
abbrev pub lowest : Port → ℤ
lowest port = if has_sign port then neg_ℤ (pos (2 ^ (port.width - 1))) else pos 0

-- the greatest
abbrev pub highest : Port → ℤ
highest port = if has_sign port then pos (2 ^ (port.width - 1) - 1) else pos (2 ^ port.width - 1)

-- the column of a port
abbrev pub column_of : Port → Column
column_of port = record { low = lowest port; high = highest port; period = step_of port }

-- one for each port
abbrev pub columns_of : List Port → List Column
columns_of ports = map column_of ports
