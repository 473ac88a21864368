-- How many clocks a sample of a module takes, and how late its outputs are (own).
use Rattle.std.specs.Prelude.{ℕ, ◌/◌, max, fold, map}
use Rattle.vl_ast.specs.declared.modules.Port.{Port}
use Rattle.vl_ast.specs.declared.modules.Module.{Module}
use Rattle.vl_ast.specs.Attributes.{clocks_of, lateness_of}
use Rattle.vl_ast.specs.Driven.{output_ports}

-- how many whole samples an output comes late
abbrev pub samples_late : ℕ → Port → ℕ
samples_late cycles port = lateness_of port / cycles

-- how many whole samples the latest output comes late, 0 without outputs
abbrev pub latest_in : Module → ℕ
latest_in core = fold max 0 (map (samples_late (clocks_of core)) (output_ports core))
