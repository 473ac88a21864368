-- The names of the wrapper's own wires and registers, and of those of the core in it (own).
use Rattle.std.specs.Prelude.{ℕ, ◌||◌, Bool, if◌then◌else◌, List, ◌++◌, bytes_eq, codes}
use Rattle.std.specs.Fmt.{decimal}

-- the core and the wrapper have the name in common
abbrev pub is_shared : List ℕ → Bool
is_shared name = bytes_eq name (codes "clk") || bytes_eq name (codes "reset")

-- what a name of the core is called in the wrapper
abbrev pub inner_name : List ℕ → List ℕ
inner_name name = if is_shared name then name else codes "fx_core_" ++ name

-- the register that holds an input
abbrev pub held_name : List ℕ → List ℕ
held_name name = codes "fx_held_" ++ name

-- the register that has an output of so many samples ago
abbrev pub late_name : List ℕ → ℕ → List ℕ
late_name name samples = codes "fx_late_" ++ decimal samples ++ codes "_" ++ name

-- a sample's first clock, its last, and what a row needs to move
abbrev pub begin_name : List ℕ
begin_name = codes "fx_begin"

abbrev pub end_name : List ℕ
end_name = codes "fx_end"

abbrev pub due_name : List ℕ
due_name = codes "fx_due"

abbrev pub fed_name : List ℕ
fed_name = codes "fx_fed"

abbrev pub open_name : List ℕ
open_name = codes "fx_open"

abbrev pub enable_name : List ℕ
enable_name = codes "fx_core_clk_enable"

-- the counters of clocks and of samples
abbrev pub phase_name : List ℕ
phase_name = codes "fx_phase"

abbrev pub wait_name : List ℕ
wait_name = codes "fx_wait"
