-- The one line that each status but 0 puts on the stream of messages (own).
use Prim.Native.Char.{code}
use Rattle.std.specs.Prelude.{ℕ, List, ◌∷◌, ◌++◌, codes}
use Rattle.std.specs.Fmt.{decimal}
use Rattle.std.specs.List.{flat_map}
use Rattle.fx_tables.specs.declared.table.TableCause.{TableCause}
use Rattle.fx_tables.specs.declared.table.TableCause.TheVariants.{TooManyRows, FieldCount, NotWhole, OutOfRange, DashAtHit, NumberOffHit, PlanLine}
use Rattle.vl_check.specs.declared.fault.VlFault.{VlFault}
use Rattle.vl_check.specs.declared.fault.VlFault.TheVariants.{Undriven, Doubly, CombLoop, TooWide, NoReset, NoAttribute, OutOfMemory}

-- the line of status 1
abbrev pub memory_line : List ℕ
memory_line = codes "out of memory\n"

-- the line of status 2
abbrev pub usage_line : List ℕ
usage_line =
    codes "usage: check MODEL PLAN, simulate MODEL STIM, generate MODEL PLAN, replay VERILOG STIM, sample NUMBER, explore MODEL RANGE, flatten VERILOG, stream MODEL PLAN\n"

-- the line of status 3
abbrev pub unread_line : List ℕ → List ℕ
unread_line file = file ++ codes ": cannot be read\n"

-- the line of status 4
abbrev pub unwritten_line : List ℕ
unwritten_line = codes "cannot write\n"

-- the line of status 5
abbrev pub syntax_line : List ℕ → ℕ → List ℕ
syntax_line file line = file ++ codes ": line " ++ decimal line ++ codes ": not MDL text\n"

-- the end of the line of a cause in a stimulus or a plan
abbrev pub cause_end : TableCause → List ℕ
cause_end TooManyRows = codes ": too many rows\n"
cause_end FieldCount = codes ": field count\n"
cause_end NotWhole = codes ": not a whole number\n"
cause_end OutOfRange = codes ": out of range\n"
cause_end DashAtHit = codes ": dash at a hit\n"
cause_end NumberOffHit = codes ": number off a hit\n"
cause_end PlanLine = codes ": plan line\n"

-- the line of status 6
abbrev pub bad_line : List ℕ → ℕ → TableCause → List ℕ
bad_line file line cause = file ++ codes ": line " ++ decimal line ++ cause_end cause

-- the line of status 8 where the text is not in the subset
abbrev pub not_verilog_line : List ℕ → ℕ → List ℕ
not_verilog_line file line =
    file ++ codes ": line " ++ decimal line ++ codes ": not in the Verilog subset\n"

-- the line of status 8 of a condition that shows one name
abbrev pub name_line : List ℕ → List ℕ → List ℕ → List ℕ
name_line file condition name = file ++ condition ++ name ++ codes "\n"

-- the names of a loop, each behind a space, and the end of the line
abbrev pub names_end : List (List ℕ) → List ℕ
names_end names = flat_map (λ name. code " " ∷ name) names ++ codes "\n"

-- the line of status 8 where a condition is broken
abbrev pub broken_line : List ℕ → VlFault → List ℕ
broken_line file (Undriven name) = name_line file (codes ": undriven: ") name
broken_line file (Doubly name) = name_line file (codes ": doubly driven: ") name
broken_line file (CombLoop names) = file ++ codes ": combinational loop:" ++ names_end names
broken_line file (TooWide name) = name_line file (codes ": too wide: ") name
broken_line file (NoReset name) = name_line file (codes ": no reset: ") name
broken_line file (NoAttribute name) = name_line file (codes ": no attribute: ") name
broken_line file OutOfMemory = memory_line

-- the line of status 8 where an instance isn't linked as it must be
abbrev pub instance_line : List ℕ → List ℕ → List ℕ
instance_line file name = name_line file (codes ": bad instance: ") name

-- the line of status 9
abbrev pub too_long_line : List ℕ → ℕ → List ℕ
too_long_line file length =
    file ++ codes ": " ++ decimal length ++ codes " bytes, at most 16777216\n"
