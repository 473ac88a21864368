-- The plain reading of a plan, line by line, which private contracts cite.
use Prim.Native.Char.{code}
use Rattle.std.specs.Prelude.{◌≡◌, ℕ, Bool, true, List, [], ◌∷◌, ◌++◌, Option, None, Some, ◌+◌, ◌==◌, ◌&&◌, nat_le, drop, if◌then◌else◌, codes, slice_index, slice_index_or}
use Rattle.std.specs.List.{filter_map}
use Rattle.std.specs.Option.{option_to_list}
use Rattle.std.specs.Str.{bytes_eq}
use Rattle.std.specs.Str.Lines.{lines}
use Rattle.std.specs.Str.Parse.{digits_value}
use Rattle.dg_model.specs.Limits.{most_cycles}
use Rattle.fx_text.specs.Digits.{is_number}
use Rattle.fx_text.specs.Strings.{string_behind}
use Rattle.dg_model.specs.declared.plan.Plan.{Plan}
use Rattle.fx_tables.specs.Fields.{is_blank, after_blanks, fields_of}
use Rattle.fx_tables.specs.Plan.{cycles_of, multipliers_of, pipeline_of, is_repeated}
use Rattle.fx_tables.specs.declared.entry.PlanEntry.{PlanEntry}
use Rattle.fx_tables.specs.declared.entry.PlanEntry.TheVariants.{Passed, Cycles, Multipliers, Pipelined}
use Rattle.fx_tables.specs.declared.table.TableFault.{TableFault}
use Rattle.fx_tables.specs.declared.table.TableFault.TheVariants.{Bad}
use Rattle.fx_tables.specs.declared.table.TableCause.TheVariants.{PlanLine}

-- the number of 1 to 9 digits, from `low` to `high`, that is the only field
abbrev pub sole_number : ℕ → ℕ → List (List ℕ) → Option ℕ
sole_number low high [] = None
sole_number low high (field ∷ []) =
    if is_number 9 field
    && nat_le low (digits_value 10 field) && nat_le (digits_value 10 field) high
    then Some (digits_value 10 field)
    else None
sole_number low high (field ∷ next ∷ more) = None

-- the entry of a `cycles` line with this count
abbrev pub cycles_entry : Option ℕ → Option PlanEntry
cycles_entry None = None
cycles_entry (Some count) = Some (Cycles count)

-- the entry of a `multipliers` line with this count
abbrev pub multipliers_entry : Option ℕ → Option PlanEntry
multipliers_entry None = None
multipliers_entry (Some count) = Some (Multipliers count)

-- the entry of a `pipeline` line with this path and count
abbrev pub pipelined_entry : List ℕ → Option ℕ → Option PlanEntry
pipelined_entry path None = None
pipelined_entry path (Some count) = Some (Pipelined (record { path = path; count = count }))

-- a path with its closing quote read, and then a blank and the count
abbrev pub counted_entry : Option (List ℕ × List ℕ) → Option PlanEntry
counted_entry None = None
counted_entry (Some (path, rest)) =
    if is_blank (slice_index rest 0) then pipelined_entry path (sole_number 1 64 (fields_of rest))
    else None

-- a quoted path and a count
abbrev pub pipeline_entry : List ℕ → Option PlanEntry
pipeline_entry text =
    if slice_index text 0 == code "\"" then counted_entry (string_behind (drop 1 text)) else None

-- what a line says whose fields are these, where `text` stands behind its first field
abbrev pub words_entry : List (List ℕ) → List ℕ → Option PlanEntry
words_entry [] text = Some Passed
words_entry (word ∷ words) text =
    if bytes_eq word (codes "cycles") then cycles_entry (sole_number 1 most_cycles words)
    else if bytes_eq word (codes "multipliers") then multipliers_entry (sole_number 0 64 words)
    else if bytes_eq word (codes "pipeline") then pipeline_entry (after_blanks text)
    else None

-- a comment begins with `#`; "pipeline" has eight bytes
abbrev pub entry_of : List ℕ → Option PlanEntry
entry_of line =
    if slice_index line 0 == code "#" then Some Passed
    else words_entry (fields_of line) (drop 8 (after_blanks line))

-- a line of no form, or one that says again what an earlier one says
abbrev pub is_bad_entry : List PlanEntry → Option PlanEntry → Bool
is_bad_entry earlier None = true
is_bad_entry earlier (Some entry) = is_repeated earlier entry

-- the fault of the first bad line, where the first of these lines is that numbered `line`
abbrev pub entries_fault : List PlanEntry → ℕ → List (List ℕ) → Option TableFault
entries_fault earlier line [] = None
entries_fault earlier line (text ∷ later) =
    if is_bad_entry earlier (entry_of text) then Some (Bad line PlanLine)
    else entries_fault (earlier ++ option_to_list (entry_of text)) (line + 1) later

-- the fault of the first bad line of a plan
abbrev pub plan_fault : List ℕ → Option TableFault
plan_fault text = entries_fault [] 1 (lines text)

-- what the lines of a plan say
abbrev pub entries_of : List ℕ → List PlanEntry
entries_of text = filter_map entry_of (lines text)

-- the text is that of the plan; where it does not say so, a base sample has one clock, and no
-- multiplier is shared
pub record ReadsPlan (text : List ℕ) (plan : Plan) : Type 0 where
  pub no_fault : plan_fault text ≡ None
  pub clocks : plan.cycles ≡ slice_index_or (filter_map cycles_of (entries_of text)) 0 1
  pub shared : plan.multipliers ≡ slice_index_or (filter_map multipliers_of (entries_of text)) 0 0
  pub registers : plan.pipelines ≡ filter_map pipeline_of (entries_of text)
