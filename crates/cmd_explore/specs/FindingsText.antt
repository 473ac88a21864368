-- The text of what is found of the plans of a range (own).
use Rattle.std.specs.Prelude.{ℕ, List, ◌++◌, codes, Option, Some, None, slice_get}
use Rattle.std.specs.Fmt.{decimal}
use Rattle.std.specs.List.{flat_map}
use Rattle.dg_model.specs.RuleTable.{rule_number, rule_word}
use Rattle.cmd_model.specs.RuleLine.{shown_text}
use Rattle.hw_explore.specs.declared.finding.Finding.{Finding}
use Rattle.hw_explore.specs.declared.finding.Judged.{Judged}
use Rattle.hw_explore.specs.declared.finding.Judged.TheVariants.{Good, Bad}
use Rattle.hw_explore.specs.declared.findings.Findings.{Findings}

-- a number behind its word
unfoldable pub named : List ℕ → ℕ → List ℕ
named word number = word ++ decimal number

-- a plan's clocks and multipliers
abbrev pub pair_text : Finding → List ℕ
pair_text finding =
    named (codes "cycles ") finding.cycles ++ named (codes " multipliers ") finding.multipliers

-- how many multiplications a good plan leaves, and how late
abbrev pub worth_text : ℕ → ℕ → List ℕ
worth_text owed latency =
    named (codes " multiplications ") owed ++ named (codes " latency ") latency

-- what it is worth: the paths are those of the diagram's blocks
abbrev pub verdict_text : List (List ℕ) → Judged → List ℕ
verdict_text paths (Good owed latency) = worth_text owed latency
verdict_text paths (Bad rule shown) =
    named (codes ": rule ") (rule_number rule) ++ codes " (" ++ rule_word rule ++ codes ")"
    ++ shown_text paths shown

unfoldable pub finding_line : List (List ℕ) → Finding → List ℕ
finding_line paths finding = pair_text finding ++ verdict_text paths finding.verdict ++ codes "\n"

-- the least plan
abbrev pub least_by : Option Finding → List ℕ
least_by None = codes "none"
least_by (Some finding) = pair_text finding

abbrev pub least_of : List Finding → Option ℕ → List ℕ
least_of rows None = codes "none"
least_of rows (Some place) = least_by (slice_get rows place)

-- a line for each plan, and one for the least
abbrev pub findings_text : List (List ℕ) → Findings → List ℕ
findings_text paths findings =
    flat_map (finding_line paths) findings.rows ++ codes "least "
    ++ least_of findings.rows findings.least ++ codes "\n"
