-- The line that tells a broken rule, without the name of a file (own).
use Prim.Native.Char.{code}
use Rattle.std.specs.Prelude.{◌≡◌, ℕ, ◌/◌, ◌%◌, ◌==◌, ◌||◌, nat_lt, if◌then◌else◌, List, [], ◌∷◌, ◌++◌, codes, slice_index_or}
use Rattle.std.specs.Fmt.{decimal, signed_decimal}
use Rattle.std.specs.List.{flat_map}
use Rattle.dg_model.specs.declared.fault.RuleFault.{RuleFault}
use Rattle.dg_model.specs.declared.fault.Shown.{Shown}
use Rattle.dg_model.specs.declared.fault.Shown.TheVariants.{Nothing, Word, Periods, Cycle, Latency, Budget, Size}
use Rattle.dg_model.specs.RuleTable.{rule_number, rule_word}
use Rattle.cmd_model.specs.Model.{IsBrokenModel}

-- a digit of a number in base sixteen
abbrev pub hex_digit : ℕ → ℕ
hex_digit digit = slice_index_or (codes "0123456789abcdef") digit 0

-- a control byte is written by its number, so that none reaches a terminal
abbrev pub control_byte : ℕ → List ℕ
control_byte byte = code "\\" ∷ code "x" ∷ hex_digit (byte / 16) ∷ hex_digit (byte % 16) ∷ []

-- a byte of a name, as MDL writes it between quotes: `\n` for a newline, `\t` for a tab, and a
-- backslash before a quote or a backslash; a further control byte by its number
abbrev pub quoted_byte : ℕ → List ℕ
quoted_byte byte =
    if byte == code "\n" then codes "\\n"
    else (if byte == code "\t" then codes "\\t"
    else (if byte == code "\"" || byte == code "\\" then code "\\" ∷ byte ∷ []
    else (if nat_lt byte 32 || byte == 127 then control_byte byte
    else byte ∷ [])))

-- a path between quotes
abbrev pub quoted_path : List ℕ → List ℕ
quoted_path path = codes "\"" ++ flat_map quoted_byte path ++ codes "\""

-- the place of a broken rule; the empty path is the whole model
abbrev pub place_text : List ℕ → List ℕ
place_text [] = codes "model"
place_text (byte ∷ path) = quoted_path (byte ∷ path)

-- a period in base samples; 0 is a value that never changes
abbrev pub period_text : ℕ → List ℕ
period_text period = if period == 0 then codes "inf" else decimal period

-- blocks by their numbers, each behind a space
abbrev pub cycle_text : List (List ℕ) → List ℕ → List ℕ
cycle_text paths blocks =
    flat_map (λ block. codes " " ++ quoted_path (slice_index_or paths block [])) blocks

-- what is told of a broken rule beside its place
abbrev pub shown_text : List (List ℕ) → Shown → List ℕ
shown_text paths Nothing = []
shown_text paths (Word word) = codes ": " ++ flat_map quoted_byte word
shown_text paths (Periods own other) =
    codes ": periods " ++ period_text own ++ codes " " ++ period_text other
shown_text paths (Cycle blocks) = codes ": cycle" ++ cycle_text paths blocks
shown_text paths (Latency blocks total) =
    codes ": total " ++ signed_decimal total ++ codes " cycle" ++ cycle_text paths blocks
shown_text paths (Budget period need have) =
    codes ": period " ++ decimal period ++ codes " need " ++ decimal need ++ codes " have "
    ++ decimal have
shown_text paths (Size storage latency) =
    codes ": storage " ++ decimal storage ++ codes " latency " ++ decimal latency

-- the line; the paths are those of the diagram's blocks
abbrev pub rule_line : List (List ℕ) → RuleFault → List ℕ
rule_line paths fault =
    codes "rule " ++ decimal (rule_number fault.rule)
    ++ codes " (" ++ rule_word fault.rule ++ codes "): " ++ place_text fault.place
    ++ shown_text paths fault.shown ++ codes "\n"

-- the line tells the first rule that the model of these bytes breaks
pub record TellsRule (bytes line : List ℕ) : Type 0 where
  pub fault : RuleFault
  pub paths : List (List ℕ)
  pub broken : IsBrokenModel bytes fault paths
  pub line_is : line ≡ rule_line paths fault
