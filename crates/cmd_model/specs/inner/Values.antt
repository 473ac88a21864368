-- What stands behind the words of a line that tells a broken rule.
use Rattle.std.specs.Prelude.{ℕ, List}
use Rattle.std.specs.Fmt.{decimal, signed_decimal}
use Rattle.std.specs.List.{flat_map}
use Rattle.cmd_model.specs.declared.rule_lines.Value.{Value}
use Rattle.cmd_model.specs.declared.rule_lines.Value.TheVariants.{Bytes, Escaped, Place, Number, Signed, Period, Cycle}
use Rattle.cmd_model.specs.RuleLine.{cycle_text, period_text, place_text, quoted_byte}

-- its bytes; the paths are those of the diagram's blocks
abbrev pub value_text : List (List ℕ) → Value → List ℕ
value_text paths (Bytes bytes) = bytes.now
value_text paths (Escaped bytes) = flat_map quoted_byte bytes.now
value_text paths (Place path) = place_text path.now
value_text paths (Number number) = decimal number
value_text paths (Signed number) = signed_decimal number
value_text paths (Period period) = period_text period
value_text paths (Cycle numbers) = cycle_text paths numbers.now
