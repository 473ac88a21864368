-- How each rule is told: the row of its number and of its word (own).
use Rattle.std.specs.Prelude.{ℕ, List, codes}
use Rattle.dg_model.specs.declared.rule.Rule.{Rule}

-- a rule's number, and what it is about
pub record RuleRow : Type 0 where
  pub number : ℕ
  pub word : List ℕ

-- a row
abbrev pub row : ℕ → List ℕ → RuleRow
row number word = record { number = number; word = word }

-- the row of a rule
abbrev pub rule_row : Rule → RuleRow
rule_row Rule.Structure = row 1 (codes "structure")
rule_row Rule.Library = row 2 (codes "library")
rule_row Rule.Parameter = row 3 (codes "parameter")
rule_row Rule.Wiring = row 4 (codes "wiring")
rule_row Rule.Enable = row 5 (codes "enable")
rule_row Rule.Dimension = row 6 (codes "dimension")
rule_row Rule.Type = row 7 (codes "type")
rule_row Rule.Rate = row 8 (codes "rate")
rule_row Rule.Loop = row 9 (codes "loop")
rule_row Rule.Plan = row 10 (codes "plan")
rule_row Rule.Latency = row 11 (codes "latency")
rule_row Rule.Budget = row 12 (codes "budget")
rule_row Rule.Size = row 13 (codes "size")
rule_row Rule.Stream = row 14 (codes "stream")

-- a rule's number, 1 to 14
abbrev pub rule_number : Rule → ℕ
rule_number rule = (rule_row rule).number

-- what a rule is about, in a word
abbrev pub rule_word : Rule → List ℕ
rule_word rule = (rule_row rule).word
