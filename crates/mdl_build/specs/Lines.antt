-- The lines of a tree, one for each of their ends (Simulink reference, `Line` and `Branch`; the
-- order is own).
use Rattle.std.specs.Prelude.{ℕ, ◌&&◌, nat_lt, nat_le, Bool, true, false, List, Option, Some, None, length, filter_map, codes, bytes_eq, if◌then◌else◌}
use Rattle.std.specs.List.{list_all}
use Rattle.std.specs.Char.{is_ascii_digit}
use Rattle.std.specs.Str.Parse.{digits_value}
use Rattle.dg_model.specs.Limits.{most_blocks}
use Rattle.dg_model.specs.declared.nested.NestedLine.{NestedLine}
use Rattle.dg_model.specs.declared.nested.Target.{Target}
use Rattle.mdl_text.specs.declared.tree.Item.{Item}
use Rattle.mdl_build.specs.declared.lines.Goal.{Goal}
use Rattle.mdl_build.specs.declared.lines.Source.{Source}
use Rattle.mdl_build.specs.declared.roles.Role.{Role}
use Rattle.mdl_build.specs.declared.roles.Role.TheVariants.{Branch}
use Rattle.mdl_build.specs.Blocks.{at, number_of}
use Rattle.mdl_build.specs.Roles.{role_of}
use Rattle.mdl_build.specs.Sections.{places_of, holder_of, value_of}

-- digits alone, whose number is one of a port
abbrev pub is_port : List ℕ → Bool
is_port text =
    nat_lt 0 (length text) && list_all is_ascii_digit text && nat_le 1 (digits_value 10 text)
    && nat_le (digits_value 10 text) most_blocks

-- the port of an end; one that is missing is 1
abbrev pub port_of : Option (List ℕ) → Option ℕ
port_of None = Some 1
port_of (Some text) = if is_port text then Some (digits_value 10 text) else None

-- where a line ends at its block
abbrev pub to_port : Option ℕ → Option Target
to_port None = None
to_port (Some port) = Some (Target.Port port)

abbrev pub target_of : Option (List ℕ) → Option Target
target_of None = Some (Target.Port 1)
target_of (Some text) =
    if bytes_eq text (codes "enable") then Some Target.Enable else to_port (port_of (Some text))

-- the block that an end of a line names in its System
abbrev pub named_by : List Item → ℕ → Option (List ℕ) → Option ℕ
named_by items line None = None
named_by items line (Some name) =
    at None (λ system. number_of items system name) (holder_of items line)

-- a source, of a block and a port that are there
abbrev pub source_from : Option ℕ → Option ℕ → Option Source
source_from None port = None
source_from (Some from) None = None
source_from (Some from) (Some port) = Some (record { from = from; port = port })

-- the source of a line
abbrev pub source_of : List Item → ℕ → Option Source
source_of items line =
    source_from (named_by items line (value_of items line (codes "SrcBlock")))
    (port_of (value_of items line (codes "SrcPort")))

-- a goal, of a block and a port that are there
abbrev pub goal_to : Option ℕ → Option Target → Goal
goal_to None target = Goal.Wrong
goal_to (Some to) None = Goal.Wrong
goal_to (Some to) (Some target) = Goal.To to target

abbrev pub goal_by : List Item → ℕ → Option (List ℕ) → Option (List ℕ) → Goal
goal_by items line None port = Goal.Nowhere
goal_by items line (Some name) port = goal_to (named_by items line (Some name)) (target_of port)

-- where the branch of a line at a place goes to
abbrev pub goal_of : List Item → ℕ → ℕ → Goal
goal_of items line place =
    goal_by items line (value_of items place (codes "DstBlock"))
    (value_of items place (codes "DstPort"))

-- source and end are well formed
abbrev pub is_joined : Option Source → Goal → Bool
is_joined None goal = false
is_joined (Some source) Goal.Nowhere = true
is_joined (Some source) (Goal.To to target) = true
is_joined (Some source) Goal.Wrong = false

-- the line from a source to an end
abbrev pub line_from : Option Source → Goal → Option NestedLine
line_from None goal = None
line_from (Some source) Goal.Nowhere = None
line_from (Some source) (Goal.To to target) =
    Some (record { from = source.from; from_port = source.port; to = to; target = target })
line_from (Some source) Goal.Wrong = None

-- the line that an item is a branch of
abbrev pub branch_of : Role → Option ℕ
branch_of (Branch line) = Some line
branch_of _ = None

-- the item at a place, if it is a branch of a line, is well formed
abbrev pub keeps_line : List Item → ℕ → Role → Bool
keeps_line items place role =
    at true (λ line. is_joined (source_of items line) (goal_of items line place)) (branch_of role)

-- the line to its end
abbrev pub line_at : List Item → ℕ → Role → Option NestedLine
line_at items place role =
    at None (λ line. line_from (source_of items line) (goal_of items line place)) (branch_of role)

-- the lines in the order of their ends
abbrev pub lines_of : List Item → List NestedLine
lines_of items = filter_map (λ place. line_at items place (role_of items place)) (places_of items)
