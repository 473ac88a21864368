-- The lines of a tree, as the code gathers them (own).
use Rattle.std.specs.Prelude.{ℕ, ◌==◌, Bool, List, [], ◌∷◌, Option, Some, None, map, filter_map, if◌then◌else◌}
use Rattle.std.specs.List.{list_all, range_with_len}
use Rattle.dg_model.specs.declared.nested.NestedLine.{NestedLine}
use Rattle.mdl_text.specs.declared.tree.Item.{Item}
use Rattle.mdl_build.specs.declared.lines.Source.{Source}
use Rattle.mdl_build.specs.Lines.{branch_of, source_of, keeps_line, line_at}
use Rattle.mdl_build.specs.Roles.{role_of}

-- the source of a line; other items have none
abbrev pub source_if : List Item → ℕ → Option ℕ → Option Source
source_if items place None = None
source_if items place (Some line) = if line == place then source_of items place else None

-- of each item before a place the source, where it is a line
abbrev pub sources_before : List Item → ℕ → List (Option Source)
sources_before items place =
    map (λ other. source_if items other (branch_of (role_of items other))) (range_with_len 0 place)

-- the branches before a place are well formed
abbrev pub are_joined_before : List Item → ℕ → Bool
are_joined_before items place =
    list_all (λ other. keeps_line items other (role_of items other)) (range_with_len 0 place)

-- the lines to ends before a place
abbrev pub lines_before : List Item → ℕ → List NestedLine
lines_before items place =
    filter_map (λ other. line_at items other (role_of items other)) (range_with_len 0 place)

-- the line, if there is one
abbrev pub line_list : Option NestedLine → List NestedLine
line_list None = []
line_list (Some line) = line ∷ []
