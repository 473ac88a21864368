-- Where the value of a block's parameter is looked for: in the block's section, then in that of the
-- defaults of its type, then in the table (Simulink reference, model files; the table is own).
use Rattle.std.specs.Prelude.{ℕ, ◌==◌, ◌&&◌, Bool, true, false, List, Option, Some, None, position, codes, bytes_eq, if◌then◌else◌}
use Rattle.std.specs.List.{find}
use Rattle.std.specs.Option.{unwrap_or}
use Rattle.mdl_text.specs.declared.tree.Item.{Item}
use Rattle.mdl_build.specs.declared.library.BlockType.{BlockType}
use Rattle.mdl_build.specs.declared.roles.Role.{Role}
use Rattle.mdl_build.specs.declared.roles.Role.TheVariants.{Defaults, TypeDefaults}
use Rattle.mdl_build.specs.Library.{ParameterRow, type_name}
use Rattle.mdl_build.specs.Roles.{role_of, roles_of, says}
use Rattle.mdl_build.specs.Sections.{places_of, first_of, value_of}

-- a section of defaults
abbrev pub is_defaults : Role → Bool
is_defaults Defaults = true
is_defaults _ = false

-- the first of them
abbrev pub first_defaults : List Item → Option ℕ
first_defaults items = position is_defaults (roles_of items)

-- the defaults of one type in the section of all of them
abbrev pub is_in : Option ℕ → Role → Bool
is_in (Some section) (TypeDefaults holder) = holder == section
is_in _ _ = false

-- the item at a place has the defaults of this type, in the section of all of them
abbrev pub has_defaults : List Item → BlockType → ℕ → Bool
has_defaults items block_type place =
    is_in (first_defaults items) (role_of items place)
    && says items place (codes "BlockType") (type_name block_type)

-- the section that has the defaults of a type; of two for one type the first counts
abbrev pub defaults_of : List Item → BlockType → Option ℕ
defaults_of items block_type = find (has_defaults items block_type) (places_of items)

-- the value of a parameter in a section; `X0` is looked for after `InitialCondition`
abbrev pub value_under : List Item → ℕ → List ℕ → Option (List ℕ)
value_under items place name =
    first_of (value_of items place name)
    (if bytes_eq name (codes "InitialCondition") then value_of items place (codes "X0")
    else None)

-- the value that the defaults of a type have
abbrev pub value_in : List Item → Option ℕ → List ℕ → Option (List ℕ)
value_in items None name = None
value_in items (Some place) name = value_under items place name

-- the value of a parameter where a block of its type has none
abbrev pub fallback : List Item → BlockType → ParameterRow → List ℕ
fallback items block_type parameter =
    unwrap_or (value_in items (defaults_of items block_type) parameter.name) parameter.default

-- the value of a parameter of the block at a place
abbrev pub text_of : List Item → BlockType → ℕ → ParameterRow → List ℕ
text_of items block_type place parameter =
    unwrap_or (value_under items place parameter.name) (fallback items block_type parameter)
