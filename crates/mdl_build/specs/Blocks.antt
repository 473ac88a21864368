-- The blocks of a tree: their names, where they stand, and what their parameters say (Simulink
-- reference, model files).
use Rattle.std.specs.Prelude.{◌≡◌, ℕ, zero, suc, ◌++◌, ◌==◌, ◌&&◌, Bool, false, List, [], ◌∷◌, Option, Some, None, position, codes, if◌then◌else◌}
use Rattle.std.specs.List.{list_any}
use Rattle.std.specs.Option.{unwrap_or}
use Rattle.dg_model.specs.Naming.{escaped}
use Rattle.mdl_text.specs.declared.tree.Item.{Item}
use Rattle.mdl_build.specs.declared.library.BlockType.{BlockType}
use Rattle.mdl_build.specs.declared.library.BlockType.TheVariants.{EnablePort}
use Rattle.mdl_build.specs.declared.parts.Standing.{Standing}
use Rattle.mdl_build.specs.declared.roles.Role.{Role}
use Rattle.mdl_build.specs.declared.roles.Role.TheVariants.{Other, Model, System, Block, SubSystem, Filter, Branch, Defaults, TypeDefaults}
use Rattle.mdl_build.specs.declared.settings.Setting.{Setting}
use Rattle.mdl_build.specs.declared.settings.Settings.{Settings}
use Rattle.mdl_build.specs.Library.{ParameterRow, parameters_of, type_name}
use Rattle.mdl_build.specs.Lookup.{text_of}
use Rattle.mdl_build.specs.Roles.{role_of, blocks_of, says}
use Rattle.mdl_build.specs.Sections.{value_of, holder_of, depth_at}
use Rattle.mdl_build.specs.Settings.{ReadsAs, unset, with_setting}

-- ---- names

-- the block at a place has this name in the System at another
abbrev pub is_named_in : List Item → ℕ → List ℕ → ℕ → Bool
is_named_in items system name place =
    in_system (holder_of items place) && says items place (codes "Name") name where
      in_system : Option ℕ → Bool
      in_system None = false
      in_system (Some holder) = holder == system

-- the number of the first block of this name in a System
abbrev pub number_of : List Item → ℕ → List ℕ → Option ℕ
number_of items system name = position (is_named_in items system name) (blocks_of items)

-- ---- where a block stands

-- the place, where that is a subsystem
abbrev pub if_subsystem : ℕ → Role → Option ℕ
if_subsystem place Other = None
if_subsystem place Model = None
if_subsystem place (System level) = None
if_subsystem place (Block level) = None
if_subsystem place (SubSystem level) = Some place
if_subsystem place (Filter level) = None
if_subsystem place (Branch line) = None
if_subsystem place Defaults = None
if_subsystem place (TypeDefaults section) = None

-- a function of a place, where there is one
abbrev pub at : {A : Type 0} → A → (ℕ → A) → Option ℕ → A
at other f None = other
at other f (Some place) = f place

-- the subsystem whose System holds the block at a place; none in the root
abbrev pub parent_of : List Item → ℕ → Option ℕ
parent_of items place =
    at None (λ system. at None (λ holder. if_subsystem holder (role_of items holder))
    (holder_of items system)) (holder_of items place)

-- the number of a block
abbrev pub number_at : List Item → ℕ → ℕ
number_at items place = unwrap_or (position (λ other. other == place) (blocks_of items)) 0

-- the block at a place is of this type
abbrev pub is_of : List Item → BlockType → ℕ → Bool
is_of items block_type place = says items place (codes "BlockType") (type_name block_type)

-- an EnablePort stands in the System at a place
abbrev pub has_enable : List Item → ℕ → Bool
has_enable items system =
    list_any (λ place. at false (λ holder. holder == system) (holder_of items place)
    && is_of items EnablePort place) (blocks_of items)

-- where a block stands
abbrev pub standing_in : List Item → Option ℕ → Option ℕ → Standing
standing_in items None system = Standing.Root
standing_in items (Some parent) None = Standing.Root
standing_in items (Some parent) (Some system) =
    if has_enable items system then Standing.Enabled else Standing.Plain

abbrev pub standing_of : List Item → ℕ → Standing
standing_of items place = standing_in items (parent_of items place) (holder_of items place)

-- ---- paths

-- the name of a block in a path; one that it lacks is empty
abbrev pub path_name : Option (List ℕ) → List ℕ
path_name None = []
path_name (Some name) = escaped name

-- the names from the root to the block of this depth at a place, joined by `/`
abbrev pub path_at : List Item → ℕ → ℕ → List ℕ
path_at items zero place = path_name (value_of items place (codes "Name"))
path_at items (suc zero) place = path_name (value_of items place (codes "Name"))
path_at items (suc (suc depth)) place =
    at [] (λ parent. path_at items depth parent ++ codes "/") (parent_of items place)
    ++ path_name (value_of items place (codes "Name"))

-- the path of the block at a place
abbrev pub path_of : List Item → ℕ → List ℕ
path_of items place = path_at items (depth_at items place) place

-- ---- parameters

-- the text of the first of these parameters of the block at a place; none is empty
abbrev pub first_text : List Item → BlockType → ℕ → List ParameterRow → List ℕ
first_text items block_type place [] = []
first_text items block_type place (parameter ∷ parameters) = text_of items block_type place parameter

-- a parameter of the block at a place says this
abbrev pub IsRead : List Item → BlockType → ℕ → ParameterRow → Setting → Type 0
IsRead items block_type place parameter setting =
    ReadsAs (first_text items block_type place (parameters_of block_type)) parameter.reader
    parameter.default
    (text_of items block_type place parameter) setting

-- it says something
abbrev pub IsReadable : List Item → BlockType → ℕ → ParameterRow → Type 0
IsReadable items block_type place parameter =
    (setting : Setting) × IsRead items block_type place parameter setting

-- what these parameters say, put in place one after the other
abbrev pub AreRead : List Item → BlockType → ℕ → List ParameterRow → Settings → Settings → Type 0
AreRead items block_type place [] before after = after ≡ before
AreRead items block_type place (parameter ∷ parameters) before after =
    (setting : Setting) × IsRead items block_type place parameter setting
    × AreRead items block_type place parameters (with_setting before setting) after

-- what all parameters of the block at a place say
abbrev pub HasSettings : List Item → BlockType → ℕ → Settings → Type 0
HasSettings items block_type place settings =
    AreRead items block_type place (parameters_of block_type) unset settings
