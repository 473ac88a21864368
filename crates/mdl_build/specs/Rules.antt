-- When a tree keeps the rules of structure, library and parameter, and how a broken one is told
-- (Simulink reference, model files; limits and places are own).
use Rattle.std.specs.Prelude.{◌≡◌, ℕ, ◌<◌, ◌==◌, ◌&&◌, ◌⊎◌, nat_le, nat_lt, not, Bool, true, false, List, [], Option, Some, None, is_some, is_none, option_map, count_by, find, slice_get, codes, if◌then◌else◌}
use Rattle.std.specs.List.{list_all}
use Rattle.std.specs.Option.{unwrap_or}
use Rattle.dg_model.specs.declared.fault.RuleFault.{RuleFault}
use Rattle.dg_model.specs.declared.fault.Shown.TheVariants.{Nothing, Word}
use Rattle.dg_model.specs.declared.rule.Rule.{Rule}
use Rattle.dg_model.specs.Faults.{fault_of}
use Rattle.dg_model.specs.Limits.{most_blocks}
use Rattle.mdl_text.specs.declared.tree.Item.{Item}
use Rattle.mdl_text.specs.declared.tree.Tree.{Tree}
use Rattle.mdl_build.specs.declared.library.BlockType.{BlockType}
use Rattle.mdl_build.specs.declared.roles.Role.{Role}
use Rattle.mdl_build.specs.declared.roles.Role.TheVariants.{Model, System, SubSystem, Filter}
use Rattle.mdl_build.specs.Blocks.{at, number_of, number_at, path_of, IsReadable}
use Rattle.mdl_build.specs.Extents.{AreExtents, total}
use Rattle.mdl_build.specs.Library.{ParameterRow, parameters_of, type_of_name}
use Rattle.mdl_build.specs.Lines.{keeps_line}
use Rattle.mdl_build.specs.Roles.{role_of, roles_of, blocks_of}
use Rattle.mdl_build.specs.Sections.{places_of, holder_of, value_of}

-- ---- structure: the model

abbrev pub is_model : Role → Bool
is_model Model = true
is_model _ = false

-- a System whose level has this property
abbrev pub is_system : (ℕ → Bool) → Role → Bool
is_system P (System level) = P level
is_system P _ = false

-- one Model, and one System directly in it, which is of the first level
abbrev pub has_root : List Role → Bool
has_root roles =
    (count_by is_model roles == 1) && (count_by (is_system (λ level. level == 1)) roles == 1)

-- no System is deeper than 64 levels; a filter stands for a subsystem, whose System counts too
abbrev pub is_shallow : Role → Bool
is_shallow (System level) = nat_lt level 65
is_shallow (Filter level) = nat_lt level 64
is_shallow _ = true

abbrev pub are_shallow : List Role → Bool
are_shallow roles = list_all is_shallow roles

-- the parts of the rule whose place is the model
abbrev pub keeps_model : List ℕ → List Item → Bool
keeps_model extents items =
    has_root (roles_of items) && are_shallow (roles_of items)
    && nat_le (total extents) most_blocks
    && list_all (λ place. keeps_line items place (role_of items place)) (places_of items)

-- ---- structure: each block

-- a System that counts stands directly in the section at `holder`
abbrev pub is_system_in : List Item → ℕ → ℕ → Bool
is_system_in items holder place =
    is_system (λ level. true) (role_of items place)
    && at false (λ other. other == holder) (holder_of items place)

-- a subsystem has one System
abbrev pub has_one_system : List Item → ℕ → Role → Bool
has_one_system items place (SubSystem level) =
    count_by (is_system_in items place) (places_of items) == 1
has_one_system items place _ = true

-- a number that is there is this one
abbrev pub is_number : ℕ → Option ℕ → Bool
is_number number None = false
is_number number (Some other) = other == number

-- it has a name, and is the first block that has this in its System
abbrev pub is_first_named : List Item → ℕ → ℕ → Option (List ℕ) → Bool
is_first_named items place system None = false
is_first_named items place system (Some name) =
    is_number (number_at items place) (number_of items system name)

abbrev pub has_own_name : List Item → ℕ → Bool
has_own_name items place =
    at false (λ system. is_first_named items place system (value_of items place (codes "Name")))
    (holder_of items place)

-- the parts whose place is the block
abbrev pub keeps_structure : List Item → ℕ → Bool
keeps_structure items place =
    is_some (value_of items place (codes "BlockType")) && has_own_name items place
    && has_one_system items place (role_of items place)

-- the rule's first fault, where the blocks stand for so many: the model stands before all blocks
abbrev pub structure_fault : List ℕ → List Item → Option RuleFault
structure_fault extents items =
    if keeps_model extents items
    then option_map (λ place. fault_of Rule.Structure (path_of items place) Nothing)
    (find (λ place. not (keeps_structure items place)) (blocks_of items))
    else Some (fault_of Rule.Structure [] Nothing)

-- ---- library

-- the type that a text names
abbrev pub type_named : Option (List ℕ) → Option BlockType
type_named None = None
type_named (Some name) = type_of_name name

-- the type of the block at a place
abbrev pub type_at : List Item → ℕ → Option BlockType
type_at items place = type_named (value_of items place (codes "BlockType"))

-- the first block of an unknown type, which is shown
abbrev pub library_fault : List Item → Option RuleFault
library_fault items =
    option_map
    (λ place. fault_of Rule.Library (path_of items place)
    (Word (unwrap_or (value_of items place (codes "BlockType")) [])))
    (find (λ place. is_none (type_at items place)) (blocks_of items))

-- ---- parameter

-- the first of these parameters of the block at a place that isn't read has this name
pub record IsFirstWrong (items : List Item) (block_type : BlockType) (place : ℕ)
    (parameters : List ParameterRow) (name : List ℕ) : Type 0 where
  pub number : ℕ
  pub parameter : ParameterRow
  pub there : slice_get parameters number ≡ Some parameter
  pub wrong : ¬ IsReadable items block_type place parameter
  pub before : (k : ℕ) (other : ParameterRow) → k < number → slice_get parameters k ≡ Some other
      → IsReadable items block_type place other
  pub name_is : name ≡ parameter.name

-- all parameters of the block at a place are read
abbrev pub AllRead : List Item → BlockType → ℕ → Type 0
AllRead items block_type place =
    (k : ℕ) (parameter : ParameterRow) → slice_get (parameters_of block_type) k ≡ Some parameter
    → IsReadable items block_type place parameter

-- the first block with a wrong parameter, whose name is shown
pub record IsWrongFirst (items : List Item) (fault : RuleFault) : Type 0 where
  pub number : ℕ
  pub place : ℕ
  pub there : slice_get (blocks_of items) number ≡ Some place
  pub before : (k other : ℕ) (block_type : BlockType) → k < number
      → slice_get (blocks_of items) k ≡ Some other → type_at items other ≡ Some block_type
      → AllRead items block_type other
  pub block_type : BlockType
  pub type_is : type_at items place ≡ Some block_type
  pub name : List ℕ
  pub wrong : IsFirstWrong items block_type place (parameters_of block_type) name
  pub fault_is : fault ≡ fault_of Rule.Parameter (path_of items place) (Word name)

-- ---- the first broken rule

-- the rule of structure finds this
pub record FindsStructure (tree : Tree) (found : Option RuleFault) : Type 0 where
  pub extents : List ℕ
  pub are_extents : AreExtents tree.items extents
  pub finds : structure_fault extents tree.items ≡ found

-- it finds a fault
abbrev pub BreaksStructure : Tree → RuleFault → Type 0
BreaksStructure tree fault = FindsStructure tree (Some fault)

-- the rule of library is broken, and that of structure isn't
pub record BreaksLibrary (tree : Tree) (fault : RuleFault) : Type 0 where
  pub structured : FindsStructure tree None
  pub broken : library_fault tree.items ≡ Some fault

-- the rule of parameter is broken, and those of structure and library aren't
pub record BreaksParameter (tree : Tree) (fault : RuleFault) : Type 0 where
  pub structured : FindsStructure tree None
  pub known : library_fault tree.items ≡ None
  pub broken : IsWrongFirst tree.items fault

-- the first of the three rules that is broken
abbrev pub Breaks : Tree → RuleFault → Type 0
Breaks tree fault =
    BreaksStructure tree fault ⊎ (BreaksLibrary tree fault ⊎ BreaksParameter tree fault)
