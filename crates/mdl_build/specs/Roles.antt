-- What each item of a tree is: which Systems, blocks and lines count (Simulink reference, model
-- files; which count is own).
use Rattle.std.specs.Prelude.{ℕ, zero, suc, ◌==◌, Bool, true, false, is_some, List, Option, Some, None, map, filter, nat_lt, codes, bytes_eq, if◌then◌else◌}
use Rattle.mdl_text.specs.declared.tree.Item.{Item}
use Rattle.mdl_build.specs.declared.roles.Role.{Role}
use Rattle.mdl_build.specs.declared.roles.Role.TheVariants.{Other, Model, System, Block, SubSystem, Filter, Branch, Defaults, TypeDefaults}
use Rattle.mdl_build.specs.Sections.{places_of, is_section_at, depth_at, last_above, value_of}

-- the level below one; those past 65 aren't told apart
abbrev pub deeper : ℕ → ℕ
deeper level = if nat_lt level 65 then suc level else level

-- the parameter of the item at a place is this text
abbrev pub says : List Item → ℕ → List ℕ → List ℕ → Bool
says items place name text = same (value_of items place name) where
  same : Option (List ℕ) → Bool
  same None = false
  same (Some value) = bytes_eq value text

-- what an item that stands in no section is
abbrev pub outer_role : List Item → ℕ → Role
outer_role items place = if is_section_at items place (codes "Model") then Model else Other

-- what an item directly in the Model is
abbrev pub role_in_model : List Item → ℕ → Role
role_in_model items place =
    if is_section_at items place (codes "System") then System 1
    else (if is_section_at items place (codes "BlockParameterDefaults") then Defaults else Other)

-- what a block of a System of this level is, by its type
abbrev pub block_role : List Item → ℕ → ℕ → Role
block_role items level place =
    if says items place (codes "BlockType") (codes "SubSystem") then SubSystem level
    else (if says items place (codes "BlockType") (codes "DiscreteFir") then Filter level
    else Block level)

-- what a line is; one without a source is dropped with its branches
abbrev pub line_role : List Item → ℕ → Role
line_role items place =
    if is_some (value_of items place (codes "SrcBlock")) then Branch place else Other

-- what an item directly in a System of this level is
abbrev pub role_in_system : List Item → ℕ → ℕ → Role
role_in_system items level place =
    if is_section_at items place (codes "Block") then block_role items level place
    else (if is_section_at items place (codes "Line") then line_role items place else Other)

-- what an item is by the section that it stands directly in: that at `holder`, whose role this is
abbrev pub role_under : List Item → ℕ → Role → ℕ → Role
role_under items holder Other place = Other
role_under items holder Model place = role_in_model items place
role_under items holder (System level) place = role_in_system items level place
role_under items holder (Block level) place = Other
role_under items holder (SubSystem level) place =
    if is_section_at items place (codes "System") then System (deeper level) else Other
role_under items holder (Filter level) place = Other
role_under items holder (Branch line) place =
    if is_section_at items place (codes "Branch") then Branch line else Other
role_under items holder Defaults place =
    if is_section_at items place (codes "Block") then TypeDefaults holder else Other
role_under items holder (TypeDefaults section) place = Other

-- the same, where the last item that is less deep is one less deep
abbrev pub role_if : List Item → ℕ → (ℕ → Role) → ℕ → Option ℕ → Role
role_if items depth role place None = Other
role_if items depth role place (Some holder) =
    if depth_at items holder == depth then role_under items holder (role holder) place else Other

-- what the item of this depth at a place is
abbrev pub role_at : List Item → ℕ → ℕ → Role
role_at items zero place = outer_role items place
role_at items (suc depth) place =
    role_if items depth (role_at items depth) place (last_above items (suc depth) place)

-- what the item at a place is
abbrev pub role_of : List Item → ℕ → Role
role_of items place = role_at items (depth_at items place) place

-- the roles of all items
abbrev pub roles_of : List Item → List Role
roles_of items = map (role_of items) (places_of items)

-- a block
abbrev pub is_block : Role → Bool
is_block (Block level) = true
is_block (SubSystem level) = true
is_block (Filter level) = true
is_block _ = false

-- the places of the blocks in file order
abbrev pub blocks_of : List Item → List ℕ
blocks_of items = filter (λ place. is_block (role_of items place)) (places_of items)
