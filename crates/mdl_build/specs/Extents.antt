-- How many blocks each block of a tree stands for, and which number each has where those follow it
-- (own).
use Rattle.std.specs.Prelude.{◌≡◌, ℕ, ◌+◌, ◌⊎◌, List, [], ◌∷◌, length}
use Rattle.std.specs.List.{AllZip}
use Rattle.fir_block.specs.Expanded.{extent}
use Rattle.fx_type.specs.declared.decimal.Decimal.{Decimal}
use Rattle.mdl_text.specs.declared.tree.Item.{Item}
use Rattle.mdl_build.specs.declared.library.BlockType.TheVariants.{DiscreteFir}
use Rattle.mdl_build.specs.declared.roles.Role.{Role}
use Rattle.mdl_build.specs.declared.roles.Role.TheVariants.{Other, Model, System, Block, SubSystem, Filter, Branch, Defaults, TypeDefaults}
use Rattle.mdl_build.specs.Library.{taps}
use Rattle.mdl_build.specs.Lookup.{text_of}
use Rattle.mdl_build.specs.Roles.{role_of, blocks_of}
use Rattle.mdl_build.specs.Settings.{AreTaps}

-- a filter of these coefficients stands for the blocks of its subsystem and for that; one whose
-- coefficients can't be read counts as one
abbrev pub IsFilterExtent : List ℕ → ℕ → Type 0
IsFilterExtent text blocks =
    ((list : List Decimal) × AreTaps text list × (blocks ≡ extent (length list)))
    ⊎ (((list : List Decimal) → ¬ AreTaps text list) × (blocks ≡ 1))

-- what the item at a place stands for, by what it is
abbrev pub IsExtentOf : List Item → ℕ → Role → ℕ → Type 0
IsExtentOf items place (Filter level) blocks = IsFilterExtent (text_of items DiscreteFir place taps) blocks
IsExtentOf items place Other blocks = blocks ≡ 1
IsExtentOf items place Model blocks = blocks ≡ 1
IsExtentOf items place (System level) blocks = blocks ≡ 1
IsExtentOf items place (Block level) blocks = blocks ≡ 1
IsExtentOf items place (SubSystem level) blocks = blocks ≡ 1
IsExtentOf items place (Branch line) blocks = blocks ≡ 1
IsExtentOf items place Defaults blocks = blocks ≡ 1
IsExtentOf items place (TypeDefaults section) blocks = blocks ≡ 1

-- the same, where its role isn't given
abbrev pub IsExtentAt : List Item → ℕ → ℕ → Type 0
IsExtentAt items place blocks = IsExtentOf items place (role_of items place) blocks

-- of each block how many it stands for
abbrev pub AreExtents : List Item → List ℕ → Type 0
AreExtents items extents = AllZip (IsExtentAt items) (blocks_of items) extents

-- how many blocks there are
abbrev pub total : List ℕ → ℕ
total [] = 0
total (extent ∷ extents) = extent + total extents

-- the numbers of the blocks, of which the first has this one
abbrev pub starts : ℕ → List ℕ → List ℕ
starts number [] = []
starts number (extent ∷ extents) = number ∷ starts (number + extent) extents
