-- What the parameters of a block are read as (own).
use Rattle.std.specs.Prelude.{◌≡◌, ℕ, ◌<◌, List, drop, slice_get, Some}
use Rattle.mdl_text.specs.declared.tree.Item.{Item}
use Rattle.mdl_build.specs.declared.library.BlockType.{BlockType}
use Rattle.mdl_build.specs.declared.library.Parameter.{Parameter}
use Rattle.mdl_build.specs.declared.settings.Setting.{Setting}
use Rattle.mdl_build.specs.declared.settings.Settings.{Settings}
use Rattle.mdl_build.specs.Blocks.{HasSettings, AreRead, IsReadable}
use Rattle.mdl_build.specs.Library.{ParameterRow, row_of, parameters_of}
use Rattle.mdl_build.specs.Settings.{ReadsAs}

-- a parameter with this text is read as a setting, where the first one has the text `first`
abbrev pub IsReadAs : List ℕ → Parameter → List ℕ → Setting → Type 0
IsReadAs first parameter text =
    ReadsAs first (row_of parameter).reader (row_of parameter).default text

-- so many parameters are read, and these are the settings so far
pub record AreReadTo (items : List Item) (block_type : BlockType) (place number : ℕ)
    (settings : Settings) : Type 0 where
  pub rest : (after : Settings)
      → AreRead items block_type place (drop number (parameters_of block_type)) settings after
      → HasSettings items block_type place after
  pub readable : (k : ℕ) (other : ParameterRow) → k < number
      → slice_get (parameters_of block_type) k ≡ Some other
      → IsReadable items block_type place other
