-- The path of a block, as the code makes it from its end (own).
use Rattle.std.specs.Prelude.{ℕ, ◌++◌, List, [], codes}
use Rattle.mdl_text.specs.declared.tree.Item.{Item}
use Rattle.mdl_build.specs.Blocks.{at, parent_of, path_of}

-- what stands before the name of a block in its path
abbrev pub path_above : List Item → ℕ → List ℕ
path_above items place = at [] (λ parent. path_of items parent ++ codes "/") (parent_of items place)
