-- The values of parameters that the defaults and the table give.
use Rattle.std.specs.Prelude.{ℕ, List, Option, map}
use Rattle.std.specs.Option.{unwrap_or}
use Rattle.std.specs.Borrow.{Bor}
use Rattle.mdl_text.specs.declared.tree.Item.{Item}
use Rattle.mdl_build.specs.declared.library.BlockType.{BlockType}
use Rattle.mdl_build.specs.Library.{ParameterRow, parameters_of}
use Rattle.mdl_build.specs.Lookup.{value_in, fallback}

-- the bytes of texts that are kept by reference
abbrev pub contents_of : List (Bor (List ℕ)) → List (List ℕ)
contents_of texts = map (λ text. text.now) texts

-- the value of a parameter where the section of its type's defaults is known
abbrev pub fallback_in : List Item → Option ℕ → ParameterRow → List ℕ
fallback_in items section parameter =
    unwrap_or (value_in items section parameter.name) parameter.default

abbrev pub fallbacks_in : List Item → Option ℕ → List ParameterRow → List (List ℕ)
fallbacks_in items section parameters = map (fallback_in items section) parameters

-- the values of a type's parameters where a block has none
abbrev pub fallbacks_of : List Item → BlockType → List (List ℕ)
fallbacks_of items block_type = map (fallback items block_type) (parameters_of block_type)
