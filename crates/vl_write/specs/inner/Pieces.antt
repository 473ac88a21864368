-- The pieces of items that are spelled apart (own).
use Rattle.std.specs.Prelude.{◌≡◌, ℕ, ◌*◌, List, ◌++◌, take, drop, IfOk, Result, Vec}
use Rattle.std.specs.Global.{Global}
use Rattle.std.specs.List.{flat_map}
use Rattle.fx_io.specs.declared.fault.OutOfMemory.{OutOfMemory}
use Rattle.vl_ast.specs.Spelling.{item_text}
use Rattle.vl_ast.specs.declared.modules.ModItem.{ModItem}

-- the items of the piece with this number
abbrev pub piece_of : List ModItem → ℕ → List ModItem
piece_of items piece = take 32 (drop (piece * 32) items)

-- the lines of the piece with this number
abbrev pub piece_text : List ModItem → ℕ → List ℕ
piece_text items piece = flat_map item_text (piece_of items piece)

-- the text stands at the end of what was there, unless memory was wanting
abbrev pub Adds : List ℕ → Result (Vec ℕ Global) OutOfMemory → Result (Vec ℕ Global) OutOfMemory
    → Type 0
Adds text before after =
    (begun : List ℕ) → IfOk before (λ lines. lines.items ≡ begun)
    → IfOk after (λ lines. lines.items ≡ begun ++ text)
