use Rattle.std.proofs.Common.{◌≡◌, ℕ, List, Bor, map, get_or}
use Rattle.mdl_build.specs.declared.library.BlockType.{BlockType}
use Rattle.mdl_build.specs.Library.{type_name, number_of, block_types}
use Rattle.mdl_build.proofs.TypeNumbers.{at_number}
use Rattle.mdl_build.proofs.type_names.type_name.Goals as goal

there : (table : List (Bor (List ℕ) × BlockType)) (past : Bor (List ℕ) × BlockType) (block_type : BlockType)
    (number : ℕ) → number ≡ number_of block_type
    → map (λ (entry : Bor (List ℕ) × BlockType). entry.0.now) table ≡ map type_name block_types
    → (get_or table number past).0.now ≡ type_name block_type
there table past block_type number is all = at_number (λ (entry : Bor (List ℕ) × BlockType). entry.0.now) type_name table all block_type number is past

pub returns : goal.returns
returns c = search (c.number_of-number.ensures, there)
