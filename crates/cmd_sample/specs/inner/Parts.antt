-- What is put of each block of the chain (own).
use Rattle.std.specs.Prelude.{ℕ, List}
use Rattle.cmd_sample.specs.declared.chain.ChainKind.{ChainKind}
use Rattle.cmd_sample.specs.declared.modeling.Part.{Part}
use Rattle.cmd_sample.specs.declared.modeling.Part.TheVariants.{Block, Lines}
use Rattle.cmd_sample.specs.ModelText.{chain_text, chain_lines, kind_at}

-- a part of the block of a kind at a place
abbrev pub part_text : Part → ℕ → ChainKind → List ℕ
part_text Block = chain_text
part_text Lines = chain_lines

-- a part of the block at a place of the chain of so many
abbrev pub part_at : Part → ℕ → ℕ → List ℕ
part_at part count place = part_text part place (kind_at count place)
