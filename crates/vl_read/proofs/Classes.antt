-- A table of the bytes' classes.
use Rattle.std.proofs.Common.{◌≡◌, ◌<◌, ℕ, List, map, slice_index_or, ◌∙◌, ap, arith}
use Rattle.std.specs.List.{range_with_len}
use Rattle.std.proofs.lemmas.List.FromFn.{get_or-map-range_with_len}
use Rattle.vl_read.specs.declared.scan.ByteClass.{ByteClass}
use Rattle.vl_read.specs.declared.scan.ByteClass.TheVariants.{OfWord}
use Rattle.vl_read.specs.inner.Lexemes.{class_of}

-- a table of the class of each byte
pub classed : (table : List ByteClass) (byte : ℕ) → table ≡ map class_of (range_with_len 0 256) → byte < 256 → slice_index_or table byte OfWord ≡ class_of byte
classed table byte is_table below =
    ap (λ t. slice_index_or t byte OfWord) is_table
    ∙ get_or-map-range_with_len class_of 0 256 byte byte OfWord below (omega arith)
