-- Which operations read a place, and which are to be worked out again.
use Rattle.std.specs.Prelude.{◌≡◌, ◌⊎◌, ℕ, ◌+◌, ◌/◌, ◌<◌, ◌≤◌, false, List, length, slice_index, slice_index_or}
use Rattle.vl_eval.specs.declared.marks.Marks.{Marks}
use Rattle.vl_eval.specs.declared.ops.Op.{Op}
use Rattle.vl_eval.specs.declared.readers.Link.{Link}
use Rattle.vl_eval.specs.declared.readers.Readers.{Readers}
use Rattle.vl_eval.specs.inner.Ops.{op_value}
use Rattle.vl_eval.specs.inner.Order.{each_of}

abbrev pub link_at : List Link → ℕ → Link
link_at links i = slice_index_or links i (record { reader = 0; rest = 0 })

-- a link or one behind it has the reader. A link is told by its number and 1, and 0 is the end
pub data IsChained (links : List Link) (reader : ℕ) : ℕ → Type 0 where
  Here : (i : ℕ) → i < length links → (link_at links i).reader ≡ reader
      → IsChained links reader (i + 1)
  Behind : (i : ℕ) → i < length links → IsChained links reader (link_at links i).rest
      → IsChained links reader (i + 1)

-- an operation is told to read a place
abbrev pub IsReader : Readers → ℕ → ℕ → Type 0
IsReader readers place reader =
    IsChained readers.links.items reader (slice_index readers.heads.items place)

-- chains go to links before, whose readers are below a count
pub record AreChains (count : ℕ) (readers : Readers) : Type 0 where
  pub heads : (place : ℕ) → slice_index readers.heads.items place ≤ length readers.links.items
  pub rests : (i : ℕ) → i < length readers.links.items → (link_at readers.links.items i).rest ≤ i
  pub low : (i : ℕ) → i < length readers.links.items
      → (link_at readers.links.items i).reader < count

-- a reader is added to a place, with so many links at most
pub record IsGrown (most : ℕ) (before after : Readers) : Type 0 where
  pub longer : length after.links.items ≤ length before.links.items + most
  pub wide : length after.heads.items ≡ length before.heads.items
  pub kept : (place reader : ℕ) → IsReader before place reader → IsReader after place reader

pub record IsGrownBy (most reader : ℕ) (before after : Readers) : Type 0 where
  pub grown : IsGrown most before after
  pub chains : (count : ℕ) → reader < count → AreChains count before → AreChains count after

-- each of the first so many operations is told to read what it reads
pub record AreReaders (base count : ℕ) (ops : List Op) (readers : Readers) : Type 0 where
  pub wide : length readers.heads.items ≡ base + length ops
  pub chains : AreChains (length ops) readers
  pub each : (k : ℕ) (d : Op) → k < count
      → each_of (λ place. IsReader readers place k) (slice_index_or ops k d)

-- an operation isn't marked, or its block isn't
abbrev pub IsUnmarked : Marks → ℕ → Type 0
IsUnmarked marks k =
    (slice_index_or marks.each.items k false ≡ false)
    ⊎ (slice_index_or marks.blocks.items (k / 64) false ≡ false)

-- there is a mark for each of so many operations, and one for each block
pub record HaveMarks (count : ℕ) (marks : Marks) : Type 0 where
  pub each : length marks.each.items ≡ count
  pub blocks : length marks.blocks.items ≡ count / 64 + 1

-- what is unmarked was so before
pub record AreAdded (before after : Marks) : Type 0 where
  pub each : length after.each.items ≡ length before.each.items
  pub blocks : length after.blocks.items ≡ length before.blocks.items
  pub kept : (k : ℕ) → IsUnmarked after k → IsUnmarked before k

-- the first so many operations and those that aren't marked have their values
pub record AreSpared (base done : ℕ) (ops : List Op) (marks : Marks)
    (values : List ℕ) : Type 0 where
  pub at : (k : ℕ) (d : Op) → k < length ops → (k < done) ⊎ IsUnmarked marks k
      → slice_index values (base + k) ≡ op_value (slice_index_or ops k d) (λ i. slice_index values i)
