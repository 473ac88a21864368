-- The shelf and the sink in memory, as tests use them (own).
use Rattle.std.specs.Prelude.{◌≡◌, ℕ, ◌+◌, ◌-◌, ◌^◌, ◌<◌, ◌≤◌, List, length, Option, None, Some, All, Contains, ◌⊎◌, min}
use Rattle.std.specs.List.{find}
use Rattle.std.specs.Option.{option_map}
use Rattle.std.specs.Str.{bytes_eq}
use Rattle.fx_io.specs.Cause.{counted}
use Rattle.fx_io.specs.Shelf.{Told}
use Rattle.io_memory.specs.declared.held_file.HeldFile.{HeldFile}

-- a shelf in memory: its files, the one added last first, and the numbers of the fetches that fail
pub record ShelfState : Type 0 where
  pub files : List HeldFile
  pub failing : List ℕ
  pub fetches : ℕ
  pub faults : ℕ
  pub overlong : ℕ

-- the bytes under a name: those that were added last
abbrev pub held_under : List HeldFile → List ℕ → Option (List ℕ)
held_under files name =
    option_map (λ file. file.bytes) (find (λ file. bytes_eq file.name name) files)

-- what a shelf in memory tells of a name: it always tells
abbrev pub told_of : ShelfState → List ℕ → Told
told_of shelf name = Some (held_under shelf.files name)

-- no later fetch fails by its number
abbrev pub IsSteady : ShelfState → Type 0
IsSteady shelf = All (λ number. number ≤ shelf.fetches) shelf.failing

-- the number of the next fetch is listed as failing; the count stands still at the end of 64 bits,
-- and then none is
abbrev pub FailsByNumber : ShelfState → Type 0
FailsByNumber shelf = (shelf.fetches < 2 ^ 64 - 1) × Contains shelf.failing (shelf.fetches + 1)

-- the next fetch of this name fails: by its number, or because nothing is held
abbrev pub FailsFetch : ShelfState → List ℕ → Type 0
FailsFetch shelf name = FailsByNumber shelf ⊎ (held_under shelf.files name ≡ None)

-- a sink in memory: what it took, the numbers of the puts that fail, its bounds, and its counts
pub record SinkState : Type 0 where
  pub taken : List ℕ
  pub failing : List ℕ
  pub piece : ℕ
  pub room : ℕ
  pub puts : ℕ
  pub faults : ℕ

-- the next put of a nonempty piece fails: by its number, or because no room is left
abbrev pub FailsNext : SinkState → Type 0
FailsNext sink = Contains sink.failing (counted sink.puts) ⊎ (sink.room ≤ length sink.taken)

-- the number of bytes that a put takes of a piece, where it does not fail
abbrev pub takes_of : SinkState → List ℕ → ℕ
takes_of sink bytes = min (min sink.piece (sink.room - length sink.taken)) (length bytes)

-- a sink in memory takes at least one byte of a nonempty piece, or fails
abbrev pub stalls_of : SinkState → ℕ
stalls_of sink = 0
