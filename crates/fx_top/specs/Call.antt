-- What a call finds at the shelf, the first of the files that it can't have whole, and what it does
-- to a stream (own).
use Rattle.std.specs.Prelude.{◌≡◌, ℕ, List, Option, take, nat_lt, if◌then◌else◌, [], ◌∷◌, length, Some, None}
use Rattle.fx_io.specs.Cause.{Rose}
use Rattle.fx_io.specs.Shelf.{Told}
use Rattle.fx_io.specs.Sink.{also_took}

-- the shelf in a call: what it tells of each name, whether it is steady, and whether in the call it
-- failed or met a file above the limit
pub record Files : Type 1 where
  pub held : List ℕ → Told
  pub steady : Type 0
  pub failed : Type 0
  pub met_overlong : Type 0

-- a stream in a call: what it had taken before and has taken now, and whether it failed in the call
pub record Stream : Type 1 where
  pub before : Option (List ℕ)
  pub now : Option (List ℕ)
  pub failed : Type 0

-- from the ghost members of a shelf, and the shelf before and after
abbrev pub files_in : {S : Type 0} → (S → List ℕ → Told) → (S → Type 0) → (S → ℕ) → (S → ℕ) → S → S
    → Files
files_in held steady faults overlong old new = record {
  held = held old;
  steady = steady old;
  failed = Rose (faults old) (faults new);
  met_overlong = Rose (overlong old) (overlong new);
}

-- from the ghost members of a sink, and the sink before and after
abbrev pub stream_in : {K : Type 0} → (K → Option (List ℕ)) → (K → ℕ) → K → K → Stream
stream_in taken faults old new = record {
  before = taken old;
  now = taken new;
  failed = Rose (faults old) (faults new);
}

-- the stream took nothing in the call
abbrev pub IsUntouched : Stream → Type 0
IsUntouched stream = stream.now ≡ stream.before

-- the stream took the bytes, or a prefix of them where it failed
pub record Said (stream : Stream) (bytes : List ℕ) : Type 0 where
  pub prefix : (count : ℕ) × (stream.now ≡ also_took stream.before (take count bytes))
  pub whole : (stream.failed → ⊥) → stream.now ≡ also_took stream.before bytes

-- how many bytes a file has at most (own)
abbrev pub file_limit : ℕ
file_limit = 16777216

-- a file is absent, or has too many bytes
pub data Trouble : Type 0 where
  Absent : (file : List ℕ) → Trouble
  Overlong : (file : List ℕ) → (length : ℕ) → Trouble

-- the trouble with a file, if there is some, and else that of the files after it
abbrev pub trouble_or : List ℕ → Told → Option Trouble → Option Trouble
trouble_or file None later = later
trouble_or file (Some None) later = Some (Absent file)
trouble_or file (Some (Some bytes)) later = if nat_lt file_limit (length bytes)
    then Some (Overlong file (length bytes)) else later

-- the first trouble with the files in their order
abbrev pub first_trouble : (List ℕ → Told) → List (List ℕ) → Option Trouble
first_trouble held [] = None
first_trouble held (file ∷ files) = trouble_or file (held file) (first_trouble held files)
