-- The state of a relaxation, as lists, and what it keeps (own).
use Rattle.std.specs.Prelude.{◌≡◌, ◌⊎◌, ℕ, ◌+◌, ◌-◌, ◌≤◌, ◌<◌, nat_lt, Bool, true, false, if◌then◌else◌, List, [], ◌∷◌, ◌++◌, length, replicate, Option, Some, None, slice_get, slice_set, slice_index_or}
use Rattle.std.specs.List.{sum_by}
use Rattle.fx_io.specs.Rows.{row_at}
use Rattle.hw_arcs.specs.declared.arc.Arc.{Arc}
use Rattle.hw_arcs.specs.declared.relaxing.Relaxing.{Relaxing}
use Rattle.hw_arcs.specs.Latencies.{latency_at, IsFeasible}
use Rattle.hw_arcs.specs.inner.Parts.{awaited}
use Rattle.hw_arcs.specs.Found.{IsIn, AreKnown, most_joined_blocks}
use Rattle.hw_arcs.specs.declared.relaxing.Step.{Step}
use Rattle.hw_arcs.specs.declared.relaxing.Step.TheVariants.{Done, Settled, Above}

-- latencies so far, the arc that gave each, the blocks whose arcs are to be looked at, and these in
-- a queue
pub record State : Type 0 where
  pub lat : List ℕ
  pub tight : List (Option ℕ)
  pub pending : List Bool
  pub queue : List ℕ

abbrev pub seen : Relaxing → State
seen state =
    record {
      lat = state.lat.items;
      tight = state.tight.items;
      pending = state.pending.items;
      queue = awaited state.queue;
    }

-- what an arc asks of the latency of its end
abbrev pub label_of : List ℕ → Arc → ℕ
label_of lat arc = (latency_at lat arc.from + arc.gain) - arc.slack

-- a block is to be looked at
abbrev pub is_pending : List Bool → ℕ → Bool
is_pending pending block = slice_index_or pending block false

-- the end of an arc takes what it asks
abbrev pub taken : State → Arc → ℕ → State
taken s arc number = record {
  lat = slice_set s.lat arc.to (label_of s.lat arc);
  tight = slice_set s.tight arc.to (Some number);
  pending = slice_set s.pending arc.to true;
  queue = if is_pending s.pending arc.to then s.queue else s.queue ++ arc.to ∷ [];
}

-- the same where it asks for more than the end has
abbrev pub relaxed : State → Arc → ℕ → State
relaxed s arc number =
    if nat_lt (latency_at s.lat arc.to) (label_of s.lat arc) then taken s arc number else s

-- an arc gave a block its latency: since then its source has at most come later, and where it was
-- given one after the block, it has
pub record IsPulled (arcs : List Arc) (lat : List ℕ) (time : ℕ → ℕ)
    (block number : ℕ) : Type 0 where
  pub arc : Arc
  pub at : slice_get arcs number ≡ Some arc
  pub counts : arc.counts ≡ true
  pub ends : arc.to ≡ block
  pub weak : latency_at lat block + arc.slack ≤ latency_at lat arc.from + arc.gain
  pub strict : time block ≤ time arc.from
      → latency_at lat block + arc.slack < latency_at lat arc.from + arc.gain
  pub above : 0 < latency_at lat block

-- each latency was given by an arc, and is no more than any list has that keeps the arcs; `time`
-- says in which order they were given
pub record AreLabels (arcs : List Arc) (lat : List ℕ) (tight : List (Option ℕ)) : Type 0 where
  pub size : length tight ≡ length lat
  pub time : ℕ → ℕ
  pub now : ℕ
  pub past : (block : ℕ) → time block < now
  pub none : (block : ℕ) → slice_get tight block ≡ Some None → latency_at lat block ≡ 0
  pub some : (block number : ℕ) → slice_get tight block ≡ Some (Some number)
      → IsPulled arcs lat time block number
  pub least : (other : List ℕ) → IsFeasible arcs other → (block : ℕ)
      → latency_at lat block ≤ latency_at other block

-- between two steps
pub record IsState (arcs : List Arc) (count : ℕ) (s : State) : Type 0 where
  pub size : length s.lat ≡ count
  pub pending : length s.pending ≡ count
  pub labels : AreLabels arcs s.lat s.tight
  pub queued : (block : ℕ) → is_pending s.pending block ≡ true → IsIn s.queue block
  pub inside : (place block : ℕ) → slice_get s.queue place ≡ Some block → block < count

-- every arc that counts is kept, is to be looked at with its source, or stands in a list of those
-- that are left
pub record AreSettled (arcs : List Arc) (s : State) (left : List ℕ) : Type 0 where
  pub settled : (number : ℕ) (arc : Arc) → slice_get arcs number ≡ Some arc → arc.counts ≡ true
      → (latency_at s.lat arc.from + arc.gain ≤ latency_at s.lat arc.to + arc.slack)
      ⊎ ((is_pending s.pending arc.from ≡ true) ⊎ IsIn left number)

-- no latency is above a limit
pub record AreWithin (limit : ℕ) (s : State) : Type 0 where
  pub within : (block : ℕ) → latency_at s.lat block ≤ limit

-- how far latencies can still rise, and the blocks to be looked at
abbrev pub work_of : ℕ → State → ℕ
work_of limit s = sum_by (λ label. limit - label) s.lat + length s.queue

-- numbers of arcs that count
pub record AreCounted (arcs : List Arc) (row : List ℕ) : Type 0 where
  pub counted : (place number : ℕ) → slice_get row place ≡ Some number → (arc : Arc)
      × (slice_get arcs number ≡ Some arc) × (arc.counts ≡ true)

-- by block, the arcs that lead from it and count
pub record AreRows (arcs : List Arc) (count : ℕ) (rows : List (List ℕ)) : Type 0 where
  pub size : length rows ≡ count
  pub counted : (block : ℕ) → AreCounted arcs (row_at rows block)
  pub whole : (number : ℕ) (arc : Arc) → slice_get arcs number ≡ Some arc → arc.counts ≡ true
      → IsIn (row_at rows arc.from) number

-- no limit is passed, and the row is settled; or a block's latency passes it
pub record IsSettledRow (arcs : List Arc) (limit : ℕ) (s after : State) : Type 0 where
  pub within : AreWithin limit after
  pub settled : AreSettled arcs after []
  pub work : work_of limit after ≤ work_of limit s

pub record IsAbove (limit : ℕ) (s : State) (block count : ℕ) : Type 0 where
  pub there : block < count
  pub above : limit < latency_at s.lat block

abbrev pub IsRowEnd : List Arc → ℕ → ℕ → State → State → Option ℕ → Type 0
IsRowEnd arcs limit count s after None = IsSettledRow arcs limit s after
IsRowEnd arcs limit count s after (Some block) = IsAbove limit after block count

-- ---- begun, and a step

abbrev pub begun : List ℕ → ℕ → State
begun order count =
    record {
      lat = replicate count 0;
      tight = replicate count None;
      pending = replicate count true;
      queue = order;
    }

-- a block is taken from the queue, and these are left
abbrev pub popped : State → ℕ → List ℕ → State
popped s block rest =
    record {
      lat = s.lat;
      tight = s.tight;
      pending = slice_set s.pending block false;
      queue = rest;
    }

-- a step: nothing is left to do, or less
pub record IsStepOn (arcs : List Arc) (count limit : ℕ) (s after : State) (block : ℕ) : Type 0 where
  pub there : block < count
  pub within : AreWithin limit after
  pub settled : AreSettled arcs after []
  pub work : work_of limit after < work_of limit s

abbrev pub IsStepEnd : List Arc → ℕ → ℕ → State → State → Step → Type 0
IsStepEnd arcs count limit s after Done = IsFeasible arcs after.lat
IsStepEnd arcs count limit s after (Settled block) = IsStepOn arcs count limit s after block
IsStepEnd arcs count limit s after (Above block) = IsAbove limit after block count

-- what the loop over steps keeps
pub record IsRelaxing (arcs : List Arc) (count limit : ℕ) (s : State) : Type 0 where
  pub size : length s.lat ≡ count
  pub state : IsState arcs count s
  pub within : AreWithin limit s
  pub settled : AreSettled arcs s []

-- from the block a way back along the arcs that gave the latencies can be walked
pub record CanGoBack (arcs : List Arc) (s : State) (block : ℕ) : Type 0 where
  pub known : AreKnown arcs (length s.lat)
  pub few : length s.lat ≤ most_joined_blocks
  pub state : IsState arcs (length s.lat) s
  pub there : block < length s.lat

-- ---- rows

-- the arcs before one are in their rows
pub record AreRowsOf (arcs : List Arc) (count done : ℕ) (rows : List (List ℕ)) : Type 0 where
  pub size : length rows ≡ count
  pub counted : (block : ℕ) → AreCounted arcs (row_at rows block)
  pub whole : (number : ℕ) (arc : Arc) → number < done → slice_get arcs number ≡ Some arc
      → arc.counts ≡ true → IsIn (row_at rows arc.from) number
