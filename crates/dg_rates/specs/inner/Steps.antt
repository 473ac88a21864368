-- What the code of the rounds of periods holds (own).
use Rattle.std.specs.Prelude.{ℕ, ◌&&◌, Bool, true, false, if◌then◌else◌, List, map, Option, Some, None, slice_index_or}
use Rattle.dg_model.specs.declared.diagram.Block.{Block}
use Rattle.dg_model.specs.declared.row.Inherited.{Inherited}
use Rattle.dg_model.specs.Library.{row_of}
use Rattle.dg_model.specs.Periods.{Period, Periods, are_unchanging, known_at, known_or, least_finite}
use Rattle.fx_io.specs.Rows.{row_at}

-- a block that so inherits may take the period of a value that never changes
abbrev pub is_of_sources : Inherited → Bool
is_of_sources Inherited.OfSources = true
is_of_sources Inherited.Moving = false
is_of_sources Inherited.Base = false
is_of_sources Inherited.Unchanging = false

-- which blocks may
abbrev pub all_rests : List Block → List Bool
all_rests blocks = map (λ block. is_of_sources (row_of block.kind).timing.inherits) blocks

-- what is known of these sources
abbrev pub known_of : Periods → List ℕ → Periods
known_of values sources = map (known_at values) sources

-- the period that a block without one takes
abbrev pub taken_by : Bool → Periods → Option Period
taken_by rests sources = by_least (least_finite sources) where
  by_least : Option ℕ → Option Period
  by_least (Some period) = Some (Some period)
  by_least None = if rests && are_unchanging sources then Some None else None

-- the period of a block after one more round
abbrev pub next_known : List Bool → List (List ℕ) → Periods → ℕ → Option Period
next_known rests sources values block =
    known_or (known_at values block)
    (taken_by (slice_index_or rests block false) (known_of values (row_at sources block)))
