-- What blocks keep from sample to sample, and what it means that values stand at a sample of a
-- table (own).
use Rattle.std.specs.Prelude.{◌≡◌, ℕ, suc, ◌<◌, ◌&&◌, Bool, true, false, ℤ, List, [], ◌∷◌, take, map, filter, Option, Some, None, slice_get}
use Rattle.dg_model.specs.declared.diagram.Diagram.{Diagram}
use Rattle.dg_model.specs.declared.diagram.Block.{Block}
use Rattle.dg_model.specs.declared.kind.Kind.{Kind}
use Rattle.dg_model.specs.declared.kind.Kind.TheVariants.{Delay, RateTransition, EnOut}
use Rattle.dg_model.specs.Signals.{Attributes, Table}
use Rattle.dg_model.specs.Hits.{is_hit, hits_before, is_enabled_at, counted_hits}
use Rattle.dg_model.specs.Wires.{period_into, value_into}
use Rattle.dg_model.specs.Equation.{is_enabled}
use Rattle.dg_model.specs.Solves.{IsShown}

-- ---- what a block keeps

-- the samples before t whose inputs a block of this kind keeps, the latest first
abbrev pub kept_hits : Diagram → Attributes → Table → ℕ → Option ℕ → Kind → ℕ → List ℕ
kept_hits diagram attributes table block enable (Delay delay initial reset) t =
    counted_hits table enable reset (attributes.period_at block) t
kept_hits diagram attributes table block enable (RateTransition period initial) t =
    hits_before (period_into diagram attributes block 1) t
kept_hits diagram attributes table block enable (EnOut reset initial) t =
    filter (is_enabled table enable) (hits_before (attributes.period_at block) t)
kept_hits diagram attributes table block enable _ t = []

-- how many it keeps
abbrev pub kept_count : Kind → ℕ
kept_count (Delay delay initial reset) = delay
kept_count (RateTransition period initial) = 2
kept_count (EnOut reset initial) = 1
kept_count _ = 0

-- the inputs at these samples
abbrev pub kept_values : Diagram → Attributes → Table → ℕ → Option ℕ → Kind → ℕ → ℕ → List ℤ
kept_values diagram attributes table block enable kind element t =
    take (kept_count kind)
    (map (value_into diagram attributes table block 1 element)
    (kept_hits diagram attributes table block enable kind t))

-- ---- what one sample does to them

-- the values stay, the input of the sample comes before them, or all are forgotten
pub data Move : Type 0 where
  Stay Count Forget : Move

abbrev pub count_if : Bool → Move
count_if true = Count
count_if false = Stay

-- a hit in a subsystem with reset states: enabled or not
abbrev pub count_or_forget : Bool → Bool → Move
count_or_forget false enabled = Stay
count_or_forget true true = Count
count_or_forget true false = Forget

abbrev pub delay_move : Table → Option ℕ → Bool → Bool → ℕ → Move
delay_move table None reset hit t = count_if hit
delay_move table (Some control) false hit t = count_if (hit && is_enabled_at table control t)
delay_move table (Some control) true hit t = count_or_forget hit (is_enabled_at table control t)

abbrev pub move_at : Diagram → Attributes → Table → ℕ → Option ℕ → Kind → ℕ → Move
move_at diagram attributes table block enable (Delay delay initial reset) t =
    delay_move table enable reset (is_hit (attributes.period_at block) t) t
move_at diagram attributes table block enable (RateTransition period initial) t =
    count_if (is_hit (period_into diagram attributes block 1) t)
move_at diagram attributes table block enable (EnOut reset initial) t =
    count_if (is_hit (attributes.period_at block) t && is_enabled table enable t)
move_at diagram attributes table block enable _ t = Stay

abbrev pub moved : Move → ℕ → ℤ → List ℤ → List ℤ
moved Stay count input kept = kept
moved Count count input kept = take count (input ∷ kept)
moved Forget count input kept = []

-- ---- the state

-- values by which a table is gone through: the entry last shown at each place, and what each
-- element keeps
pub record State : Type 0 where
  pub row : ℕ → ℕ → ℕ → ℤ
  pub kept : ℕ → ℕ → List ℤ

-- the state stands at sample t of the table
pub record StandsAt (diagram : Diagram) (attributes : Attributes) (table : Table) (state : State)
    (t : ℕ) : Type 0 where
  pub row : (block : ℕ) (b : Block) (port element s : ℕ)
      → IsShown diagram attributes block b port element → t ≡ suc s
      → state.row block port element ≡ table block port element s
  pub kept : (block : ℕ) (b : Block) (element : ℕ) → slice_get diagram.blocks block ≡ Some b
      → element < attributes.width_at block 1
      → state.kept block element
      ≡ kept_values diagram attributes table block b.enable b.kind element t
