-- What filters in a diagram show (own).
use Rattle.std.specs.Prelude.{◌≡◌, ℕ, suc, ◌+◌, ◌<◌, Bool, List, ◌∷◌, length, Option}
use Rattle.dg_model.specs.declared.diagram.Diagram.{Diagram}
use Rattle.dg_model.specs.declared.diagram.Block.{Block}
use Rattle.dg_model.specs.Convolution.{Taps, IsFilter, IsHeld, tap, shown_to}
use Rattle.dg_model.specs.Hits.{Hits, counted_hits}
use Rattle.dg_model.specs.Signals.{Attributes, Stimulus, Table}
use Rattle.dg_model.specs.Solves.{Solves}
use Rattle.dg_model.specs.Wired.{IsWired}

-- of the counted hits all but the latest are those counted before it
pub record GoOn (table : Table) (enable : Option ℕ) (reset : Bool) (period : Option ℕ) (t h : ℕ)
    (more : List ℕ) : Type 0 where
  pub before : counted_hits table enable reset period h ≡ more
  pub earlier : h < t
  pub hit : Hits period h

abbrev pub CountedHitsGoOn : Type 0
CountedHitsGoOn =
    (table : Table) (enable : Option ℕ) (reset : Bool) (period : Option ℕ) (t h : ℕ)
    (more : List ℕ) → counted_hits table enable reset period t ≡ h ∷ more
    → GoOn table enable reset period t h more

-- the input of a filter and its delays have one width and one type, and the delays one period
pub record AreAlike (attributes : Attributes) (first : ℕ) (taps : Taps) : Type 0 where
  pub widths : (k : ℕ) → k < length taps.coefficients
      → attributes.width_at (tap first k) 1 ≡ attributes.width_at first 1
  pub types : (k : ℕ) → k < length taps.coefficients
      → attributes.type_at (tap first k) 1 ≡ attributes.type_at first 1
  pub periods : (k : ℕ) → suc k < length taps.coefficients
      → attributes.period_at (tap first (suc k)) ≡ attributes.period_at (tap first 1)

-- tap k of a filter holds at a hit the input at the k-th counted hit before it, or an initial value
abbrev pub TapsAreHeld : Type 0
TapsAreHeld =
    (diagram : Diagram) (attributes : Attributes) (stimulus : Stimulus) (n : ℕ) (table : Table)
    (first : ℕ) (taps : Taps) (sum : Block) (enable : Option ℕ) (reset : Bool) → IsWired diagram
    → Solves diagram attributes stimulus n table → IsFilter diagram first taps sum enable reset
    → AreAlike attributes first taps → (k element t : ℕ) → k < length taps.coefficients
    → element < attributes.width_at first 1 → t < n → Hits (attributes.period_at (tap first 1)) t
    → IsHeld attributes table first taps
    (counted_hits table enable reset (attributes.period_at (tap first 1)) t) element t k
    (shown_to attributes table (tap first k) element t)
