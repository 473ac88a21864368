-- When the periods of a diagram keep the rule of rates (Simulink reference, sample times and rate
-- transitions; the bounds and the order of parts are own).
use Rattle.std.specs.Prelude.{◌≡◌, ℕ, ◌*◌, ◌≤◌, ◌%◌, ◌==◌, ◌||◌, not, Bool, true, false, List, codes, find, Option, Some, None, MatchOption, ◌⊎◌, ⊤}
use Rattle.dg_model.specs.declared.diagram.Diagram.{Diagram}
use Rattle.dg_model.specs.declared.diagram.Block.{Block}
use Rattle.dg_model.specs.declared.fault.RuleFault.{RuleFault}
use Rattle.dg_model.specs.declared.fault.Shown.{Shown}
use Rattle.dg_model.specs.declared.fault.Shown.TheVariants.{Word, Periods as ShownPeriods}
use Rattle.dg_model.specs.declared.row.Reading.{Reading}
use Rattle.dg_model.specs.declared.rule.Rule.{Rule}
use Rattle.dg_model.specs.Library.{row_of}
use Rattle.dg_model.specs.Faults.{AllKeep, BreaksAt}
use Rattle.dg_model.specs.Limits.{most_times}
use Rattle.dg_model.specs.Periods.{units_of, declared_period, base_units, Period, drivers_of, sources_of, periods_of, period_at}

-- a declared period is a whole multiple of the base period, at most 4096 times
abbrev pub KeepsDeclared : Diagram → ℕ → Block → Type 0
KeepsDeclared diagram place block =
    MatchOption (declared_period block.period) ⊤
    (λ decimal. (times : ℕ) × (times ≤ most_times)
    × (units_of decimal ≡ times * base_units diagram))

-- a block that reads its input before where that is slower joins two periods
abbrev pub joins_periods : Reading → Bool
joins_periods Reading.Now = false
joins_periods Reading.Before = false
joins_periods Reading.BeforeIfSlower = true

-- a source of this period suits a block of that: where the block joins two periods one divides the
-- other, else it is the same, and a value that never changes suits every block
abbrev pub suits : Bool → Period → Period → Bool
suits joins own None = true
suits joins None (Some source) = false
suits true (Some own) (Some source) = ((own % source) == 0) || ((source % own) == 0)
suits false (Some own) (Some source) = own == source

-- the sources that a block's period is held against: a block whose value never changes isn't asked
-- for its control
abbrev pub asked_of : Diagram → Period → ℕ → Block → List ℕ
asked_of diagram None place block = drivers_of diagram place
asked_of diagram (Some own) place block = sources_of diagram place block

-- the first source that doesn't suit a block
abbrev pub disagreeing : Diagram → List Period → ℕ → Block → Option ℕ
disagreeing diagram periods place block =
    find (λ source. not (suits (joins_periods (row_of block.kind).timing.reads)
    (period_at periods place) (period_at periods source)))
    (asked_of diagram (period_at periods place) place block)

-- every source suits the block
abbrev pub KeepsPeriods : Diagram → List Period → ℕ → Block → Type 0
KeepsPeriods diagram periods place block = disagreeing diagram periods place block ≡ None

-- a period as it is shown
abbrev pub shown_period : Period → ℕ
shown_period None = 0
shown_period (Some period) = period

-- what is shown of a block: its period, and that of the first source that doesn't suit it
abbrev pub shown_periods : Diagram → List Period → ℕ → Block → Shown
shown_periods diagram periods place block =
    ShownPeriods (shown_period (period_at periods place))
    (shown_source (disagreeing diagram periods place block)) where
      shown_source : Option ℕ → ℕ
      shown_source None = 0
      shown_source (Some source) = shown_period (period_at periods source)

-- the rule is kept
pub record KeepsRates (diagram : Diagram) : Type 0 where
  pub declared : AllKeep diagram (KeepsDeclared diagram)
  pub periods : AllKeep diagram (KeepsPeriods diagram (periods_of diagram))

-- every declared period is one that can be, and the periods of two blocks disagree
pub record BreaksPeriods (diagram : Diagram) (fault : RuleFault) : Type 0 where
  pub declared : AllKeep diagram (KeepsDeclared diagram)
  pub periods : BreaksAt diagram Rule.Rate (KeepsPeriods diagram (periods_of diagram))
      (shown_periods diagram (periods_of diagram)) fault

-- the rule is broken, with this fault
abbrev pub BreaksRate : Diagram → RuleFault → Type 0
BreaksRate diagram fault =
    BreaksAt diagram Rule.Rate (KeepsDeclared diagram)
    (λ place block. Word (codes "declared")) fault ⊎ BreaksPeriods diagram fault
