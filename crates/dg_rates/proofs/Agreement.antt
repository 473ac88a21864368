-- The first source that doesn't suit a block is found among those that the block is asked for.
use Rattle.std.proofs.Common.{◌≡◌, ℕ, ◌-◌, ◌<◌, Bool, List, [], ◌∷◌, ◌++◌, length, take, Option, Some, None, refl, sym, ap, ◌∙◌, arith}
use Rattle.std.specs.Prelude.{All, IsSome, find, not, slice_get}
use Rattle.std.specs.Option.{option_to_list}
use Rattle.std.proofs.Math.Seq.{take-append_seam}
use Rattle.std.proofs.lemmas.List.{append-nil, length-append}
use Rattle.std.proofs.lemmas.List.Elements.{All-take}
use Rattle.dg_model.specs.declared.diagram.Diagram.{Diagram}
use Rattle.dg_model.specs.declared.diagram.Block.{Block}
use Rattle.dg_model.specs.declared.fault.RuleFault.{RuleFault}
use Rattle.dg_model.specs.declared.fault.Shown.TheVariants.{Periods as ShownPeriods}
use Rattle.dg_model.specs.declared.rule.Rule.{Rule}
use Rattle.dg_model.specs.Faults.{BreaksAt, fault_of}
use Rattle.dg_model.specs.Library.{row_of}
use Rattle.dg_model.specs.Periods.{Period, drivers_of, period_at, sources_of}
use Rattle.dg_model.specs.Rate.{KeepsPeriods, asked_of, disagreeing, joins_periods, shown_period, shown_periods, suits}
use Rattle.dg_rates.specs.inner.Sources.{asked_among}
use Rattle.dg_rates.proofs.FirstFault.{KeepBefore, breaks_at}

pub some_source : (drivers : List ℕ) (enable : Option ℕ) → IsSome enable → 0 < length (drivers ++ option_to_list enable)
some_source drivers None some = absurd (cc some)
some_source drivers (Some control) some = omega (arith, length-append drivers (control ∷ []))

all_but_last : (drivers : List ℕ) (control : ℕ) → take (length (drivers ++ control ∷ []) - 1) (drivers ++ control ∷ []) ≡ drivers
all_but_last drivers control =
    let whole : length (drivers ++ control ∷ []) - 1 ≡ length drivers = omega (arith, length-append drivers (control ∷ [])) in
    ap (λ n. take n (drivers ++ control ∷ [])) whole ∙ take-append_seam drivers (control ∷ [])

asked_is : (diagram : Diagram) (own : Period) (place : ℕ) (block : Block) (enable : Option ℕ) → block.enable ≡ enable
    → asked_among own enable (drivers_of diagram place ++ option_to_list enable) ≡ asked_of diagram own place block
asked_is diagram None place block None e = append-nil (drivers_of diagram place)
asked_is diagram None place block (Some control) e = all_but_last (drivers_of diagram place) control
asked_is diagram (Some own) place block enable e = ap (λ o. drivers_of diagram place ++ option_to_list o) (sym e)

pub found_is : (diagram : Diagram) (periods : List Period) (place : ℕ) (block : Block) (sources : List ℕ) (joins : Bool) (asked : List ℕ) (found : Option ℕ) → sources ≡ sources_of diagram place block
    → joins ≡ joins_periods (row_of block.kind).timing.reads
    → asked ≡ asked_among (period_at periods place) block.enable sources
    → found ≡ find (λ source. not (suits joins (period_at periods place) (period_at periods source))) asked
    → disagreeing diagram periods place block ≡ found
found_is diagram periods place block sources joins asked found sources_are joins_are asked_are is =
    let own = period_at periods place in
    let differs : Bool → ℕ → Bool = λ j source. not (suits j own (period_at periods source)) in
    sym (is
    ∙ ap (find (differs joins)) (asked_are ∙ ap (asked_among own block.enable) sources_are ∙ asked_is diagram own place block block.enable refl)
    ∙ ap (λ j. find (differs j) (asked_of diagram own place block)) joins_are)

pub all_asked : (P : ℕ → Type 0) (own : Period) (enable : Option ℕ) (sources : List ℕ) → All P sources → All P (asked_among own enable sources)
all_asked P None None sources all = all
all_asked P None (Some control) sources all = All-take P (length sources - 1) sources all
all_asked P (Some own) enable sources all = all

pub breaks_periods : (diagram : Diagram) (periods : List Period) (place : ℕ) (block : Block) (source : ℕ) (fault : RuleFault) → slice_get diagram.blocks place ≡ Some block
    → disagreeing diagram periods place block ≡ Some source → KeepBefore diagram (KeepsPeriods diagram periods) place
    → fault ≡ fault_of Rule.Rate block.path (ShownPeriods (shown_period (period_at periods place)) (shown_period (period_at periods source)))
    → BreaksAt diagram Rule.Rate (KeepsPeriods diagram periods) (shown_periods diagram periods) fault
breaks_periods diagram periods place block source fault at found before is =
    breaks_at diagram (KeepsPeriods diagram periods) (shown_periods diagram periods) place block fault at (λ keeps. absurd (cc (sym keeps ∙ found))) before (is ∙ shown)
  where
    shown : fault_of Rule.Rate block.path
        (ShownPeriods (shown_period (period_at periods place)) (shown_period (period_at periods source)))
        ≡ fault_of Rule.Rate block.path (shown_periods diagram periods place block)
    shown = rw found refl
