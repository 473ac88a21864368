-- Declared periods as whole multiples of the base period.
use Rattle.std.proofs.Common.{◌≡◌, ℕ, ◌+◌, ◌/◌, ◌<◌, [], ◌∷◌, ◌++◌, map, take, get_or, Option, Some, refl, sym, ap, subst, ◌∙◌}
use Rattle.std.specs.Prelude.{All, slice_get}
use Rattle.std.proofs.lemmas.List.{map-append, take_more}
use Rattle.std.proofs.lemmas.Option.{slice_get_within, get_or_from_slice_get}
use Rattle.std.proofs.Math.Nat.{mul-div_cancel}
use Rattle.fx_type.specs.declared.decimal.Decimal.{Decimal}
use Rattle.dg_model.specs.declared.diagram.Diagram.{Diagram}
use Rattle.dg_model.specs.declared.diagram.Block.{Block}
use Rattle.dg_model.specs.declared.diagram.PeriodSpec.{PeriodSpec}
use Rattle.dg_model.specs.declared.diagram.PeriodSpec.TheVariants.{Inherit, Constant as NeverChanges, Every}
use Rattle.dg_model.specs.declared.kind.Kind.{Kind}
use Rattle.dg_model.specs.declared.kind.Kind.TheVariants.{Ground, Mux, Demux, RateTransition, EnableTest, Terminator}
use Rattle.dg_model.specs.KindRow.{IsPeriod}
use Rattle.dg_model.specs.Library.{row_of}
use Rattle.dg_model.specs.Periods.{Period, Periods, base_units, first_period, units_of}
use Rattle.dg_model.specs.Rate.{KeepsDeclared}
use Rattle.dg_model.specs.Wired.{IsWired}
use Rattle.dg_rates.specs.inner.Above.{IsAbove, KeepsIn, first_in}
use Rattle.dg_rates.specs.inner.Units.{IsTimes}

pub times_are : (units base times : ℕ) → 0 < base → IsTimes units base times → units / base ≡ times
times_are units base times some t = ap (λ n. n / base) t.whole ∙ mul-div_cancel times some

pub first_is : (diagram : Diagram) (base : ℕ) (kind : Kind) (period : PeriodSpec) → base ≡ base_units diagram → first_in base kind period ≡ first_period diagram kind period
first_is diagram base kind Inherit same = refl
first_is diagram base kind NeverChanges same = refl
first_is diagram base kind (Every period) same = ap (λ b. Some (Some (units_of period / b))) same

-- a period that a kind may declare is above 0
pub declared_above : (kind : Kind) (period : Decimal) → (row_of kind).parameters → (row_of kind).timing.may_be (Every period) → IsPeriod period
declared_above Ground period has is = absurd (cc is)
declared_above (Mux sizes) period has is = absurd (cc is)
declared_above (Demux sizes) period has is = absurd (cc is)
declared_above (RateTransition own initial) period has is = let same : own ≡ period = cc is in subst IsPeriod same (has.0)
declared_above EnableTest period has is = absurd (cc is)
declared_above Terminator period has is = absurd (cc is)
declared_above _ period has is = is

above : (kind : Kind) (period : PeriodSpec) (block : Block) → block.kind ≡ kind → block.period ≡ period → (row_of kind).parameters → (row_of kind).timing.may_be period → IsAbove block
above kind Inherit block kind_is period_is has may = rw period_is tt
above kind NeverChanges block kind_is period_is has may = rw period_is tt
above kind (Every period) block kind_is period_is has may = rw period_is (declared_above kind period has may).above

pub all_above : (diagram : Diagram) → IsWired diagram → All IsAbove diagram.blocks
all_above diagram wired k d inside =
    let block = get_or diagram.blocks k d in
    let readable = wired.blocks k d inside in
    above block.kind block.period block refl refl readable.parameters readable.period

pub first_more : (diagram : Diagram) (done : Periods) (place : ℕ) (block : Block) (known : Option Period) → slice_get diagram.blocks place ≡ Some block
    → done ≡ map (λ b. first_period diagram b.kind b.period) (take place diagram.blocks) → known ≡ first_period diagram block.kind block.period
    → done ++ known ∷ [] ≡ map (λ b. first_period diagram b.kind b.period) (take (place + 1) diagram.blocks)
first_more diagram done place block known at before is =
    let f : Block → Option Period = λ b. first_period diagram b.kind b.period in
    let last : get_or diagram.blocks place block ≡ block = get_or_from_slice_get diagram.blocks place block block at in
    let more = take_more diagram.blocks place block (slice_get_within diagram.blocks place block at) in
    ap (λ xs. xs ++ known ∷ []) before
    ∙ ap (λ k. map f (take place diagram.blocks) ++ k ∷ []) is
    ∙ sym (ap (map f) (more ∙ ap (λ b. take place diagram.blocks ++ b ∷ []) last) ∙ map-append f (take place diagram.blocks) (block ∷ []))

pub kept_in : (diagram : Diagram) (base place : ℕ) (block : Block) → base ≡ base_units diagram → KeepsIn base block → KeepsDeclared diagram place block
kept_in diagram base place block same keeps = subst (λ b. KeepsIn b block) same keeps

pub kept_out : (diagram : Diagram) (base place : ℕ) (block : Block) → base ≡ base_units diagram → KeepsDeclared diagram place block → KeepsIn base block
kept_out diagram base place block same keeps = subst (λ b. KeepsIn b block) (sym same) keeps
