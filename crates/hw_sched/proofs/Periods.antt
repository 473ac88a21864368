-- Periods are above 0, and blocks whose values move on have one.
use Rattle.std.proofs.Common.{◌≡◌, ℕ, zero, ◌*◌, suc, ◌/◌, ◌<◌, ◌≤◌, min, Bool, true, false, List, [], ◌∷◌, length, map, refl, sym, ap, subst, ◌∙◌, inl, inr, arith}
use Rattle.std.specs.Prelude.{slice_get, Option, Some, None, if◌then◌else◌, ◌^◌, negsuc, ⊤}
use Rattle.std.specs.List.{filter_map, cons_option}
use Rattle.std.specs.Int.{int_gap}
use Rattle.std.proofs.Math.Nat.{one-le-pow, one-le-mul, mul-div_cancel}
use Rattle.std.proofs.lemmas.Bool.{false≢true, cases_lt}
use Rattle.std.proofs.lemmas.List.{get_or_past, length-map}
use Rattle.std.proofs.lemmas.Nat.{le-div}
use Rattle.std.proofs.lemmas.Option.{MatchOption-at_some, none-some, same_Some, slice_get_within, get_or_from_slice_get}
use Rattle.fx_type.specs.declared.decimal.Decimal.{Decimal}
use Rattle.dg_waves.specs.Rounds.{round}
use Rattle.dg_waves.proofs.WaveRounds.{round_at, length_after, length_round}
use Rattle.dg_model.specs.declared.diagram.Diagram.{Diagram}
use Rattle.dg_model.specs.declared.diagram.Block.{Block}
use Rattle.dg_model.specs.declared.diagram.PeriodSpec.{PeriodSpec}
use Rattle.dg_model.specs.declared.diagram.PeriodSpec.TheVariants.{Inherit, Constant as NeverChanges, Every}
use Rattle.dg_model.specs.declared.kind.Kind.{Kind}
use Rattle.dg_model.specs.declared.kind.Kind.TheVariants.{Inport, Outport, Delay, EnOut}
use Rattle.dg_model.specs.declared.row.Inherited.{Inherited}
use Rattle.dg_model.specs.KindRow.{IsPeriod}
use Rattle.dg_model.specs.Library.{row_of}
use Rattle.dg_model.specs.Readable.{IsReadable}
use Rattle.dg_model.specs.Periods.{Period, Periods, units_of, declared_period, least, multiple_of, known_or, known_at, finite, least_of, least_finite, are_unchanging, sources_of, taken_period}
use Rattle.dg_model.specs.Periods.{period_of_next, next_periods, first_inherited, first_period, first_periods, periods_after, or_one, period_at, base_units, periods_of}
use Rattle.dg_model.specs.Checked.{IsChecked}
use Rattle.dg_model.specs.Faults.{AllKeep}
use Rattle.dg_model.specs.Rate.{KeepsDeclared}
use Rattle.dg_model.specs.Wired.{IsWired}
use Rattle.hw_sched.specs.Laws.{PeriodsAreAbove, PeriodsAreShort, is_moving, MovingHavePeriods}
use Rattle.math_list.proofs.Places.{held}
use Rattle.dg_rates.proofs.BasePeriods.{declared_above}

-- a number that is there is above 0
abbrev pub IsAbove : Option ℕ → Type 0
IsAbove None = ⊤
IsAbove (Some n) = 0 < n

-- a number that is there is this one or below
abbrev IsLow : ℕ → Option ℕ → Type 0
IsLow n None = ⊥
IsLow n (Some low) = low ≤ n

-- ---- declared periods

units_above : (block : Block) (decimal : Decimal) → IsReadable block → declared_period block.period ≡ Some decimal → 0 < units_of decimal
units_above block decimal readable e = by block.period readable.period e
  where
    of_digits : IsPeriod decimal → 0 < units_of decimal
    of_digits is = let power = one-le-pow (int_gap (negsuc 35) decimal.exponent) 10 (omega arith) in let some =
        is.above in let more = one-le-mul {a = decimal.digits} {b = 10 ^ int_gap (negsuc 35) decimal.exponent}
        (omega (arith, some)) power in omega (arith, more)

    by : (period : PeriodSpec) → (row_of block.kind).timing.may_be period → declared_period period ≡ Some decimal → 0 < units_of decimal
    by Inherit may e = absurd (none-some decimal e)
    by NeverChanges may e = absurd (none-some decimal e)
    by (Every period) may e = of_digits (subst IsPeriod (same_Some period decimal e) (declared_above block.kind period readable.parameters may))

abbrev units_in : List Block → List ℕ
units_in blocks = map units_of (filter_map (λ (block : Block). declared_period block.period) blocks)

least_above : (x : ℕ) (xs : List ℕ) → 0 < x → IsAbove (least xs) → IsAbove (least (x ∷ xs))
least_above x xs some above = go (least xs) refl above
  where
    go : (o : Option ℕ) → least xs ≡ o → IsAbove o → IsAbove (least (x ∷ xs))
    go None e h = rw e some
    go (Some y) e h = let both : 0 < min x y = omega (arith, some, h) in rw e both

least_first : (x : ℕ) (xs : List ℕ) → IsLow x (least (x ∷ xs))
least_first x xs = go (least xs) refl
  where
    go : (o : Option ℕ) → least xs ≡ o → IsLow x (least (x ∷ xs))
    go None e = let low : x ≤ x = omega arith in rw e low
    go (Some y) e = let low : min x y ≤ x = omega arith in rw e low

least_later : (n x : ℕ) (xs : List ℕ) → IsLow n (least xs) → IsLow n (least (x ∷ xs))
least_later n x xs low = go (least xs) refl low
  where
    go : (o : Option ℕ) → least xs ≡ o → IsLow n o → IsLow n (least (x ∷ xs))
    go None e h = absurd h
    go (Some y) e h = let both : min x y ≤ n = omega (arith, h) in rw e both

all_above : (blocks : List Block) → ((k : ℕ) (block : Block) → slice_get blocks k ≡ Some block → IsReadable block) → IsAbove (least (units_in blocks))
all_above [] readable = tt
all_above (block ∷ blocks) readable = go (declared_period block.period) refl (all_above blocks (λ k b at. readable (suc k) b at))
  where
    go : (o : Option Decimal) → declared_period block.period ≡ o → IsAbove (least (units_in blocks))
        → IsAbove
        (least (map units_of (cons_option o (filter_map (λ (b : Block). declared_period b.period) blocks))))
    go None e later = later
    go (Some decimal) e later = least_above (units_of decimal) (units_in blocks) (units_above block decimal (readable 0 block refl) e) later

units_low : (blocks : List Block) (k : ℕ) (block : Block) (decimal : Decimal) → slice_get blocks k ≡ Some block
    → declared_period block.period ≡ Some decimal → IsLow (units_of decimal) (least (units_in blocks))
units_low [] k block decimal at e = absurd (none-some block at)
units_low (x ∷ blocks) zero block decimal at e = go (declared_period x.period) (ap (λ (b : Block). declared_period b.period) (same_Some x block at) ∙ e)
  where
    go : (o : Option Decimal) → o ≡ Some decimal → IsLow (units_of decimal) (least (map units_of (cons_option o (filter_map (λ (b : Block). declared_period b.period) blocks))))
    go None same = absurd (none-some decimal same)
    go (Some other) same = subst (λ (d : Decimal). IsLow (units_of d) (least (units_of other ∷ units_in blocks))) (same_Some other decimal same) (least_first (units_of other) (units_in blocks))
units_low (x ∷ blocks) (suc k) block decimal at e = go (declared_period x.period) (units_low blocks k block decimal at e)
  where
    go : (o : Option Decimal) → IsLow (units_of decimal) (least (units_in blocks))
        → IsLow (units_of decimal)
        (least (map units_of (cons_option o (filter_map (λ (b : Block). declared_period b.period) blocks))))
    go None low = low
    go (Some other) low = least_later (units_of decimal) (units_of other) (units_in blocks) low

pub readable_at : (diagram : Diagram) → IsWired diagram → (place : ℕ) (block : Block) → slice_get diagram.blocks place ≡ Some block → IsReadable block
readable_at diagram wired place block at = held IsReadable diagram.blocks place block wired.blocks at

multiple_above : (diagram : Diagram) → IsWired diagram → (place : ℕ) (block : Block) (decimal : Decimal)
    → slice_get diagram.blocks place ≡ Some block → declared_period block.period ≡ Some decimal
    → 0 < multiple_of diagram decimal
multiple_above diagram wired place block decimal at e =
    go (least (units_in diagram.blocks)) refl (all_above diagram.blocks (readable_at diagram wired))
    (units_low diagram.blocks place block decimal at e)
  where
    go : (o : Option ℕ) → least (units_in diagram.blocks) ≡ o → IsAbove o → IsLow (units_of decimal) o → 0 < multiple_of diagram decimal
    go None is above low = absurd low
    go (Some base) is above low =
        let times = le-div 1 (units_of decimal) base above (omega (arith, low)) in
        let some : 0 < units_of decimal / base = omega (arith, times) in
        rw is some

-- and at most 4096
multiple_short : (diagram : Diagram) → IsWired diagram → (place : ℕ) (block : Block) (decimal : Decimal)
    → KeepsDeclared diagram place block → slice_get diagram.blocks place ≡ Some block
    → declared_period block.period ≡ Some decimal → multiple_of diagram decimal ≤ 4096
multiple_short diagram wired place block decimal keeps at e =
    go (least (units_in diagram.blocks)) refl (all_above diagram.blocks (readable_at diagram wired))
    (units_low diagram.blocks place block decimal at e)
    (MatchOption-at_some ⊤ (λ (d : Decimal). (times : ℕ) × (times ≤ 4096)
    × (units_of d ≡ times * base_units diagram)) decimal e keeps)
  where
    go : (o : Option ℕ) → least (units_in diagram.blocks) ≡ o → IsAbove o → IsLow (units_of decimal) o
        → (times : ℕ) × (times ≤ 4096) × (units_of decimal ≡ times * base_units diagram)
        → multiple_of diagram decimal ≤ 4096
    go None is above low times = absurd low
    go (Some base) is above low times =
        let unit : base_units diagram ≡ base = rw is refl in
        let some : 0 < base_units diagram = omega (arith, unit, above) in
        let count : units_of decimal / base_units diagram ≡ times.0 = ap (λ (n : ℕ). n / base_units diagram) times.2 ∙ mul-div_cancel times.0 some in
        let few = times.1 in
        omega (arith, count, few)

-- ---- a round

-- a number that is there is 1 to 4096
abbrev IsShort : Option ℕ → Type 0
IsShort None = ⊤
IsShort (Some n) = (0 < n) × (n ≤ 4096)

positive_of : (a b : Option ℕ) → IsShort a → IsShort b → IsShort (least_of a b)
positive_of None b h k = k
positive_of (Some x) None h k = h
positive_of (Some x) (Some y) h k =
    let low = h.0 in
    let high = h.1 in
    let other = k.0 in
    let both : 0 < min x y = omega (arith, low, other) in
    let few : min x y ≤ 4096 = omega (arith, high) in
    (both, few)

abbrev IsShortAt : Option Period → Type 0
IsShortAt period = IsShort (finite period)

least_known : (values : Periods) → ((place : ℕ) → IsShortAt (known_at values place)) → (places : List ℕ) → IsShort (least_finite (map (known_at values) places))
least_known values all [] = tt
least_known values all (place ∷ places) = positive_of (finite (known_at values place)) (least_finite (map (known_at values) places)) (all place) (least_known values all places)

taken_above : (inherits : Inherited) (sources : Periods) (o : Option ℕ) → least_finite sources ≡ o → IsShort o → IsShortAt (taken_period inherits sources)
taken_above inherits sources (Some period) e above = rw e above
taken_above Inherited.OfSources sources None e above = rw e (still (are_unchanging sources))
  where
    still : (b : Bool) → IsShortAt (if b then Some None else None)
    still true = tt
    still false = tt
taken_above Inherited.Moving sources None e above = rw e tt
taken_above Inherited.Base sources None e above = rw e tt
taken_above Inherited.Unchanging sources None e above = rw e tt

next_above : (diagram : Diagram) (values : Periods) → ((place : ℕ) → IsShortAt (known_at values place)) → (place : ℕ) → IsShortAt (next_periods diagram values place)
next_above diagram values all place = known (known_at values place) (period_of_next diagram (slice_get diagram.blocks place) values place) (all place) (taken (slice_get diagram.blocks place))
  where
    known : (x y : Option Period) → IsShortAt x → IsShortAt y → IsShortAt (known_or x y)
    known None y h k = k
    known (Some x) y h k = h

    taken : (o : Option Block) → IsShortAt (period_of_next diagram o values place)
    taken None = tt
    taken (Some block) =
        taken_above (row_of block.kind).timing.inherits (map (known_at values) (sources_of diagram place block)) (least_finite (map (known_at values) (sources_of diagram place block))) refl
        (least_known values all (sources_of diagram place block))

round_keeps : (P : Option Period → Type 0) (diagram : Diagram) (values : Periods) (place : ℕ) → P None
    → P (next_periods diagram values place) → P (known_at (round (next_periods diagram) values) place)
round_keeps P diagram values place none next = elim (cases_lt place (length values)) [
  | inl below ↦ subst P (sym (get_or_from_slice_get (round (next_periods diagram) values) place (next_periods diagram values place) None (round_at (next_periods diagram) values place below))) next
  | inr past ↦ let size = length_round (next_periods diagram) values in subst P (sym (get_or_past (round (next_periods diagram) values) place None (omega (arith, past, size)))) none
]

first_keeps : (P : Option Period → Type 0) (f : Block → Option Period) (blocks : List Block) (place : ℕ) → P None
    → ((block : Block) → slice_get blocks place ≡ Some block → P (f block)) → P (known_at (map f blocks) place)
first_keeps P f [] place none all = none
first_keeps P f (block ∷ blocks) zero none all = all block refl
first_keeps P f (block ∷ blocks) (suc place) none all = first_keeps P f blocks place none all

inherited_above : (inherits : Inherited) → IsShortAt (first_inherited inherits)
inherited_above Inherited.OfSources = tt
inherited_above Inherited.Moving = tt
inherited_above Inherited.Base = let some : 0 < 1 = omega arith in let few : 1 ≤ 4096 = omega arith in (some, few)
inherited_above Inherited.Unchanging = tt

first_above : (diagram : Diagram) → IsWired diagram → AllKeep diagram (KeepsDeclared diagram) → (place : ℕ) → IsShortAt (known_at (first_periods diagram) place)
first_above diagram wired keeps place = first_keeps IsShortAt (λ (block : Block). first_period diagram block.kind block.period) diagram.blocks place tt (λ block at. by block at block.period refl)
  where
    by : (block : Block) → slice_get diagram.blocks place ≡ Some block → (period : PeriodSpec) → block.period ≡ period → IsShortAt (first_period diagram block.kind period)
    by block at Inherit e = inherited_above (row_of block.kind).timing.inherits
    by block at NeverChanges e = tt
    by block at (Every decimal) e = (
      multiple_above diagram wired place block decimal at (ap declared_period e),
      multiple_short diagram wired place block decimal (keeps place block at) at (ap declared_period e),
    )

rounds_above : (diagram : Diagram) → IsWired diagram → AllKeep diagram (KeepsDeclared diagram) → (n place : ℕ) → IsShortAt (known_at (periods_after diagram n) place)
rounds_above diagram wired keeps zero place = first_above diagram wired keeps place
rounds_above diagram wired keeps (suc n) place =
    round_keeps IsShortAt diagram (periods_after diagram n) place tt (next_above diagram (periods_after diagram n) (rounds_above diagram wired keeps n) place)

settled_above : (values : Periods) (place period : ℕ) → IsShortAt (known_at values place) → period_at (map or_one values) place ≡ Some period → (0 < period) × (period ≤ 4096)
settled_above [] place period above e = absurd (none-some period e)
settled_above (None ∷ values) zero period above e = let one = same_Some {A = ℕ} 1 period e in (omega (arith, one), omega (arith, one))
settled_above (Some None ∷ values) zero period above e = absurd (none-some period e)
settled_above (Some (Some own) ∷ values) zero period above e = let same = same_Some own period e in let low = above.0 in let high = above.1 in (omega (arith, same, low), omega (arith, same, high))
settled_above (value ∷ values) (suc place) period above e = settled_above values place period above e

within : (diagram : Diagram) (place period : ℕ) → IsChecked diagram → period_at (periods_of diagram) place ≡ Some period → (0 < period) × (period ≤ 4096)
within diagram place period checked e =
    settled_above (periods_after diagram (length diagram.blocks)) place period (rounds_above diagram checked.wired checked.rates.declared (length diagram.blocks) place) e

pub periods_are_above : PeriodsAreAbove
periods_are_above diagram place period checked e = (within diagram place period checked e).0

pub periods_are_short : PeriodsAreShort
periods_are_short diagram place period checked e = (within diagram place period checked e).1

-- ---- blocks that move on

-- a period isn't that of a value that never changes
abbrev Moves : Option Period → Type 0
Moves None = ⊤
Moves (Some None) = ⊥
Moves (Some (Some period)) = ⊤

may_change : (kind : Kind) → is_moving (row_of kind).timing.inherits ≡ true → (row_of kind).timing.may_be NeverChanges → ⊥
may_change (Inport number width) moving may = may
may_change (Outport number) moving may = may
may_change (Delay delay initial reset) moving may = may
may_change (EnOut reset initial) moving may = may
may_change _ moving may = false≢true moving

first_moves : (diagram : Diagram) (kind : Kind) (period : PeriodSpec) → is_moving (row_of kind).timing.inherits ≡ true → (row_of kind).timing.may_be period → Moves (first_period diagram kind period)
first_moves diagram kind (Every decimal) moving may = tt
first_moves diagram kind NeverChanges moving may = may_change kind moving may
first_moves diagram kind Inherit moving may = by (row_of kind).timing.inherits moving
  where
    by : (inherits : Inherited) → is_moving inherits ≡ true → Moves (first_inherited inherits)
    by Inherited.OfSources e = absurd (false≢true e)
    by Inherited.Moving e = tt
    by Inherited.Base e = tt
    by Inherited.Unchanging e = absurd (false≢true e)

taken_moves : (inherits : Inherited) (sources : Periods) (o : Option ℕ) → is_moving inherits ≡ true → least_finite sources ≡ o → Moves (taken_period inherits sources)
taken_moves inherits sources (Some period) moving e = rw e tt
taken_moves Inherited.OfSources sources None moving e = absurd (false≢true moving)
taken_moves Inherited.Moving sources None moving e = rw e tt
taken_moves Inherited.Base sources None moving e = rw e tt
taken_moves Inherited.Unchanging sources None moving e = absurd (false≢true moving)

module _ (diagram : Diagram) (wired : IsWired diagram) (place : ℕ) (block : Block)
    (at : slice_get diagram.blocks place ≡ Some block)
    (moving : is_moving (row_of block.kind).timing.inherits ≡ true) where
  next_moves : (values : Periods) → Moves (known_at values place) → Moves (next_periods diagram values place)
  next_moves values all = known (known_at values place) all
    where
      known : (x : Option Period) → Moves x → Moves (known_or x (period_of_next diagram (slice_get diagram.blocks place) values place))
      known None h = rw at (taken_moves (row_of block.kind).timing.inherits
          (map (known_at values) (sources_of diagram place block))
          (least_finite (map (known_at values) (sources_of diagram place block))) moving refl)
      known (Some x) h = h

  rounds_move : (n : ℕ) → Moves (known_at (periods_after diagram n) place)
  rounds_move zero = first_keeps Moves (λ (b : Block). first_period diagram b.kind b.period) diagram.blocks place tt (λ b here.
      subst (λ (b : Block). Moves (first_period diagram b.kind b.period)) (same_Some block b (sym at ∙ here))
      (first_moves diagram block.kind block.period moving (readable_at diagram wired place block at).period))
  rounds_move (suc n) = round_keeps Moves diagram (periods_after diagram n) place tt (next_moves (periods_after diagram n) (rounds_move n))

settled_moves : (values : Periods) (place : ℕ) → place < length values → Moves (known_at values place) → (period : ℕ) × (period_at (map or_one values) place ≡ Some period)
settled_moves [] place below moves = absurd (omega arith)
settled_moves (None ∷ values) zero below moves = (1, refl)
settled_moves (Some None ∷ values) zero below moves = absurd moves
settled_moves (Some (Some own) ∷ values) zero below moves = (own, refl)
settled_moves (value ∷ values) (suc place) below moves = settled_moves values place (omega arith) moves

pub moving_have_periods : MovingHavePeriods
moving_have_periods diagram place block checked at moving =
    let size = length_after (next_periods diagram) (length diagram.blocks) (first_periods diagram) ∙ length-map diagram.blocks (λ (b : Block). first_period diagram b.kind b.period) in
    let below = slice_get_within diagram.blocks place block at in
    settled_moves (periods_after diagram (length diagram.blocks)) place (omega (arith, size, below)) (rounds_move diagram checked.wired place block at moving (length diagram.blocks))
