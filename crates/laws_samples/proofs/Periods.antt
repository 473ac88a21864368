-- The periods of a sample's blocks: two base samples behind the rate transition, and one elsewhere.
use Rattle.std.proofs.Common.{◌≡◌, ◌≢◌, ℕ, zero, suc, ◌<◌, false, List, [], ◌∷◌, ◌++◌, length, map, Option, Some, None, slice_get, ap, sym, ◌∙◌, subst, refl, inl, inr, append-nil, arith}
use Rattle.std.specs.Prelude.{◌^◌, ⊤}
use Rattle.std.specs.List.{filter_map, cons_option, AllByRecursion}
use Rattle.std.specs.Option.{option_to_list}
use Rattle.std.proofs.lemmas.Bool.{cases_lt}
use Rattle.std.proofs.lemmas.List.{get_or_past, length-map}
use Rattle.std.proofs.lemmas.Option.{same_Some, slice_get_within, get_or_from_slice_get}
use Rattle.fx_type.specs.declared.decimal.Decimal.{Decimal}
use Rattle.math_list.proofs.Places.{get_some, held, map_there, there_map}
use Rattle.dg_waves.specs.Rounds.{round}
use Rattle.dg_model.specs.declared.diagram.Block.{Block}
use Rattle.dg_model.specs.declared.diagram.Diagram.{Diagram}
use Rattle.dg_model.specs.declared.diagram.Edge.{Edge}
use Rattle.dg_model.specs.declared.diagram.PeriodSpec.{PeriodSpec}
use Rattle.dg_model.specs.declared.diagram.PeriodSpec.TheVariants.{Inherit, Every}
use Rattle.dg_model.specs.declared.kind.Kind.{Kind}
use Rattle.dg_model.specs.declared.kind.Kind.TheVariants.{Inport, Outport, RateTransition}
use Rattle.dg_model.specs.declared.row.Inherited.{Inherited}
use Rattle.dg_model.specs.Library.{row_of}
use Rattle.dg_model.specs.Periods.{Period, Periods, units_of, declared_period, least, multiple_of, known_or, known_at, finite, least_of, least_finite, are_unchanging, drivers_of, sources_of, taken_period}
use Rattle.dg_model.specs.Periods.{period_of_next, next_periods, first_period, first_periods, periods_after, or_one, period_at, base_units, periods_of}
use Rattle.dg_model.specs.Readable.{IsReadable}
use Rattle.dg_model.specs.Wired.{IsWired}
use Rattle.dg_model.specs.Wires.{edges_into}
use Rattle.laws_samples.specs.Shape.{IsEnd, IsLink, IsSampleDiagram}
use Rattle.laws_samples.proofs.Rounds.{round_at, length_after, length_round}
use Rattle.laws_samples.proofs.Blocks.{down_at, slow_at, which, free, none_mapped, down_there, slow_there}
use Rattle.laws_samples.proofs.Blocks.Which.{First, Link, Down, Out, Slow}
use Rattle.laws_samples.proofs.EdgeEnds.{driver_at, into_edge, some_into, source_of}

-- a period that is known is so many base samples
abbrev pub IsAt : ℕ → Option Period → Type 0
IsAt n None = ⊤
IsAt n (Some None) = ⊥
IsAt n (Some (Some period)) = period ≡ n

abbrev IsLeast : ℕ → Option ℕ → Type 0
IsLeast n None = ⊤
IsLeast n (Some period) = period ≡ n

-- ---- what is taken of sources that agree

least_at : (n : ℕ) (xs : Periods) → AllByRecursion (IsAt n) xs → IsLeast n (least_finite xs)
least_at n [] all = tt
least_at n (None ∷ xs) all = least_at n xs all.1
least_at n (Some None ∷ xs) all = absurd all.0
least_at n (Some (Some period) ∷ xs) all = by (least_finite xs) (least_at n xs all.1)
  where
    by : (o : Option ℕ) → IsLeast n o → IsLeast n (least_of (Some period) o)
    by None least = all.0
    by (Some other) least = let own = all.0 in omega (arith, own, least)

moving_on : (n : ℕ) (xs : Periods) → AllByRecursion (IsAt n) xs → are_unchanging xs ≡ false
moving_on n [] all = refl
moving_on n (None ∷ xs) all = refl
moving_on n (Some None ∷ xs) all = absurd all.0
moving_on n (Some (Some period) ∷ xs) all = refl

taken_at : (n : ℕ) (inherits : Inherited) (xs : Periods) → AllByRecursion (IsAt n) xs → IsAt n (taken_period inherits xs)
taken_at n inherits xs all = by inherits (least_finite xs) refl (least_at n xs all)
  where
    by : (inherits : Inherited) (o : Option ℕ) → least_finite xs ≡ o → IsLeast n o → IsAt n (taken_period inherits xs)
    by inherits (Some period) e least = rw e least
    by Inherited.OfSources None e least = rw (e, moving_on n xs all) tt
    by Inherited.Moving None e least = rw e tt
    by Inherited.Base None e least = rw e tt
    by Inherited.Unchanging None e least = rw e tt

-- all sources of one period, of which there are some, give it
all_taken : (n : ℕ) (inherits : Inherited) (xs : Periods) → 0 < length xs → AllByRecursion (λ x. x ≡ Some (Some n)) xs → taken_period inherits xs ≡ Some (Some n)
all_taken n inherits [] some all = absurd (omega arith)
all_taken n inherits (x ∷ xs) some all = rw (least x xs all) refl
  where
    least : (x : Option Period) (xs : Periods) → AllByRecursion (λ x. x ≡ Some (Some n)) (x ∷ xs) → least_finite (x ∷ xs) ≡ Some n
    least x [] all = ap (λ (o : Option Period). least_of (finite o) None) all.0
    least x (y ∷ ys) all =
        ap (λ (o : Option Period). least_of (finite o) (least_finite (y ∷ ys))) all.0
        ∙ ap (λ (o : Option ℕ). least_of (Some n) o) (least y ys all.1)
        ∙ ap (λ (m : ℕ). Some m) (omega arith)

each_mapped : {A B : Type 0} (P : B → Type 0) (f : A → B) (xs : List A) → ((k : ℕ) (x : A) → slice_get xs k ≡ Some x → P (f x)) → AllByRecursion P (map f xs)
each_mapped P f [] each = tt
each_mapped P f (x ∷ xs) each = (each 0 x refl, each_mapped P f xs (λ k. each (suc k)))

round_known : (diagram : Diagram) (values : Periods) (place : ℕ) → place < length values → known_at (round (next_periods diagram) values) place ≡ next_periods diagram values place
round_known diagram values place below = get_or_from_slice_get (round (next_periods diagram) values) place (next_periods diagram values place) None (round_at (next_periods diagram) values place below)

module _ {diagram : Diagram} (sample : IsSampleDiagram diagram) (wired : IsWired diagram) where
  long : (rounds : ℕ) → length (periods_after diagram rounds) ≡ length diagram.blocks
  long rounds = length_after (next_periods diagram) rounds (first_periods diagram)
      ∙ length-map diagram.blocks (λ (block : Block). first_period diagram block.kind block.period)

  -- ---- before the first round

  units_are : map units_of (filter_map (λ (block : Block). declared_period block.period) diagram.blocks) ≡ units_of sample.one ∷ units_of sample.two ∷ []
  units_are =
      ap (λ (bs : List Block). map units_of (filter_map (λ (block : Block). declared_period block.period) bs)) sample.blocks
      ∙ ap (λ (ds : List Decimal). map units_of (cons_option (declared_period sample.input.period) ds))
      (none_mapped IsLink (λ (block : Block). declared_period block.period) (λ block link. ap declared_period link.period) sample.chain (sample.down ∷ sample.out ∷ sample.slow ∷ []) sample.links)
      ∙ ap (λ (p : PeriodSpec). map units_of (cons_option (declared_period p) (filter_map (λ (block : Block). declared_period block.period) (sample.down ∷ sample.out ∷ sample.slow ∷ [])))) sample.input_is.period_is
      ∙ ap (λ (p : PeriodSpec). units_of sample.one ∷ map units_of (cons_option (declared_period p) (filter_map (λ (block : Block). declared_period block.period) (sample.out ∷ sample.slow ∷ [])))) sample.down_is.period_is
      ∙ ap (λ (p : PeriodSpec). units_of sample.one ∷ units_of sample.two ∷ map units_of (cons_option (declared_period p) (filter_map (λ (block : Block). declared_period block.period) (sample.slow ∷ [])))) sample.out_is.period_is
      ∙ ap (λ (p : PeriodSpec). units_of sample.one ∷ units_of sample.two ∷ map units_of (cons_option (declared_period p) [])) sample.slow_is.period_is

  pub base_is : base_units diagram ≡ 10 ^ 36
  base_is = rw (units_are, sample.one_is, sample.two_is) refl

  pub one_base : multiple_of diagram sample.one ≡ 1
  one_base = rw (base_is, sample.one_is) refl

  pub two_base : multiple_of diagram sample.two ≡ 2
  two_base = rw (base_is, sample.two_is) refl

  -- ---- from round to round

  -- what is known of the periods: each but those of the rate transition and of the second output is one
  -- base sample, that of the rate transition is two, and so is that of the second output
  pub record AreKnown (values : Periods) : Type 0 where
    pub others : (place : ℕ) → place ≢ down_at sample → place ≢ slow_at sample → IsAt 1 (known_at values place)
    pub down : known_at values (down_at sample) ≡ Some (Some 2)
    pub slow : IsAt 2 (known_at values (slow_at sample))

  -- ports of the second output
  slow_ports : (sample.slow.inputs ≡ 1) × (sample.slow.outputs ≡ 0)
  slow_ports =
      let ports = (held IsReadable diagram.blocks (slow_at sample) sample.slow wired.blocks (slow_there sample)).ports in
      let kind = sample.slow_is.kind_is in
      (subst (λ (k : Kind). (row_of k).ports.inputs sample.slow.inputs) kind ports.0, subst (λ (k : Kind). (row_of k).ports.outputs sample.slow.outputs) kind ports.1)

  not_from_slow : (j : ℕ) (edge : Edge) → slice_get diagram.edges j ≡ Some edge → edge.from ≢ slow_at sample
  not_from_slow j edge at same =
      let source = source_of diagram wired j edge at in
      let is : source.block ≡ sample.slow = same_Some source.block sample.slow (sym source.there ∙ ap (λ (p : ℕ). slice_get diagram.blocks p) same ∙ slow_there sample) in
      let outputs = ap (λ (b : Block). b.outputs) is ∙ slow_ports.1 in
      let above = source.above in
      let within = source.within in
      absurd (omega (arith, above, within, outputs))

  -- the sources of a block are those of the edges into it
  sources_are : (place : ℕ) (b : Block) → slice_get diagram.blocks place ≡ Some b → sources_of diagram place b ≡ drivers_of diagram place
  sources_are place b at = ap (λ (o : Option ℕ). drivers_of diagram place ++ option_to_list o) (free sample place b at) ∙ append-nil (drivers_of diagram place)

  sources_at : (P : Option Period → Type 0) (values : Periods) (place : ℕ) (b : Block) → slice_get diagram.blocks place ≡ Some b
      → ((j : ℕ) (edge : Edge) → slice_get diagram.edges j ≡ Some edge → edge.to ≡ place → P (known_at values edge.from))
      → AllByRecursion P (map (known_at values) (sources_of diagram place b))
  sources_at P values place b at each =
      subst (λ (sources : List ℕ). AllByRecursion P (map (known_at values) sources)) (sym (sources_are place b at))
      (each_mapped P (known_at values) (drivers_of diagram place) (λ k from there.
      let edge = map_there (λ (e : Edge). e.from) (edges_into diagram place) k from there in
      let into = into_edge diagram place k edge.0 edge.1 in
      subst (λ (p : ℕ). P (known_at values p)) edge.2 (each into.0 edge.0 into.1 into.2)))

  kept_or : (n : ℕ) (x y : Option Period) → IsAt n x → IsAt n y → IsAt n (known_or x y)
  kept_or n None y own other = other
  kept_or n (Some x) y own other = own

  next_other : (values : Periods) → AreKnown values → (place : ℕ) → place ≢ down_at sample → place ≢ slow_at sample → IsAt 1 (next_periods diagram values place)
  next_other values known place not_down not_slow = kept_or 1 (known_at values place) (period_of_next diagram (slice_get diagram.blocks place) values place) (known.others place not_down not_slow) (by (slice_get diagram.blocks place) refl)
    where
      by : (o : Option Block) → slice_get diagram.blocks place ≡ o → IsAt 1 (period_of_next diagram o values place)
      by None is = tt
      by (Some b) is = taken_at 1 (row_of b.kind).timing.inherits (map (known_at values) (sources_of diagram place b)) (sources_at (IsAt 1) values place b is (λ j edge at to.
          known.others edge.from
          (λ from. not_slow (sym to ∙ held (λ (e : Edge). e.from ≡ down_at sample → e.to ≡ slow_at sample) diagram.edges j edge sample.from_down at from))
          (not_from_slow j edge at)))

  next_down : (values : Periods) → AreKnown values → next_periods diagram values (down_at sample) ≡ Some (Some 2)
  next_down values known = ap (λ (o : Option Period). known_or o (period_of_next diagram (slice_get diagram.blocks (down_at sample)) values (down_at sample))) known.down

  -- what the second output takes
  slow_taken : (values : Periods) → AreKnown values → period_of_next diagram (slice_get diagram.blocks (slow_at sample)) values (slow_at sample) ≡ Some (Some 2)
  slow_taken values known =
      let sources : List ℕ = sources_of diagram (slow_at sample) sample.slow in
      let same = sources_are (slow_at sample) sample.slow (slow_there sample) in
      let some = some_into diagram (slow_at sample) (driver_at diagram wired (slow_at sample) sample.slow (slow_there sample) slow_ports.0) in
      let size : length (map (known_at values) sources) ≡ length (edges_into diagram (slow_at sample)) =
      length-map sources (known_at values) ∙ ap (λ (ps : List ℕ). length ps) same ∙ length-map (edges_into diagram (slow_at sample)) (λ (e : Edge). e.from) in
      ap (λ (o : Option Block). period_of_next diagram o values (slow_at sample)) (slow_there sample)
      ∙ all_taken 2 (row_of sample.slow.kind).timing.inherits (map (known_at values) sources) (omega (arith, size, some))
      (sources_at (λ x. x ≡ Some (Some 2)) values (slow_at sample) sample.slow (slow_there sample) (λ j edge at to.
      ap (known_at values) (held (λ (e : Edge). e.to ≡ slow_at sample → e.from ≡ down_at sample) diagram.edges j edge sample.to_slow at to) ∙ known.down))

  next_slow : (values : Periods) → AreKnown values → next_periods diagram values (slow_at sample) ≡ Some (Some 2)
  next_slow values known = by (known_at values (slow_at sample)) known.slow
    where
      by : (o : Option Period) → IsAt 2 o → known_or o (period_of_next diagram (slice_get diagram.blocks (slow_at sample)) values (slow_at sample)) ≡ Some (Some 2)
      by None at = slow_taken values known
      by (Some None) at = absurd at
      by (Some (Some n)) at = ap (λ (m : ℕ). Some (Some m)) at

  -- ---- all rounds

  first_is : (place : ℕ) (b : Block) → slice_get diagram.blocks place ≡ Some b → known_at (first_periods diagram) place ≡ first_period diagram b.kind b.period
  first_is place b at = get_or_from_slice_get (first_periods diagram) place (first_period diagram b.kind b.period) None
      (there_map (λ (block : Block). first_period diagram block.kind block.period) diagram.blocks place b at)

  first_end : (place : ℕ) (b : Block) (kind : Kind) (period : PeriodSpec) → slice_get diagram.blocks place ≡ Some b → IsEnd kind period b → known_at (first_periods diagram) place ≡ first_period diagram kind period
  first_end place b kind period at is = first_is place b at ∙ ap (λ (k : Kind). first_period diagram k b.period) is.kind_is ∙ ap (λ (p : PeriodSpec). first_period diagram kind p) is.period_is

  first_other : (place : ℕ) (b : Block) → slice_get diagram.blocks place ≡ Some b → place ≢ down_at sample → place ≢ slow_at sample → IsAt 1 (known_at (first_periods diagram) place)
  first_other place b at not_down not_slow = elim (which sample place b at) [
    | First _ same ↦ subst (IsAt 1) (sym (first_end place b (Inport 1 0) (Every sample.one) at (subst (λ (c : Block). IsEnd (Inport 1 0) (Every sample.one) c) (sym same) sample.input_is))) one_base
    | Link _ _ link ↦ subst (IsAt 1) (sym (first_is place b at ∙ ap (λ (p : PeriodSpec). first_period diagram b.kind p) link.period ∙ link.inherits)) tt
    | Down is _ ↦ absurd (not_down is)
    | Out _ same ↦ subst (IsAt 1) (sym (first_end place b (Outport 1) Inherit at (subst (λ (c : Block). IsEnd (Outport 1) Inherit c) (sym same) sample.out_is))) tt
    | Slow is _ ↦ absurd (not_slow is)
  ]

  first_known : AreKnown (first_periods diagram)
  first_known = record {
    others = λ place not_down not_slow. elim (cases_lt place (length diagram.blocks)) [
      | inl below ↦ let b = get_some diagram.blocks place below in first_other place b.0 b.1 not_down not_slow
      | inr past ↦ let size = long 0 in subst (IsAt 1) (sym (get_or_past (first_periods diagram) place None (omega (arith, past, size)))) tt
    ];
    down = first_end (down_at sample) sample.down (RateTransition sample.two (sample.held ∷ [])) (Every sample.two) (down_there sample) sample.down_is ∙ ap (λ (n : ℕ). Some (Some n)) two_base;
    slow = subst (IsAt 2) (sym (first_end (slow_at sample) sample.slow (Outport 2) Inherit (slow_there sample) sample.slow_is)) tt;
  }

  within : (rounds place : ℕ) (b : Block) → slice_get diagram.blocks place ≡ Some b → place < length (periods_after diagram rounds)
  within rounds place b at = let below = slice_get_within diagram.blocks place b at in let size = long rounds in omega (arith, below, size)

  rounds_known : (rounds : ℕ) → AreKnown (periods_after diagram rounds)
  rounds_known zero = first_known
  rounds_known (suc rounds) =
      let values : Periods = periods_after diagram rounds in
      let known = rounds_known rounds in
      record {
        others = λ place not_down not_slow. elim (cases_lt place (length values)) [
          | inl below ↦ subst (IsAt 1) (sym (round_known diagram values place below)) (next_other values known place not_down not_slow)
          | inr past ↦ let size = length_round (next_periods diagram) values in subst (IsAt 1) (sym (get_or_past (round (next_periods diagram) values) place None (omega (arith, past, size)))) tt
        ];
        down = round_known diagram values (down_at sample) (within rounds (down_at sample) sample.down (down_there sample)) ∙ next_down values known;
        slow = subst (IsAt 2) (sym (round_known diagram values (slow_at sample) (within rounds (slow_at sample) sample.slow (slow_there sample)) ∙ next_slow values known)) refl;
      }

  -- ---- the periods of the root ports

  at_end : (place : ℕ) (b : Block) → slice_get diagram.blocks place ≡ Some b → period_at (periods_of diagram) place ≡ or_one (known_at (periods_after diagram (length diagram.blocks)) place)
  at_end place b at = settled (periods_after diagram (length diagram.blocks)) place (within (length diagram.blocks) place b at)
    where
      settled : (values : Periods) (place : ℕ) → place < length values → period_at (map or_one values) place ≡ or_one (known_at values place)
      settled [] place below = absurd (omega arith)
      settled (value ∷ values) zero below = refl
      settled (value ∷ values) (suc place) below = settled values place (omega arith)

  pub period_one : (place : ℕ) (b : Block) → slice_get diagram.blocks place ≡ Some b → place ≢ down_at sample → place ≢ slow_at sample → period_at (periods_of diagram) place ≡ Some 1
  period_one place b at not_down not_slow = at_end place b at ∙ by (known_at (periods_after diagram (length diagram.blocks)) place) ((rounds_known (length diagram.blocks)).others place not_down not_slow)
    where
      by : (o : Option Period) → IsAt 1 o → or_one o ≡ Some 1
      by None at = refl
      by (Some None) at = absurd at
      by (Some (Some n)) at = ap (λ (m : ℕ). Some m) at

  slow_known : (rounds : ℕ) → 0 < rounds → known_at (periods_after diagram rounds) (slow_at sample) ≡ Some (Some 2)
  slow_known zero some = absurd (omega arith)
  slow_known (suc rounds) some = round_known diagram (periods_after diagram rounds) (slow_at sample) (within rounds (slow_at sample) sample.slow (slow_there sample)) ∙ next_slow (periods_after diagram rounds) (rounds_known rounds)

  pub period_two : period_at (periods_of diagram) (slow_at sample) ≡ Some 2
  period_two =
      let below = slice_get_within diagram.blocks (slow_at sample) sample.slow (slow_there sample) in
      at_end (slow_at sample) sample.slow (slow_there sample) ∙ ap or_one (slow_known (length diagram.blocks) (omega (arith, below)))
