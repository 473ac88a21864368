-- What a root output shows of a filter that feeds it, and a filter of a root input that feeds it.
use Rattle.std.proofs.Common.{◌≡◌, ◌⊎◌, ℕ, zero, suc, ◌-◌, ◌<◌, Bool, ℤ, List, [], ◌∷◌, length, Option, None, Some}
use Rattle.std.proofs.Common.{MatchOption}
use Rattle.std.proofs.Common.{slice_get, refl, sym, ◌∙◌, ap, subst, arith}
use Rattle.std.proofs.lemmas.Option.{none-some, same_Some}
use Rattle.fx_type.specs.declared.decimal.Decimal.{Decimal}
use Rattle.fx_type.specs.Conversion.{Converts, Stores}
use Rattle.math_list.proofs.Places.{get_some}
use Rattle.dg_model.specs.declared.diagram.Block.{Block}
use Rattle.dg_model.specs.declared.diagram.Diagram.{Diagram}
use Rattle.dg_model.specs.declared.diagram.Edge.{Edge}
use Rattle.dg_model.specs.declared.kind.Kind.{Kind}
use Rattle.dg_model.specs.declared.kind.Kind.TheVariants.{Delay, Inport, Outport, Pass}
use Rattle.dg_model.specs.Attributes.{attributes_of}
use Rattle.dg_model.specs.Convolution.{Taps, IsFilter, IsKindAt, IsFed, IsHeld, IsConvolved, tap, sum_of, shown_to}
use Rattle.dg_model.specs.Hits.{Hits, counted_hits}
use Rattle.dg_model.specs.Laws.{IsElementOfPort}
use Rattle.dg_model.specs.Library.{row_of}
use Rattle.dg_model.specs.RootElements.{RootElement, root_inputs, root_outputs}
use Rattle.dg_model.specs.Signals.{Attributes, Stimulus, Table}
use Rattle.dg_model.specs.Solves.{IsShown}
use Rattle.dg_model.specs.Wired.{root_input, root_output}
use Rattle.dg_model.specs.Wires.{at_source, repeated, width_into}
use Rattle.hw_sched.specs.Laws.{is_moving}
use Rattle.laws_filters.specs.Laws.{AreFitting, IsSolved}
use Rattle.laws_convolved.specs.Laws.{IsOutputOf, out_of}
use Rattle.laws_convolved.specs.Shown.{ConvolvesColumn, JoinsRoots, table_of}
use Rattle.laws_convolved.specs.inner.LawsBelow.{AreKnown}
use Rattle.laws_convolved.proofs.RootLines.{through, below_source, repeated_below, output_kind, input_kind}
use Rattle.laws_convolved.proofs.RootLines.{ports, shown_as, equation, handed, narrow, paced}

module _ (known : AreKnown) {diagram : Diagram} {order : List ℕ} {stimulus : Stimulus} {n : ℕ} {table : Table}
    (solved : IsSolved diagram order stimulus n table) {first : ℕ} {taps : Taps} {sum : Block} {enable : Option ℕ}
    {reset : Bool}
    (filter : IsFilter diagram first taps sum enable reset) {out : Block}
    (output : IsOutputOf diagram first taps out) where
  abbrev A : Attributes
  A = attributes_of diagram

  abbrev width : ℕ → ℕ
  width place = (attributes_of diagram).width_at place 1

  abbrev period : ℕ → Option ℕ
  period place = (attributes_of diagram).period_at place

  fitting : AreFitting (attributes_of diagram) first taps
  fitting = known.filters diagram order first taps sum enable reset solved.ordered filter

  -- ---- the filter's period

  delay : (value : Decimal) × (b : Block) × IsKindAt diagram (tap first 1) (Delay 1 (value ∷ []) reset) b
      × IsFed diagram (tap first 0) (tap first 1) 1
  delay =
      let value = get_some taps.initial 0 (omega (arith, filter.values, filter.some)) in
      let own = filter.delays 0 value.0 value.1 in
      (value.0, own.0, own.1, own.3)

  pub pace : (own : ℕ) × (period (tap first 1) ≡ Some own)
  pace = known.moving diagram (tap first 1) delay.1 solved.ordered.checked delay.2.block_is
      (ap (λ (kind : Kind). is_moving (row_of kind).timing.inherits) delay.2.kind_is)

  sum_paced : period (sum_of first taps) ≡ Some pace.0
  sum_paced = sym fitting.delays ∙ pace.1

  out_paced : period (out_of first taps) ≡ Some pace.0
  out_paced = paced known solved (sum_of first taps) (out_of first taps) 1 pace.0
      (Pass 0) out output.block refl output.fed sum_paced

  pub sum_hit : (t : ℕ) → Hits (Some pace.0) t → Hits (period (sum_of first taps)) t
  sum_hit t hit = subst (λ (p : Option ℕ). Hits p t) (sym sum_paced) hit

  -- ---- a root output

  module _ (to : ℕ) (y : RootElement) (there : slice_get (root_outputs diagram (attributes_of diagram)) to ≡ Some y)
      (feeds : IsFed diagram (out_of first taps) y.block 1) where
    of : IsElementOfPort root_output (λ block. width_into diagram (attributes_of diagram) block 1) diagram
        (attributes_of diagram) y
    of = (known.outputs diagram (attributes_of diagram) solved.ordered.checked.wired).elements_of to y there

    kind : (own : ℕ) × (of.0.kind ≡ Outport own)
    kind = output_kind of.0.kind y.number of.2

    at : IsKindAt diagram y.block (Outport kind.0) of.0
    at = record { block_is = of.1; kind_is = kind.1 }

    y_paced : period y.block ≡ Some pace.0
    y_paced = paced known solved (out_of first taps) y.block 1 pace.0 (Outport kind.0) of.0 at refl feeds out_paced

    pub y_hit : (t : ℕ) → Hits y.period t → Hits (Some pace.0) t
    y_hit t hit = subst (λ (p : Option ℕ). Hits p t) (ap (λ (r : RootElement). r.period) of.4 ∙ y_paced) hit

    y_below : y.element < width (out_of first taps)
    y_below = subst (λ (w : ℕ). y.element < w) (ap (λ (o : Option Edge). at_source o 0 A.width_at) feeds) of.3

    out_inputs : out.inputs ≡ 1
    out_inputs = (ports known solved (out_of first taps) (Pass 0) out output.block).0

    out_outputs : out.outputs ≡ 1
    out_outputs = (ports known solved (out_of first taps) (Pass 0) out output.block).1

    sum_narrow : (width (sum_of first taps) ≡ 1) ⊎ (width (sum_of first taps) ≡ width (out_of first taps))
    sum_narrow = narrow known solved (sum_of first taps) (out_of first taps) (Pass 0) out output.block refl out_inputs
        (omega (arith, out_outputs)) output.fed

    pub sum_below : repeated (width (sum_of first taps)) y.element < width (sum_of first taps)
    sum_below = below_source (width (sum_of first taps)) (width (out_of first taps)) y.element sum_narrow y_below

    pub entry : (t : ℕ) → t < n → Hits (Some pace.0) t
        → table y.block 1 y.element t ≡ shown_to A table (sum_of first taps) y.element t
    entry t early hit =
        let one : of.0.inputs ≡ 1 = (ports known solved y.block (Outport kind.0) of.0 at).0 in
        let shown : IsShown diagram A y.block of.0 1 y.element =
        shown_as known solved y.block (Outport kind.0) of.0 y.element at (omega arith) of.3 in
        let own_hit = subst (λ (p : Option ℕ). Hits p t) (sym y_paced) hit in
        let eq = equation known solved y.block (Outport kind.0) of.0 y.element t at shown early own_hit in
        let last = handed known solved (out_of first taps) y.block (Outport kind.0) of.0 y.element t at one feeds
        (λ op is. is) eq in
        let served : ℕ = repeated (width (out_of first taps)) y.element in
        let out_shown : IsShown diagram A (out_of first taps) out 1 served =
        shown_as known solved (out_of first taps) (Pass 0) out served output.block (omega (arith, out_outputs))
        (repeated_below (width (out_of first taps)) y.element y_below) in
        let out_hit = subst (λ (p : Option ℕ). Hits p t) (sym out_paced) hit in
        let out_eq =
        equation known solved (out_of first taps) (Pass 0) out served t output.block out_shown early out_hit in
        let before = handed known solved (sum_of first taps) (out_of first taps)
        (Pass 0) out served t output.block out_inputs output.fed (λ op is. is) out_eq in
        last ∙ before
        ∙ ap (λ (e : ℕ). table (sum_of first taps) 1 e t)
        (through (width (sum_of first taps)) (width (out_of first taps)) y.element sum_narrow)

  -- ---- a root input

  module _ (from : ℕ) (u : RootElement) (there : slice_get (root_inputs diagram (attributes_of diagram)) from ≡ Some u)
      (fed : IsFed diagram u.block first 1) where
    input : IsElementOfPort root_input (λ block. (attributes_of diagram).width_at block 1) diagram
        (attributes_of diagram) u
    input = (known.inputs diagram (attributes_of diagram) solved.ordered.checked.wired).elements_of from u there

    in_kind : (w : ℕ) × (input.0.kind ≡ Inport u.number w)
    in_kind = input_kind input.0.kind u.number input.2

    in_at : IsKindAt diagram u.block (Inport u.number in_kind.0) input.0
    in_at = record { block_is = input.1; kind_is = in_kind.1 }

    u_moves : (own : ℕ) × (period u.block ≡ Some own)
    u_moves = known.moving diagram u.block input.0 solved.ordered.checked input.1
        (ap (λ (k : Kind). is_moving (row_of k).timing.inherits) in_kind.1)

    first_moves : period first ≡ Some u_moves.0
    first_moves = paced known solved u.block first 1 u_moves.0 (Pass 0) filter.input.0 filter.input.1 refl fed u_moves.1

    -- the input runs with the filter
    same_pace : ◌≡◌ {A = Option ℕ} (Some u_moves.0) (Some pace.0)
    same_pace =
        let zero_on : first ≡ tap first 0 = omega arith in
        let start : period (tap first 0) ≡ Some u_moves.0 = ap period (sym zero_on) ∙ first_moves in
        let next = paced known solved (tap first 0) (tap first 1) 1 u_moves.0
        (Delay 1 (delay.0 ∷ []) reset) delay.1 delay.2 refl delay.3 start in
        sym next ∙ pace.1

    first_ports : (filter.input.0.inputs ≡ 1) × (filter.input.0.outputs ≡ 1)
    first_ports = ports known solved first (Pass 0) filter.input.0 filter.input.1

    u_narrow : (width u.block ≡ 1) ⊎ (width u.block ≡ width first)
    u_narrow = let outputs = first_ports.1 in
        narrow known solved u.block first (Pass 0) filter.input.0 filter.input.1 refl first_ports.0
        (omega (arith, outputs)) fed

    pub taken : (element h : ℕ) → element < width first → u.element ≡ repeated (width u.block) element → h < n
        → Hits (Some pace.0) h → shown_to A table first element h ≡ stimulus u.number u.element h
    taken element h below served early hit =
        let outputs = first_ports.1 in
        let own : ℕ = repeated (width first) element in
        let shown : IsShown diagram A first filter.input.0 1 own =
        shown_as known solved first (Pass 0) filter.input.0 own filter.input.1 (omega (arith, outputs))
        (repeated_below (width first) element below) in
        let u_hit = subst (λ (p : Option ℕ). Hits p h) (sym same_pace) hit in
        let first_hit = subst (λ (p : Option ℕ). Hits p h) (sym first_moves) u_hit in
        let eq = equation known solved first (Pass 0) filter.input.0 own h filter.input.1 shown early first_hit in
        let step = handed known solved u.block first (Pass 0) filter.input.0 own h filter.input.1 first_ports.0 fed
        (λ op is. is) eq in
        let has : input.0.outputs ≡ 1 = (ports known solved u.block (Inport u.number in_kind.0) input.0 in_at).1 in
        let u_shown : IsShown diagram A u.block input.0 1 u.element =
        shown_as known solved u.block (Inport u.number in_kind.0) input.0 u.element in_at
        (omega (arith, has)) input.3 in
        let own_hit = subst (λ (p : Option ℕ). Hits p h) (sym u_moves.1) u_hit in
        let given = equation known solved u.block
        (Inport u.number in_kind.0) input.0 u.element h in_at u_shown early own_hit in
        step
        ∙ ap (λ (e : ℕ). table u.block 1 e h) (through (width u.block) (width first) element u_narrow ∙ sym served)
        ∙ given

    pub still_served : (element : ℕ) → u.element ≡ repeated (width u.block) element
        → u.element ≡ repeated (width u.block) (repeated (width first) element)
    still_served element served = served ∙ sym (through (width u.block) (width first) element u_narrow)

  -- ---- counted hits

  abbrev counted : ℕ → List ℕ
  counted t = counted_hits table enable reset (period (tap first 1)) t

  pub each_hit : (k t h : ℕ) → t < n → Hits (Some pace.0) t → slice_get (t ∷ counted t) k ≡ Some h
      → (h < n) × Hits (Some pace.0) h
  each_hit zero t h early hit at = let same =
      same_Some t h at in (omega (arith, early, same), subst (λ (s : ℕ). Hits (Some pace.0) s) same hit)
  each_hit (suc k) t h early hit at = go (counted t) refl at (λ x low own. each_hit k x h low own)
    where
      go : (hits : List ℕ) → counted t ≡ hits → slice_get hits k ≡ Some h
          → ((x : ℕ) → x < n → Hits (Some pace.0) x → slice_get (x ∷ counted x) k ≡ Some h
          → (h < n) × Hits (Some pace.0) h)
          → (h < n) × Hits (Some pace.0) h
      go [] is at before = absurd (none-some h at)
      go (x ∷ more) is at before =
          let g = known.counted table enable reset (period (tap first 1)) t x more is in
          let own = subst (λ (p : Option ℕ). Hits p x) pace.1 g.hit in
          before x (omega (arith, early, g.earlier)) own (ap (λ (l : List ℕ). slice_get (x ∷ l) k) g.before ∙ at)

  -- ---- both

  module _ (from to : ℕ) (u y : RootElement) (joins : JoinsRoots diagram first taps from to u y) (t : ℕ)
      (early : t < n) (hit : Hits y.period t) where
    abbrev column : ℕ → ℤ
    column = stimulus u.number u.element

    abbrev own : ℕ
    own = repeated (width (sum_of first taps)) y.element

    pace_hit : Hits (Some pace.0) t
    pace_hit = y_hit to y joins.output_is joins.feeds t hit

    own_below : repeated (width (sum_of first taps)) y.element < width (sum_of first taps)
    own_below = sum_below to y joins.output_is joins.feeds

    served : u.element ≡ repeated (width u.block) own
    served = still_served from u joins.input_is joins.fed y.element joins.served
        ∙ ap (λ (w : ℕ). repeated (width u.block) (repeated w y.element)) (sym fitting.width)

    held_in : (k : ℕ) (x : ℤ) → IsHeld A table first taps (counted t) own t k x
        → IsHeld A (table_of column) first taps (counted t) 0 t k x
    held_in k x held = go (slice_get (t ∷ counted t) k) refl held
      where
        go : (o : Option ℕ) → slice_get (t ∷ counted t) k ≡ o
            → MatchOption o
            (MatchOption (slice_get taps.initial (k - suc (length (counted t)))) ⊥
            (λ value. Stores value (A.type_at first 1) x))
            (λ h. x ≡ shown_to A table first own h)
            → MatchOption o
            (MatchOption (slice_get taps.initial (k - suc (length (counted t)))) ⊥
            (λ value. Stores value (A.type_at first 1) x))
            (λ h. x ≡ column h)
        go None is held = held
        go (Some h) is held =
            let each = each_hit k t h early pace_hit is in
            held ∙ taken from u joins.input_is joins.fed own h
            (omega (arith, own_below, fitting.width)) served each.0 each.1

    convolved_in : (frac : ℤ) (coefficients : List Decimal) (k : ℕ) (total : ℤ)
        → IsConvolved A table first taps (counted t) frac own t coefficients k total
        → IsConvolved A (table_of column) first taps (counted t) frac 0 t coefficients k total
    convolved_in frac [] k total is = is
    convolved_in frac (coefficient ∷ coefficients) k total is =
        (is.0, is.1, is.2, held_in k is.0 is.3, is.4, convolved_in frac coefficients (suc k) is.2 is.5, is.6)

    pub column_convolved : ConvolvesColumn A column first taps sum (counted t) t (table y.block 1 y.element t)
    column_convolved =
        let c = known.convolve diagram order stimulus n table first taps sum enable reset own t solved filter
        own_below early (sum_hit t pace_hit) in
        record {
          frac = c.frac;
          total = c.total;
          exact = c.exact;
          convolved = convolved_in c.frac taps.coefficients 0 c.total c.convolved;
          converted = λ type same.
              subst (λ (v : ℤ). Converts c.total type (A.type_at (sum_of first taps) 1) sum.rounding sum.saturate v)
              (sym (entry to y joins.output_is joins.feeds t early pace_hit)) (c.converted type same);
        }
