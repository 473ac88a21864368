-- What the taps of a filter hold, by the number of the tap.
use Rattle.std.proofs.Common.{◌≡◌, ℕ, zero, suc, ◌+◌, ◌-◌, ◌<◌, ◌≤◌, Bool, true, false, cond, ℤ, List, [], ◌∷◌, length, Option, Some, None, slice_get, MatchOption, ◌==◌, pos, ap, sym, ◌∙◌, subst}
use Rattle.std.proofs.Common.{refl, arith}
use Rattle.std.proofs.lemmas.Option.{MatchOption-at_some}
use Rattle.fx_type.specs.declared.decimal.Decimal.{Decimal}
use Rattle.fx_type.specs.declared.kind.FxType.{FxType}
use Rattle.fx_type.specs.Conversion.{Stores}
use Rattle.math_list.proofs.Places.{held}
use Rattle.dg_model.specs.declared.diagram.Diagram.{Diagram}
use Rattle.dg_model.specs.declared.diagram.Block.{Block}
use Rattle.dg_model.specs.declared.diagram.Edge.{Edge}
use Rattle.dg_model.specs.declared.kind.Kind.{Kind}
use Rattle.dg_model.specs.declared.kind.Kind.TheVariants.{Delay}
use Rattle.dg_model.specs.Convolution.{Taps, IsFilter, IsKindAt, IsFed, IsHeld, tap, shown_to}
use Rattle.dg_model.specs.Equation.{Equation, KindEquation, IsInputAt}
use Rattle.dg_model.specs.Hits.{Hits, counted_hits}
use Rattle.dg_model.specs.Readable.{IsReadable, HasPorts}
use Rattle.dg_model.specs.Signals.{Attributes, Stimulus, Table}
use Rattle.dg_model.specs.Solves.{Solves, IsShown, shown_ports, shown_width}
use Rattle.dg_model.specs.Wires.{driver_of, at_source, repeated, value_into}
use Rattle.dg_model.specs.Wired.{IsWired}
use Rattle.dg_filters.specs.Laws.{AreAlike, GoOn, TapsAreHeld}
use Rattle.dg_filters.proofs.Hits.{counted_go_on}

-- a place in a list that is there
value_at : (values : List Decimal) (k : ℕ) → k < length values → (value : Decimal) × (slice_get values k ≡ Some value)
value_at [] k below = absurd (omega (arith, below))
value_at (value ∷ values) zero below = (value, refl)
value_at (value ∷ values) (suc k) below = value_at values k (omega arith)

-- a place that is repeated
twice : (width element : ℕ) → repeated width (repeated width element) ≡ repeated width element
twice width element = go (width == 1)
  where
    go : (one : Bool) → cond one 0 (cond one 0 element) ≡ cond one 0 element
    go true = refl
    go false = refl

repeated_below : (width element : ℕ) → element < width → repeated width element < width
repeated_below width element below = go (width == 1)
  where
    go : (one : Bool) → cond one 0 element < width
    go true = omega (arith, below)
    go false = below

module _ (diagram : Diagram) (attributes : Attributes) (stimulus : Stimulus) (n : ℕ) (table : Table) (first : ℕ) (taps : Taps) (sum : Block) (enable : Option ℕ) (reset : Bool)
    (wired : IsWired diagram) (solves : Solves diagram attributes stimulus n table) (filter : IsFilter diagram first taps sum enable reset) (alike : AreAlike attributes first taps)
  where
    abbrev period : Option ℕ
    period = attributes.period_at (tap first 1)

    abbrev width : ℕ
    width = attributes.width_at first 1

    -- the counted hits of the delays before t
    abbrev counted : ℕ → List ℕ
    counted t = counted_hits table enable reset period t

    abbrev Held : ℕ → ℕ → ℕ → Type 0
    Held k element t = IsHeld attributes table first taps (counted t) element t k (shown_to attributes table (tap first k) element t)

    -- what a delay shows at a hit
    module _ (k element t : ℕ) (inside : suc k < length taps.coefficients) (below : element < width) (early : t < n)
        (hit : Hits period t) (value : Decimal) (value_is : slice_get taps.initial k ≡ Some value) where
      abbrev place : ℕ
      place = tap first (suc k)

      delay : (b : Block) × IsKindAt diagram place (Delay 1 (value ∷ []) reset) b × (b.enable ≡ enable) × IsFed diagram (tap first k) place 1
      delay = filter.delays k value value_is

      abbrev b : Block
      b = delay.0

      own_width : attributes.width_at place 1 ≡ width
      own_width = alike.widths (suc k) inside

      own_period : attributes.period_at place ≡ period
      own_period = alike.periods k inside

      abbrev served : ℕ
      served = repeated (attributes.width_at place 1) element

      served_is : served ≡ repeated width element
      served_is = ap (λ (w : ℕ). repeated w element) own_width

      outputs : b.outputs ≡ 1
      outputs =
          let ports = (held IsReadable diagram.blocks place b wired.blocks delay.1.block_is).ports in
          (subst (λ (kind : Kind). HasPorts kind b.inputs b.outputs) delay.1.kind_is ports).1

      shown : IsShown diagram attributes place b 1 served
      shown = record {
        block_is = delay.1.block_is;
        port_from = omega arith;
        port_to = subst (λ (kind : Kind). 1 ≤ shown_ports kind b.outputs) (sym delay.1.kind_is) (omega (arith, outputs));
        element_below = subst (λ (kind : Kind). served < shown_width diagram attributes kind place 1) (sym delay.1.kind_is) (omega (arith, repeated_below width element below, own_width, served_is));
      }

      equation : IsInputAt diagram attributes stimulus table place (value ∷ []) served (slice_get (counted_hits table b.enable reset (attributes.period_at place) t) 0) (table place 1 served t)
      equation =
          let at = solves.at_hits place b 1 served t shown early (subst (λ (p : Option ℕ). Hits p t) (sym own_period) hit) in
          let of = MatchOption-at_some ⊥ (λ (b : Block). KindEquation diagram attributes stimulus table b.kind b place 1 served t (table place 1 served t)) b delay.1.block_is at in
          subst (λ (kind : Kind). KindEquation diagram attributes stimulus table kind b place 1 served t (table place 1 served t)) delay.1.kind_is of

      counted_is : counted_hits table b.enable reset (attributes.period_at place) t ≡ counted t
      counted_is = ap (λ (o : Option ℕ). counted_hits table o reset (attributes.period_at place) t) delay.2 ∙ ap (λ (p : Option ℕ). counted_hits table enable reset p t) own_period

      -- what it is offered at a hit
      offered : (h : ℕ) → value_into diagram attributes table place 1 served h ≡ shown_to attributes table (tap first k) element h
      offered h =
          let fed = ap (λ (o : Option Edge). at_source o (pos 0) (λ from from_port. table from from_port (repeated (attributes.width_at from from_port) served) h)) delay.3 in
          let w : attributes.width_at (tap first k) 1 ≡ width = alike.widths k (omega (arith, inside)) in
          let e : repeated (attributes.width_at (tap first k) 1) served ≡ repeated (attributes.width_at (tap first k) 1) element =
          ap (λ (v : ℕ). repeated v served) w ∙ ap (λ (s : ℕ). repeated width s) served_is ∙ twice width element ∙ sym (ap (λ (v : ℕ). repeated v element) w) in
          fed ∙ ap (λ (s : ℕ). table (tap first k) 1 s h) e

      next : ((h : ℕ) → h < n → Hits period h → Held k element h) → Held (suc k) element t
      next before = go (counted t) refl (subst
          (λ (hits : List ℕ). IsInputAt diagram attributes stimulus table place (value ∷ []) served
          (slice_get hits 0) (table place 1 served t)) counted_is equation)
        where
          go : (hits : List ℕ) → counted t ≡ hits → IsInputAt diagram attributes stimulus table place (value ∷ []) served (slice_get hits 0) (table place 1 served t)
              → IsHeld attributes table first taps hits element t (suc k) (table place 1 served t)
          go [] is given =
              let stored : Stores value (attributes.type_at first 1) (table place 1 served t) =
              subst (λ (type : FxType). Stores value type (table place 1 served t))
              (alike.types (suc k) inside) given in
              let number : suc k - 1 ≡ k = omega arith in
              subst (λ (o : Option Decimal). MatchOption o ⊥ (λ value. Stores value (attributes.type_at first 1) (table place 1 served t))) (sym (ap (slice_get taps.initial) number ∙ value_is)) stored
          go (h ∷ more) is given =
              let on = counted_go_on table enable reset period t h more is in
              let earlier = before h (omega (arith, on.earlier, early)) on.hit in
              let same : IsHeld attributes table first taps more element h k
              (shown_to attributes table (tap first k) element h) =
              subst (λ (hits : List ℕ). IsHeld attributes table first taps hits element h k
              (shown_to attributes table (tap first k) element h)) on.before earlier in
              let number : suc k - suc (length (h ∷ more)) ≡ k - suc (length more) = omega arith in
              let moved : IsHeld attributes table first taps (h ∷ more) element t (suc k) (shown_to attributes table (tap first k) element h) =
              subst (λ (p : ℕ). MatchOption (slice_get (h ∷ more) k)
              (MatchOption (slice_get taps.initial p) ⊥
              (λ value. Stores value (attributes.type_at first 1)
              (shown_to attributes table (tap first k) element h)))
              (λ hit. shown_to attributes table (tap first k) element h ≡ shown_to attributes table first element hit)) (sym number) same in
              subst (λ (v : ℤ). IsHeld attributes table first taps (h ∷ more) element t (suc k) v) (sym (given ∙ offered h)) moved

    held_at : (k element t : ℕ) → k < length taps.coefficients → element < width → t < n → Hits period t → Held k element t
    held_at zero element t inside below early hit = let e : tap first 0 ≡ first = omega arith in ap (λ (block : ℕ). shown_to attributes table block element t) e
    held_at (suc k) element t inside below early hit =
        let value = value_at taps.initial k (omega (arith, inside, filter.values)) in
        next k element t inside below early hit value.0 value.1 (λ h early hit. held_at k element h (omega (arith, inside)) below early hit)

pub taps_held : TapsAreHeld
taps_held diagram attributes stimulus n table first taps sum enable reset wired solves filter alike = held_at diagram attributes stimulus n table first taps sum enable reset wired solves filter alike
