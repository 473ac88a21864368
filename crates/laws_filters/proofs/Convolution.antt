-- The sum of a filter shows the convolution of its coefficients with its input.
use Rattle.std.proofs.Common.{◌≡◌, ℕ, zero, suc, ◌+◌, ◌<◌, ◌≤◌, ◌^◌, Bool, false, ℤ, pos, ◌+ℤ◌, ◌*ℤ◌, ◌≤ℤ◌, inl, inr, List, [], ◌∷◌, length, map, zip, Option, Some, None, slice_get}
use Rattle.std.proofs.Common.{replicate, ap, ap₂, sym, ◌∙◌, subst, refl, arith}
use Rattle.std.specs.Int.{int_gap}
use Rattle.std.proofs.lemmas.List.{length-replicate}
use Rattle.std.proofs.lemmas.Option.{MatchOption-at_some, same_Some, slice_get_within}
use Rattle.fx_type.specs.declared.decimal.Decimal.{Decimal}
use Rattle.fx_type.specs.declared.kind.FxType.{FxType}
use Rattle.fx_type.specs.declared.kind.FxType.TheVariants.{Logical}
use Rattle.fx_type.specs.declared.spec.TypeSpec.TheVariants.{Internal}
use Rattle.fx_type.specs.Conversion.{Converts, Stores}
use Rattle.fx_type.specs.FullType.{IsFullProduct}
use Rattle.fx_type.specs.FxType.{IsType, InRange, frac_of}
use Rattle.fx_type.specs.Laws.{FullProductIsOne}
use Rattle.fx_round.specs.Laws.{SameTypeIsIdentity, StoringGivesOne}
use Rattle.math_list.proofs.Places.{held, get_some}
use Rattle.math_list.specs.Numbers.{numbers_from}
use Rattle.dg_model.specs.declared.diagram.Block.{Block}
use Rattle.dg_model.specs.declared.diagram.Diagram.{Diagram}
use Rattle.dg_model.specs.declared.diagram.Edge.{Edge}
use Rattle.dg_model.specs.declared.kind.Kind.{Kind}
use Rattle.dg_model.specs.declared.kind.Kind.TheVariants.{Pass, Delay, Gain, Sum}
use Rattle.dg_model.specs.declared.op.Op.{Op}
use Rattle.dg_model.specs.declared.op.Op.TheVariants.{Sum as OpSum, Gain as OpGain}
use Rattle.dg_model.specs.Attributes.{attributes_of}
use Rattle.dg_model.specs.Convolution.{Taps, IsFilter, IsKindAt, IsFed, IsHeld, IsConvolved, Convolves, tap, product, sum_of, shown_to}
use Rattle.dg_model.specs.Equation.{KindEquation, IsOpOf, signs_of}
use Rattle.dg_model.specs.Hits.{Hits, counted_hits, last_hit}
use Rattle.dg_model.specs.Operation.{Operation, Gives, signed_sum, type_of, value_of}
use Rattle.dg_model.specs.Readable.{IsReadable, HasPorts}
use Rattle.dg_model.specs.Signals.{Attributes, Stimulus, Table}
use Rattle.dg_model.specs.Solves.{IsShown, shown_ports, shown_width}
use Rattle.dg_model.specs.Wires.{at_source, repeated, type_into, types_into, value_into, values_into}
use Rattle.dg_tables.specs.Laws.{SolvedIsInRange, TypesAreValid}
use Rattle.dg_filters.specs.Laws.{TapsAreHeld}
use Rattle.hw_lower.proofs.Products.{word-range, product-in-word}
use Rattle.laws_filters.specs.Laws.{AreFitting, IsSolved, FittingConvolve}
use Rattle.laws_filters.proofs.Terms.{twice, repeated_below, converts_from, term_at}

module _ (ranges : SolvedIsInRange) (identity : SameTypeIsIdentity) (storing : StoringGivesOne) (valid : TypesAreValid) (fulls : FullProductIsOne) (taps_held : TapsAreHeld)
    (diagram : Diagram) (order : List ℕ) (stimulus : Stimulus) (n : ℕ) (table : Table) (first : ℕ) (taps : Taps) (sum : Block) (enable : Option ℕ) (reset : Bool)
    (solved : IsSolved diagram order stimulus n table) (filter : IsFilter diagram first taps sum enable reset) (fitting : AreFitting (attributes_of diagram) first taps)
  where
    abbrev attributes : Attributes
    attributes = attributes_of diagram

    abbrev count : ℕ
    count = length taps.coefficients

    abbrev width : ℕ
    width = (attributes_of diagram).width_at first 1

    abbrev last : ℕ
    last = sum_of first taps

    -- ---- entries that are shown

    ports : (place : ℕ) (kind : Kind) (b : Block) → IsKindAt diagram place kind b → HasPorts kind b.inputs b.outputs
    ports place kind b is =
        subst (λ (k : Kind). HasPorts k b.inputs b.outputs) is.kind_is (held IsReadable diagram.blocks place b solved.ordered.checked.wired.blocks is.block_is).ports

    shown_as : (place : ℕ) (kind : Kind) (b : Block) (element : ℕ) → IsKindAt diagram place kind b
        → 1 ≤ shown_ports kind b.outputs → element < shown_width diagram attributes kind place 1
        → IsShown diagram attributes place b 1 element
    shown_as place kind b element is some below = record {
      block_is = is.block_is;
      port_from = omega arith;
      port_to = subst (λ (k : Kind). 1 ≤ shown_ports k b.outputs) (sym is.kind_is) some;
      element_below = subst (λ (k : Kind). element < shown_width diagram attributes k place 1) (sym is.kind_is) below;
    }

    tap_shown : (k element : ℕ) → k < count → element < attributes.width_at (tap first k) 1 → (b : Block) × IsShown diagram attributes (tap first k) b 1 element
    tap_shown zero element inside below =
        let input = filter.input in
        let place : first ≡ tap first 0 = omega arith in
        let is : IsKindAt diagram (tap first 0) (Pass 0) input.0 = subst (λ (p : ℕ). IsKindAt diagram p (Pass 0) input.0) place input.1 in
        let outputs : input.0.outputs ≡ 1 = (ports (tap first 0) (Pass 0) input.0 is).1 in
        (input.0, shown_as (tap first 0) (Pass 0) input.0 element is (omega (arith, outputs)) below)
    tap_shown (suc k) element inside below =
        let value = get_some taps.initial k (omega (arith, inside, filter.values)) in
        let delay = filter.delays k value.0 value.1 in
        let outputs : delay.0.outputs ≡ 1 = (ports (tap first (suc k)) (Delay 1 (value.0 ∷ []) reset) delay.0 delay.1).1 in
        (delay.0, shown_as (tap first (suc k)) (Delay 1 (value.0 ∷ []) reset) delay.0 element delay.1 (omega (arith, outputs)) below)

    tap_in_range : (k element t : ℕ) → k < count → element < width → t < n → InRange (attributes.type_at (tap first k) 1) (shown_to attributes table (tap first k) element t)
    tap_in_range k element t inside below early =
        let own : attributes.width_at (tap first k) 1 ≡ width = fitting.alike.widths k inside in
        let within = repeated_below (attributes.width_at (tap first k) 1) element (omega (arith, below, own)) in
        let shown = tap_shown k (repeated (attributes.width_at (tap first k) 1) element) inside within in
        ranges diagram order stimulus n table solved.ordered solved.stimulated solved.solves (tap first k) shown.0 1 (repeated (attributes.width_at (tap first k) 1) element) t shown.1 early

    -- ---- products

    module _ (k : ℕ) (inside : k < count) (coefficient : Decimal) (there : slice_get taps.coefficients k ≡ Some coefficient) (element : ℕ) (below : element < width) where
      abbrev place : ℕ
      place = product first taps k

      gain : (b : Block) × IsKindAt diagram (product first taps k) (Gain (coefficient ∷ []) taps.param) b
          × (b.result ≡ Internal) × IsFed diagram (tap first k) (product first taps k) 1
          × IsFed diagram (product first taps k) (sum_of first taps) (suc k)
      gain = filter.products k coefficient there

      abbrev served : ℕ
      served = repeated (attributes.width_at (product first taps k) 1) element

      served_below : repeated (attributes.width_at (product first taps k) 1) element < attributes.width_at (product first taps k) 1
      served_below = repeated_below (attributes.width_at place 1) element (omega (arith, below, fitting.widths k inside))

      gain_ports : HasPorts (Gain (coefficient ∷ []) taps.param) gain.0.inputs gain.0.outputs
      gain_ports = ports place (Gain (coefficient ∷ []) taps.param) gain.0 gain.1

      gain_shown : IsShown diagram attributes (product first taps k) gain.0 1 (repeated (attributes.width_at (product first taps k) 1) element)
      gain_shown = let outputs : gain.0.outputs ≡ 1 = gain_ports.1 in shown_as place (Gain (coefficient ∷ []) taps.param) gain.0 served gain.1 (omega (arith, outputs)) served_below

      type_in : type_into diagram attributes (product first taps k) 1 ≡ attributes.type_at (tap first k) 1
      type_in = ap (λ (o : Option Edge). at_source o Logical attributes.type_at) gain.3

      value_in : (t : ℕ) → value_into diagram attributes table (product first taps k) 1
          (repeated (attributes.width_at (product first taps k) 1) element) t
          ≡ shown_to attributes table (tap first k) element t
      value_in t =
          let fed = ap (λ (o : Option Edge). at_source o (pos 0) (λ from from_port. table from from_port (repeated (attributes.width_at from from_port) served) t)) gain.3 in
          let own : attributes.width_at (tap first k) 1 ≡ attributes.width_at place 1 = fitting.alike.widths k inside ∙ sym (fitting.widths k inside) in
          let e : repeated (attributes.width_at (tap first k) 1) served ≡ repeated (attributes.width_at (tap first k) 1) element =
          ap (λ (w : ℕ). repeated w served) own ∙ twice (attributes.width_at place 1) element ∙ sym (ap (λ (w : ℕ). repeated w element) own) in
          fed ∙ ap (λ (s : ℕ). table (tap first k) 1 s t) e

      -- the product of what its tap shows and the stored coefficient
      abbrev Multiplies : ℕ → Type 0
      Multiplies t =
          (c : ℤ) × Stores coefficient (attributes.param_at (product first taps k)) c
          × (shown_to attributes table (product first taps k) element t ≡ shown_to attributes table (tap first k) element t *ℤ c)

      by_types : (t : ℕ) → t < n → (types : List FxType) (values : List ℤ)
          → type_of types 0 ≡ attributes.type_at (tap first k) 1
          → value_of values 0 ≡ shown_to attributes table (tap first k) element t → (c : ℤ)
          → Stores coefficient (attributes.param_at (product first taps k)) c
          → (full : FxType) → IsFullProduct (type_of types 0) (attributes.param_at (product first taps k)) full
          → (v : ℤ) → Converts (value_of values 0 *ℤ c) full
          (attributes.type_at (product first taps k) 1) gain.0.rounding gain.0.saturate v
          → v ≡ shown_to attributes table (tap first k) element t *ℤ c
      by_types t early types values type value c stored full is_full v converts =
          let x : ℤ = shown_to attributes table (tap first k) element t in
          let own : FxType = attributes.type_at place 1 in
          let valid_tap = tap_shown k (repeated (attributes.width_at (tap first k) 1) element) inside
          (repeated_below (attributes.width_at (tap first k) 1) element
          (omega (arith, below, fitting.alike.widths k inside))) in
          let type_a : IsType (attributes.type_at (tap first k) 1) = (valid diagram order (tap first k) valid_tap.0 solved.ordered valid_tap.1.block_is).0 in
          let type_b : IsType (attributes.param_at place) = (valid diagram order place gain.0 solved.ordered gain.1.block_is).1 in
          let type_own : IsType (attributes.type_at place 1) = (valid diagram order place gain.0 solved.ordered gain.1.block_is).0 in
          let fits = fitting.types k inside in
          let full_a : IsFullProduct (attributes.type_at (tap first k) 1) (attributes.param_at place) full = subst (λ (a : FxType). IsFullProduct a (attributes.param_at place) full) type is_full in
          let same : full ≡ attributes.type_at place 1 =
          same_Some full (attributes.type_at place 1)
          (sym ((fulls (attributes.type_at (tap first k) 1) (attributes.param_at place) full).0 full_a)
          ∙ (fulls (attributes.type_at (tap first k) 1) (attributes.param_at place)
          (attributes.type_at place 1)).0 fits) in
          let one = storing coefficient (attributes.param_at place) type_b in
          let in_c : InRange (attributes.param_at place) c = subst (InRange (attributes.param_at place)) (sym (one.only c stored)) one.in_range in
          let in_x : InRange (attributes.type_at (tap first k) 1) (shown_to attributes table (tap first k) element t) = tap_in_range k element t inside below early in
          let in_product : InRange (attributes.type_at place 1) (shown_to attributes table (tap first k) element t *ℤ c) =
          word-range (attributes.type_at place 1) (shown_to attributes table (tap first k) element t *ℤ c)
          (product-in-word (attributes.type_at (tap first k) 1) (attributes.param_at place)
          (attributes.type_at place 1)
          (shown_to attributes table (tap first k) element t) c type_a type_b in_x in_c fits) in
          let exact : Converts (shown_to attributes table (tap first k) element t *ℤ c) (attributes.type_at place 1) (attributes.type_at place 1) gain.0.rounding gain.0.saturate v =
          subst (λ (f : FxType). Converts (shown_to attributes table (tap first k) element t *ℤ c) f (attributes.type_at place 1) gain.0.rounding gain.0.saturate v) same
          (subst (λ (w : ℤ). Converts (w *ℤ c) full (attributes.type_at place 1) gain.0.rounding gain.0.saturate v) value converts) in
          identity (shown_to attributes table (tap first k) element t *ℤ c) (attributes.type_at place 1) gain.0.rounding gain.0.saturate v type_own in_product exact

      at_hit : (t : ℕ) → t < n → Hits (attributes.period_at (product first taps k)) t → Multiplies t
      at_hit t early hit =
          let at = solved.solves.at_hits place gain.0 1 served t gain_shown early hit in
          let of = MatchOption-at_some ⊥ (λ (b : Block). KindEquation diagram attributes stimulus table b.kind b place 1 served t (table place 1 served t)) gain.0 gain.1.block_is at in
          let eq : KindEquation diagram attributes stimulus table (Gain (coefficient ∷ []) taps.param) gain.0 place 1 served t (table place 1 served t) =
          subst (λ (kind : Kind). KindEquation diagram attributes stimulus table kind gain.0 place 1 served t (table place 1 served t)) gain.1.kind_is of in
          let is_op : IsOpOf (Gain (coefficient ∷ []) taps.param) served (attributes.param_at place) (type_into diagram attributes place 2) eq.0 =
          subst (λ (kind : Kind). IsOpOf kind served (attributes.param_at place) (type_into diagram attributes place 2) eq.0) gain.1.kind_is eq.1 in
          let operation : Operation = record {
            op = eq.0;
            signs = signs_of gain.0.kind;
            types =
                types_into diagram attributes place gain.0.inputs;
            result =
                attributes.type_at place 1;
            rounding = gain.0.rounding;
            saturate = gain.0.saturate;
          } in
          let gives : Gives (OpGain is_op.0 (attributes.param_at place)) operation
          (types_into diagram attributes place gain.0.inputs)
          (values_into diagram attributes table place gain.0.inputs served t) (table place 1 served t) =
          subst (λ (op : Op). Gives op operation (types_into diagram attributes place gain.0.inputs)
          (values_into diagram attributes table place gain.0.inputs served t) (table place 1 served t)) is_op.2
          eq.2 in
          let one : gain.0.inputs ≡ 1 = gain_ports.0 in
          let type : type_of (types_into diagram attributes place gain.0.inputs) 0
          ≡ attributes.type_at (tap first k) 1 =
          ap (λ (m : ℕ). type_of (types_into diagram attributes place m) 0) one ∙ type_in in
          let value : value_of (values_into diagram attributes table place gain.0.inputs served t) 0
          ≡ shown_to attributes table (tap first k) element t =
          ap (λ (m : ℕ). value_of (values_into diagram attributes table place m served t) 0) one
          ∙ value_in t in (
            is_op.0,
            is_op.1,
            by_types t early (types_into diagram attributes place gain.0.inputs)
                (values_into diagram attributes table place gain.0.inputs served t) type value is_op.0 is_op.1 gives.0
                gives.1 (table place 1 served t) gives.2,
          )

      -- where its value never changes
      stays : (t : ℕ) → suc t < n → attributes.period_at (product first taps k) ≡ None → attributes.period_at (tap first k) ≡ None → Multiplies (suc t)
      stays t early own source =
          let base = at_hit 0 (omega (arith, early)) (subst (λ (p : Option ℕ). Hits p 0) (sym own) refl) in
          let apart : ¬ (suc t ≡ 0) = λ e. absurd (omega (arith, e)) in
          let product_off : ¬ Hits (attributes.period_at (product first taps k)) (suc t) = subst (λ (p : Option ℕ). ¬ Hits p (suc t)) (sym own) apart in
          let tap_off : ¬ Hits (attributes.period_at (tap first k)) (suc t) = subst (λ (p : Option ℕ). ¬ Hits p (suc t)) (sym source) apart in
          let product_stays : table place 1 served (suc t) ≡ table place 1 served 0 =
          solved.solves.between_hits place gain.0 1 served (suc t) gain_shown early product_off
          ∙ ap (λ (p : Option ℕ). table place 1 served (last_hit p (suc t))) own in
          let w : ℕ = repeated (attributes.width_at (tap first k) 1) element in
          let shown = tap_shown k (repeated (attributes.width_at (tap first k) 1) element) inside
          (repeated_below (attributes.width_at (tap first k) 1) element
          (omega (arith, below, fitting.alike.widths k inside))) in
          let tap_stays : table (tap first k) 1 (repeated (attributes.width_at (tap first k) 1) element) (suc t) ≡ table (tap first k) 1 (repeated (attributes.width_at (tap first k) 1) element) 0 =
          solved.solves.between_hits (tap first k) shown.0 1 w (suc t) shown.1 early tap_off ∙ ap (λ (p : Option ℕ). table (tap first k) 1 w (last_hit p (suc t))) source in
          (base.0, base.1, product_stays ∙ base.2 ∙ sym (ap (λ (x : ℤ). x *ℤ base.0) tap_stays))

      multiplies : (t : ℕ) → t < n → Hits (attributes.period_at (sum_of first taps)) t → Multiplies t
      multiplies t early hit = elim (fitting.products k inside) [
        | inl same ↦ at_hit t early (subst (λ (p : Option ℕ). Hits p t) (sym same) hit)
        | inr never ↦ by t early never.0 never.1
      ]
        where
          by : (t : ℕ) → t < n → attributes.period_at (product first taps k) ≡ None → attributes.period_at (tap first k) ≡ None → Multiplies t
          by zero early own source = at_hit 0 early (subst (λ (p : Option ℕ). Hits p 0) (sym own) refl)
          by (suc t) early own source = stays t early own source

    -- ---- the sum

    module _ (element t : ℕ) (below : element < width) (early : t < n) (hit : Hits (attributes.period_at (sum_of first taps)) t) where
      abbrev signs : List Bool
      signs = replicate (length taps.coefficients) false

      abbrev hits : List ℕ
      hits = counted_hits table enable reset ((attributes_of diagram).period_at (tap first 1)) t

      abbrev types_from : ℕ → ℕ → List FxType
      types_from from many = map (type_into diagram (attributes_of diagram) (sum_of first taps)) (numbers_from from many)

      abbrev values_from : ℕ → ℕ → List ℤ
      values_from from many = map (λ port. value_into diagram (attributes_of diagram) table (sum_of first taps) port element t) (numbers_from from many)

      summed : Gives (OpSum None) (record {
        op = OpSum None;
        signs = signs;
        types = types_from 1 count;
        result =
            attributes.type_at last 1;
        rounding = sum.rounding;
        saturate = sum.saturate;
      }) (types_from 1 count)
          (values_from 1 count) (table (sum_of first taps) 1 element t)
      summed =
          let has = ports last (Sum signs Internal) sum filter.total in
          let outputs : sum.outputs ≡ 1 = has.1 in
          let inputs : sum.inputs ≡ count = has.0 ∙ length-replicate count false in
          let shown = shown_as last (Sum signs Internal) sum element filter.total (omega (arith, outputs)) (omega (arith, below, fitting.width)) in
          let at = solved.solves.at_hits last sum 1 element t shown early hit in
          let of = MatchOption-at_some ⊥ (λ (b : Block). KindEquation diagram attributes stimulus table b.kind b last 1 element t (table last 1 element t)) sum filter.total.block_is at in
          let eq : KindEquation diagram attributes stimulus table (Sum signs Internal) sum last 1 element t (table last 1 element t) =
          subst (λ (kind : Kind). KindEquation diagram attributes stimulus table kind sum last 1 element t (table last 1 element t)) filter.total.kind_is of in
          let is_op : eq.0 ≡ OpSum None = subst (λ (kind : Kind). IsOpOf kind element (attributes.param_at last) (type_into diagram attributes last 2) eq.0) filter.total.kind_is eq.1 in
          let by_op : (op : Op) → op ≡ OpSum None → (own_signs : List Bool) → own_signs ≡ signs → (many : ℕ) → many ≡ count
          → Gives op (record {
            op = op;
            signs = own_signs;
            types = types_from 1 many;
            result =
                attributes.type_at last 1;
            rounding = sum.rounding;
            saturate = sum.saturate;
          }) (types_from 1 many)
          (values_from 1 many) (table last 1 element t)
          → Gives (OpSum None) (record {
            op = OpSum None;
            signs = signs;
            types = types_from 1 count;
            result =
                attributes.type_at last 1;
            rounding = sum.rounding;
            saturate = sum.saturate;
          }) (types_from 1 count)
          (values_from 1 count) (table last 1 element t) =
          λ op op_is own_signs signs_are many many_is given.
          subst (λ (o : Op). Gives o (record {
            op = o;
            signs = signs;
            types = types_from 1 count;
            result =
                attributes.type_at last 1;
            rounding = sum.rounding;
            saturate = sum.saturate;
          }) (types_from 1 count)
          (values_from 1 count) (table last 1 element t)) op_is
          (subst (λ (l : List Bool). Gives op
          (record {
            op = op;
            signs = l;
            types = types_from 1 count;
            result =
                attributes.type_at last 1;
            rounding = sum.rounding;
            saturate = sum.saturate;
          })
          (types_from 1 count) (values_from 1 count) (table last 1 element t)) signs_are
          (subst (λ (m : ℕ). Gives op (record {
            op = op;
            signs = own_signs;
            types = types_from 1 m;
            result =
                attributes.type_at last 1;
            rounding = sum.rounding;
            saturate = sum.saturate;
          }) (types_from 1 m)
          (values_from 1 m) (table last 1 element t)) many_is given)) in
          by_op eq.0 is_op (signs_of sum.kind) (ap signs_of filter.total.kind_is) sum.inputs inputs eq.2

      -- the entry of each product is a term
      type_of_term : (k : ℕ) → k < count → type_into diagram attributes last (suc k) ≡ attributes.type_at (product first taps k) 1
      type_of_term k inside =
          let coefficient = get_some taps.coefficients k inside in
          ap (λ (o : Option Edge). at_source o Logical attributes.type_at) (filter.products k coefficient.0 coefficient.1).4

      value_of_term : (k : ℕ) → k < count → value_into diagram attributes table last (suc k) element t ≡ shown_to attributes table (product first taps k) element t
      value_of_term k inside =
          let coefficient = get_some taps.coefficients k inside in
          ap (λ (o : Option Edge). at_source o (pos 0)
          (λ from from_port. table from from_port (repeated (attributes.width_at from from_port) element) t))
          (filter.products k coefficient.0 coefficient.1).4

      -- these and those behind come to the sum of their products
      convolved : (frac : ℤ) (coefficients : List Decimal) (k : ℕ) → ((j : ℕ) (c : Decimal) → slice_get coefficients j ≡ Some c → slice_get taps.coefficients (k + j) ≡ Some c)
          → IsConvolved attributes table first taps hits frac element t coefficients k
          (signed_sum frac (zip (replicate (length coefficients) false) (types_from (suc k) (length coefficients))) (values_from (suc k) (length coefficients)))
      convolved frac [] k among = refl
      convolved frac (coefficient ∷ coefficients) k among =
          let same : k + 0 ≡ k = omega arith in
          let there : slice_get taps.coefficients k ≡ Some coefficient = sym (ap (slice_get taps.coefficients) same) ∙ among 0 coefficient refl in
          let inside : k < count = slice_get_within taps.coefficients k coefficient there in
          let m = multiplies k inside coefficient there element below t early hit in
          let rest : ℤ = signed_sum frac (zip (replicate (length coefficients) false) (types_from (suc (suc k)) (length coefficients))) (values_from (suc (suc k)) (length coefficients)) in
          let held_hit = subst (λ (p : Option ℕ). Hits p t) (sym fitting.delays) hit in
          let own : IsHeld attributes table first taps hits element t k (shown_to attributes table (tap first k) element t) =
          taps_held diagram attributes stimulus n table first taps sum enable reset solved.ordered.checked.wired solved.solves filter fitting.alike k element t inside below early held_hit in
          let more = convolved frac coefficients (suc k) (λ j c at. let next : suc k + j ≡ k + suc j = omega arith in ap (slice_get taps.coefficients) next ∙ among (suc j) c at) in (
            shown_to attributes table (tap first k) element t,
            m.0,
            signed_sum frac (zip (replicate (length coefficients) false) (types_from (suc (suc k)) (length coefficients))) (values_from (suc (suc k)) (length coefficients)),
            own,
            m.1,
            more,
            ap₂ (λ (type : FxType) (v : ℤ). (v *ℤ pos (2 ^ int_gap (frac_of type) frac)) +ℤ signed_sum frac
                (zip (replicate (length coefficients) false) (types_from (suc (suc k)) (length coefficients)))
                (values_from (suc (suc k)) (length coefficients)))
                (type_of_term k inside) (value_of_term k inside ∙ m.2),
          )

      convolves : Convolves attributes table first taps sum enable reset element t
      convolves =
          let full : FxType = summed.0 in
          record {
            frac = frac_of summed.0;
            total = signed_sum (frac_of summed.0) (zip signs (types_from 1 count)) (values_from 1 count);
            exact = λ k inside.
                let term = held (λ (term : Bool × FxType). frac_of term.1 ≤ℤ frac_of summed.0)
                (zip signs (types_from 1 count)) k
                (false, type_into diagram attributes last (1 + k)) summed.1.frac.bound
                (term_at (type_into diagram attributes last) 1 count k inside) in
                let next : 1 + k ≡ suc k = omega arith in
                subst (λ (type : FxType). frac_of type ≤ℤ frac_of summed.0) (ap (type_into diagram attributes last) next ∙ type_of_term k inside) term;
            convolved = convolved (frac_of summed.0) taps.coefficients 0 (λ j c at. let same : 0 + j ≡ j = omega arith in ap (slice_get taps.coefficients) same ∙ at);
            converted = λ from same. converts_from
                (signed_sum (frac_of summed.0) (zip signs (types_from 1 count)) (values_from 1 count)) summed.0 from
                (attributes.type_at last 1) sum.rounding sum.saturate (table last 1 element t) same summed.2;
          }

pub fitting_convolve : SolvedIsInRange → SameTypeIsIdentity → StoringGivesOne → TypesAreValid → FullProductIsOne → TapsAreHeld → FittingConvolve
fitting_convolve ranges identity storing valid fulls taps_held diagram order stimulus n table first taps sum enable reset element t solved filter fitting below early hit =
    convolves ranges identity storing valid fulls taps_held diagram order stimulus n table first taps sum enable reset solved filter fitting element t (omega (arith, below, fitting.width)) early hit
