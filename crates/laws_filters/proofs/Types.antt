-- The delays of a filter have the type of its input, and each product has the full type of its tap and
-- its coefficient.
use Rattle.std.proofs.Common.{◌≡◌, ℕ, zero, suc, ◌<◌, ◌≤◌, Bool, List, [], ◌∷◌, length, Option, Some, None, IsSome, slice_get, true≢false, ap, sym, ◌∙◌, subst, refl, arith}
use Rattle.std.proofs.lemmas.List.{length-map}
use Rattle.std.proofs.lemmas.Option.{none-some, same_Some, slice_get_within, get_or_from_slice_get}
use Rattle.fx_type.specs.declared.decimal.Decimal.{Decimal}
use Rattle.fx_type.specs.declared.kind.FxType.{FxType}
use Rattle.fx_type.specs.declared.kind.FxType.TheVariants.{Logical}
use Rattle.fx_type.specs.declared.spec.TypeSpec.{TypeSpec}
use Rattle.fx_type.specs.declared.spec.TypeSpec.TheVariants.{Internal}
use Rattle.fx_type.specs.FullType.{IsFullProduct}
use Rattle.fx_type.specs.FullTypeOf.{full_product_of}
use Rattle.fx_type.specs.Laws.{FullProductIsOne}
use Rattle.math_list.proofs.Places.{held, get_some, there_map}
use Rattle.dg_waves.proofs.WaveRounds.{round_at, length_after}
use Rattle.dg_model.specs.declared.diagram.Block.{Block}
use Rattle.dg_model.specs.declared.diagram.Diagram.{Diagram}
use Rattle.dg_model.specs.declared.diagram.Edge.{Edge}
use Rattle.dg_model.specs.declared.kind.Kind.{Kind}
use Rattle.dg_model.specs.declared.kind.Kind.TheVariants.{Delay, Gain}
use Rattle.dg_model.specs.Attributes.{attributes_of, or_logical, coefficient_type, param_type_at}
use Rattle.dg_model.specs.Checked.{IsChecked}
use Rattle.dg_model.specs.Convolution.{Taps, IsFilter, IsKindAt, IsFed, tap, product}
use Rattle.dg_model.specs.GainParam.{param_type_of}
use Rattle.dg_model.specs.Library.{row_of}
use Rattle.dg_model.specs.Periods.{known_at, known_or}
use Rattle.dg_model.specs.Readable.{IsReadable, HasPorts}
use Rattle.dg_model.specs.TypeRounds.{Types, with_known, explicit_type, input_types, taken_type, type_of_next, next_types, types_after, types_of}
use Rattle.dg_model.specs.Wires.{edges_into, at_source, type_into}
use Rattle.dg_tables.proofs.Edges.{edge_at}
use Rattle.dg_tables.specs.Fit.{KeepsType}
use Rattle.dg_tables.specs.Laws.{IsOrdered, SignalsFit}

-- what follows from a known type, where it is known
known_first : {A B : Type 0} (o : Option A) (next : A → Option B) (y : B) → with_known o next ≡ Some y → (x : A) × (o ≡ Some x) × (next x ≡ Some y)
known_first None next y is = absurd (none-some y is)
known_first (Some x) next y is = (x, refl, is)

known_is : {A : Type 0} (o : Option A) → IsSome o → (x : A) × (o ≡ Some x)
known_is None is = absurd (true≢false (sym is))
known_is (Some x) is = (x, refl)

module _ (diagram : Diagram) (checked : IsChecked diagram) where
  ports : (place : ℕ) (kind : Kind) (b : Block) → IsKindAt diagram place kind b → HasPorts kind b.inputs b.outputs
  ports place kind b is = subst (λ (k : Kind). HasPorts k b.inputs b.outputs) is.kind_is (held IsReadable diagram.blocks place b checked.wired.blocks is.block_is).ports

  abbrev after : ℕ → ℕ → Option FxType
  after rounds place = known_at (types_after diagram rounds) place

  start_long : length (types_after diagram 0) ≡ length diagram.blocks
  start_long = length-map diagram.blocks (λ (block : Block). explicit_type block.result)

  after_next : (rounds place : ℕ) → place < length diagram.blocks → after (suc rounds) place ≡ next_types diagram (types_after diagram rounds) place
  after_next rounds place below =
      let long : length (types_after diagram rounds) ≡ length diagram.blocks = length_after (next_types diagram) rounds (types_after diagram 0) ∙ start_long in
      get_or_from_slice_get (types_after diagram (suc rounds)) place (next_types diagram (types_after diagram rounds) place) None
      (round_at (next_types diagram) (types_after diagram rounds) place (subst (λ (n : ℕ). place < n) (sym long) below))

  -- what is known stays
  stays : (rounds place : ℕ) (type : FxType) → place < length diagram.blocks → after rounds place ≡ Some type → after (suc rounds) place ≡ Some type
  stays rounds place type below is =
      after_next rounds place below
      ∙ ap (λ (o : Option FxType). known_or o (type_of_next (slice_get diagram.blocks place) (input_types diagram (types_after diagram rounds) place))) is

  -- ---- a Gain of the internal rule

  module _ (place from : ℕ) (value : List Decimal) (param : TypeSpec) (b : Block)
      (is : IsKindAt diagram place (Gain value param) b) (internal : b.result ≡ Internal)
      (fed : IsFed diagram from place 1) (source : from < length diagram.blocks) where
    one_input : b.inputs ≡ 1
    one_input = (ports place (Gain value param) b is).0

    input_is : (types : Types) → known_at (input_types diagram types place) 0 ≡ known_at types from
    input_is types =
        let own = edge_at diagram checked.wired place b is.block_is 0 (omega (arith, one_input)) in
        let same : own.0 ≡ record { from = from; from_port = 1; to = place; to_port = 1 } = same_Some own.0 _ (sym own.2 ∙ fed) in
        get_or_from_slice_get (input_types diagram types place) 0 (known_at types own.0.from) None (there_map (λ (edge : Edge). known_at types edge.from) (edges_into diagram place) 0 own.0 own.1)
        ∙ ap (λ (e : Edge). known_at types e.from) same

    -- the full type of an input and the coefficients
    abbrev full_of : Option FxType → Option FxType
    full_of input = with_known input (λ type. with_known (param_type_of value param type) (full_product_of type))

    next_is : (types : Types) → type_of_next (slice_get diagram.blocks place) (input_types diagram types place) ≡ full_of (known_at types from)
    next_is types =
        ap (λ (o : Option Block). type_of_next o (input_types diagram types place)) is.block_is
        ∙ ap (λ (kind : Kind). taken_type kind b.result (input_types diagram types place)) is.kind_is
        ∙ ap (λ (spec : TypeSpec). taken_type (Gain value param) spec (input_types diagram types place)) internal
        ∙ ap full_of (input_is types)

    full_stays : (rounds : ℕ) (type : FxType) → full_of (after rounds from) ≡ Some type → full_of (after (suc rounds) from) ≡ Some type
    full_stays rounds type is =
        let input = known_first (after rounds from) (λ type. with_known (param_type_of value param type) (full_product_of type)) type is in
        ap full_of (stays rounds from input.0 source input.1) ∙ input.2

    full_after : (rounds : ℕ) (type : FxType) → after rounds place ≡ Some type → full_of (after rounds from) ≡ Some type
    full_after zero type known =
        let start : after 0 place ≡ None = get_or_from_slice_get (types_after diagram 0) place
        (explicit_type b.result) None (there_map
        (λ (block : Block). explicit_type block.result) diagram.blocks place b is.block_is)
        ∙ ap explicit_type internal in
        absurd (none-some type (sym start ∙ known))
    full_after (suc rounds) type known =
        let below = slice_get_within diagram.blocks place b is.block_is in
        by (after rounds place) (full_after rounds)
        (ap (λ (o : Option FxType). known_or (after rounds place) o) (sym (next_is (types_after diagram rounds))) ∙ sym (after_next rounds place below) ∙ known)
      where
        by : (own : Option FxType) → ((type : FxType) → own ≡ Some type → full_of (after rounds from) ≡ Some type)
            → known_or own (full_of (after rounds from)) ≡ Some type → full_of (after (suc rounds) from) ≡ Some type
        by None again is = full_stays rounds type is
        by (Some other) again is = full_stays rounds type (again type is)

    pub gain_full : FullProductIsOne → 1 ≤ b.outputs
        → IsFullProduct ((attributes_of diagram).type_at from 1) ((attributes_of diagram).param_at place) ((attributes_of diagram).type_at place 1)
    gain_full fulls some =
        let own = known_is (known_at (types_of diagram) place) ((checked.types.known place b is.block_is).outputs some) in
        let input = known_first (known_at (types_of diagram) from)
        (λ type. with_known (param_type_of value param type) (full_product_of type)) own.0
        (full_after (length diagram.blocks) own.0 own.1) in
        let coefficient = known_first (param_type_of value param input.0) (full_product_of input.0) own.0 input.2 in
        let param_is : param_type_at diagram (types_of diagram) place ≡ Some coefficient.0 =
        ap (λ (o : Option Block). with_known o (λ block. coefficient_type (row_of block.kind).types.full (known_at (input_types diagram (types_of diagram) place) 0))) is.block_is
        ∙ ap (λ (kind : Kind). coefficient_type (row_of kind).types.full (known_at (input_types diagram (types_of diagram) place) 0)) is.kind_is
        ∙ ap (λ (o : Option FxType). with_known o (param_type_of value param)) (input_is (types_of diagram) ∙ input.1) ∙ coefficient.1 in
        let full : IsFullProduct input.0 coefficient.0 own.0 = (fulls input.0 coefficient.0 own.0).1 coefficient.2 in
        subst (λ (t : FxType). IsFullProduct t ((attributes_of diagram).param_at place) ((attributes_of diagram).type_at place 1)) (sym (ap or_logical input.1))
        (subst (λ (t : FxType). IsFullProduct input.0 t ((attributes_of diagram).type_at place 1)) (sym (ap or_logical param_is))
        (subst (λ (t : FxType). IsFullProduct input.0 coefficient.0 t) (sym (ap or_logical own.1)) full))

  -- ---- a filter

  module _ (order : List ℕ) (ordered : IsOrdered diagram order) (fit : SignalsFit) (fulls : FullProductIsOne)
      (first : ℕ) (taps : Taps) (sum : Block) (enable : Option ℕ) (reset : Bool)
      (filter : IsFilter diagram first taps sum enable reset) where
    abbrev count : ℕ
    count = length taps.coefficients

    pub delays_typed : (k : ℕ) → k < count → (attributes_of diagram).type_at (tap first k) 1 ≡ (attributes_of diagram).type_at first 1
    delays_typed zero inside = let same : tap first 0 ≡ first = omega arith in ap (λ (p : ℕ). (attributes_of diagram).type_at p 1) same
    delays_typed (suc k) inside =
        let value = get_some taps.initial k (omega (arith, inside, filter.values)) in
        let delay = filter.delays k value.0 value.1 in
        let keeps : KeepsType diagram (attributes_of diagram) (tap first (suc k)) (Delay 1 (value.0 ∷ []) reset) delay.0.inputs delay.0.outputs =
        subst (λ (kind : Kind). KeepsType diagram (attributes_of diagram)
        (tap first (suc k)) kind delay.0.inputs delay.0.outputs) delay.1.kind_is
        (fit diagram order (tap first (suc k)) delay.0 ordered delay.1.block_is).2 in
        let into : type_into diagram (attributes_of diagram) (tap first (suc k)) 1
        ≡ (attributes_of diagram).type_at (tap first k) 1 =
        ap (λ (o : Option Edge). at_source o Logical (attributes_of diagram).type_at) delay.3 in
        sym keeps ∙ into ∙ delays_typed k (omega (arith, inside))

    tap_within : (k : ℕ) → k < count → tap first k < length diagram.blocks
    tap_within zero inside =
        let same : tap first 0 ≡ first = omega arith in
        let below = slice_get_within diagram.blocks first filter.input.0 filter.input.1.block_is in
        omega (arith, same, below)
    tap_within (suc k) inside =
        let value = get_some taps.initial k (omega (arith, inside, filter.values)) in
        let delay = filter.delays k value.0 value.1 in
        slice_get_within diagram.blocks (tap first (suc k)) delay.0 delay.1.block_is

    pub products_full : (k : ℕ) → k < count
        → IsFullProduct ((attributes_of diagram).type_at (tap first k) 1)
        ((attributes_of diagram).param_at (product first taps k))
        ((attributes_of diagram).type_at (product first taps k) 1)
    products_full k inside =
        let coefficient = get_some taps.coefficients k inside in
        let gain = filter.products k coefficient.0 coefficient.1 in
        let outputs : gain.0.outputs ≡ 1 = (ports (product first taps k) (Gain (coefficient.0 ∷ []) taps.param) gain.0 gain.1).1 in
        gain_full (product first taps k) (tap first k) (coefficient.0 ∷ []) taps.param gain.0 gain.1 gain.2 gain.3 (tap_within k inside) fulls (omega (arith, outputs))
