-- The equation of a block at a place gives at most one number.
use Rattle.std.proofs.Common.{◌≡◌, ℕ, suc, ◌-◌, Bool, true, false, MatchBool, List, filter, slice_get, Option, Some, None, MatchOption, ℤ, ap, ap₂, sym, ◌∙◌, subst}
use Rattle.fx_type.specs.declared.kind.FxType.{FxType}
use Rattle.fx_type.specs.declared.decimal.Decimal.{Decimal}
use Rattle.fx_type.specs.declared.spec.TypeSpec.{TypeSpec}
use Rattle.fx_type.specs.declared.spec.TypeSpec.TheVariants.{Fixed, Internal, SameFirst, Auto}
use Rattle.std.proofs.lemmas.Option.{none-some, same_Some}
use Rattle.fx_type.specs.FxType.{IsType}
use Rattle.fx_type.specs.Conversion.{Stores}
use Rattle.dg_model.specs.declared.diagram.Diagram.{Diagram}
use Rattle.dg_model.specs.declared.diagram.Block.{Block}
use Rattle.dg_model.specs.declared.kind.Kind.{Kind}
use Rattle.dg_model.specs.declared.kind.Kind.TheVariants.{Inport, Outport, Constant, Ground, Sum, Gain, Product, Switch, Relational, Logic, Convert, Delay, Mux, Demux, RateTransition, Pass}
use Rattle.dg_model.specs.declared.kind.Kind.TheVariants.{EnableTest, EnOut, Terminator}
use Rattle.dg_model.specs.declared.op.Op.{Op}
use Rattle.dg_model.specs.declared.op.Op.TheVariants.{Sum as OpSum, Gain as OpGain, Switch as OpSwitch}
use Rattle.dg_model.specs.Signals.{Attributes, Stimulus, Table}
use Rattle.dg_model.specs.Hits.{hits_before, counted_hits, is_slow_to_fast}
use Rattle.dg_model.specs.Operation.{OpGives}
use Rattle.dg_model.specs.Wires.{widths_into, type_into, types_into, value_into, values_into, entry_of, period_into}
use Rattle.dg_model.specs.Equation.{StoresEntry, IsOpOf, accumulator, signs_of, is_enabled, IsInputAt, ElementEquation, MuxEquation, RateEquation, EnOutEquation, KindEquation}
use Rattle.dg_tables.proofs.Ground.{IsRanked}
use Rattle.math_list.proofs.Sums.{parts_one}
use Rattle.fx_round.specs.Laws.{StoringGivesOne}
use Rattle.dg_blocks.specs.Laws.{AddsUpInType, OperationGivesAtMostOne}
use Rattle.dg_tables.proofs.Sources.{type_into_valid}

module _ (storing : StoringGivesOne) (at_most : OperationGivesAtMostOne) where
  entry_one : (list : List Decimal) (element : ℕ) (type : FxType) (v w : ℤ) → IsType type → StoresEntry list element type v → StoresEntry list element type w → v ≡ w
  entry_one list element type v w valid = go (entry_of list element)
    where
      go : (o : Option Decimal) → MatchOption o ⊥ (λ decimal. Stores decimal type v) → MatchOption o ⊥ (λ decimal. Stores decimal type w) → v ≡ w
      go None a b = absurd a
      go (Some decimal) a b = let one = storing decimal type valid in one.only v a ∙ sym (one.only w b)

  op_one : (kind : Kind) (element : ℕ) (param control : FxType) (op other : Op) → IsType param → IsType control
      → IsOpOf kind element param control op → IsOpOf kind element param control other → op ≡ other
  op_one (Sum negative accum) element param control op other p c a b = a ∙ sym b
  op_one (Gain value spec) element param control op other p c a b = a.2 ∙ ap (λ (v : ℤ). OpGain v param) (entry_one value element param a.0 b.0 p a.1 b.1) ∙ sym b.2
  op_one Product element param control op other p c a b = a ∙ sym b
  op_one (Switch criterion threshold) element param control op other p c a b = a.2 ∙ ap (λ (v : ℤ). OpSwitch criterion v) (entry_one threshold element control a.0 b.0 c a.1 b.1) ∙ sym b.2
  op_one (Relational operator) element param control op other p c a b = a ∙ sym b
  op_one (Logic operator) element param control op other p c a b = a ∙ sym b
  op_one (Convert stored) element param control op other p c a b = a ∙ sym b
  op_one (Pass width) element param control op other p c a b = a ∙ sym b
  op_one (Outport number) element param control op other p c a b = a ∙ sym b
  op_one _ element param control op other p c a b = absurd a

  -- the type of its accumulator is valid
  abbrev accum_of : Op → Option FxType
  accum_of (OpSum accum) = accum
  accum_of _ = None

  none_adds : (op : Op) → accum_of op ≡ None → AddsUpInType op
  none_adds op none accum e = absurd (none-some accum (sym none ∙ ap accum_of e))

  sum_adds : (spec : TypeSpec) (param : FxType) → IsType param → (accum : FxType) → accumulator spec param ≡ Some accum → IsType accum
  sum_adds (Fixed type) param p accum e = subst IsType (same_Some param accum e) p
  sum_adds Internal param p accum e = absurd (none-some accum e)
  sum_adds SameFirst param p accum e = subst IsType (same_Some param accum e) p
  sum_adds Auto param p accum e = absurd (none-some accum e)

  op_adds : (kind : Kind) (element : ℕ) (param control : FxType) (op : Op) → IsType param → IsOpOf kind element param control op → AddsUpInType op
  op_adds (Sum negative spec) element param control op p is = λ accum e. sum_adds spec param p accum (sym (ap accum_of is) ∙ ap accum_of e)
  op_adds (Gain value spec) element param control op p is = none_adds op (ap accum_of is.2)
  op_adds Product element param control op p is = none_adds op (ap accum_of is)
  op_adds (Switch criterion threshold) element param control op p is = none_adds op (ap accum_of is.2)
  op_adds (Relational operator) element param control op p is = none_adds op (ap accum_of is)
  op_adds (Logic operator) element param control op p is = none_adds op (ap accum_of is)
  op_adds (Convert stored) element param control op p is = none_adds op (ap accum_of is)
  op_adds (Pass width) element param control op p is = none_adds op (ap accum_of is)
  op_adds (Outport number) element param control op p is = none_adds op (ap accum_of is)
  op_adds _ element param control op p is = absurd is

  module _ (diagram : Diagram) (attributes : Attributes) (rank : ℕ → ℕ) (checked : IsRanked diagram attributes rank) (stimulus : Stimulus) (table : Table)
      (block : ℕ) (b : Block) (block_is : slice_get diagram.blocks block ≡ Some b) (valid : IsType (attributes.type_at block 1)) (t : ℕ) (v w : ℤ)
    where
      input_one : (initial : List Decimal) (element : ℕ) (hit : Option ℕ)
          → IsInputAt diagram attributes stimulus table block initial element hit v
          → IsInputAt diagram attributes stimulus table block initial element hit w → v ≡ w
      input_one initial element None p q = entry_one initial element (attributes.type_at block 1) v w valid p q
      input_one initial element (Some h) p q = p ∙ sym q

      element_one : (element : ℕ) → ElementEquation diagram attributes stimulus table b block element t v → ElementEquation diagram attributes stimulus table b block element t w → v ≡ w
      element_one element p q =
          let e : p.0 ≡ q.0 = op_one b.kind element (attributes.param_at block)
          (type_into diagram attributes block 2) p.0 q.0 (checked.params block b block_is)
          (type_into_valid diagram attributes checked.wired checked.types block 2) p.1 q.1 in
          at_most (record {
            op = q.0;
            signs = signs_of b.kind;
            types =
                types_into diagram attributes block b.inputs;
            result =
                attributes.type_at block 1;
            rounding = b.rounding;
            saturate = b.saturate;
          })
          (values_into diagram attributes table block b.inputs element t) v w valid
          (op_adds b.kind element (attributes.param_at block) (type_into diagram attributes block 2) q.0
          (checked.params block b block_is) q.1)
          (subst (λ (op : Op). OpGives (record {
            op = op;
            signs = signs_of b.kind;
            types =
                types_into diagram attributes block b.inputs;
            result = attributes.type_at block 1;
            rounding =
                b.rounding;
            saturate = b.saturate;
          })
          (values_into diagram attributes table block b.inputs element t) v) e p.2)
          q.2

      mux_one : (element : ℕ) → MuxEquation diagram attributes stimulus table b block element t v → MuxEquation diagram attributes stimulus table b block element t w → v ≡ w
      mux_one element p q =
          let e = parts_one (widths_into diagram attributes block b.inputs) p.0 q.0 p.1 q.1 p.2.signal_is q.2.signal_is p.2.within q.2.within (sym p.2.place ∙ q.2.place) in
          p.3 ∙ ap₂ (λ (signal k : ℕ). value_into diagram attributes table block (suc signal) k t) e.0 e.1 ∙ sym q.3

      rate_one : (initial : List Decimal) (element : ℕ)
          → RateEquation diagram attributes stimulus table block initial element t v
          → RateEquation diagram attributes stimulus table block initial element t w → v ≡ w
      rate_one initial element p q = go (is_slow_to_fast (period_into diagram attributes block 1) (attributes.period_at block)) p q
        where
          go : (b : Bool)
              → MatchBool b (IsInputAt diagram attributes stimulus table block initial element
              (slice_get (hits_before (period_into diagram attributes block 1) (suc t)) 1) v)
              (v ≡ value_into diagram attributes table block 1 element t)
              → MatchBool b (IsInputAt diagram attributes stimulus table block initial element
              (slice_get (hits_before (period_into diagram attributes block 1) (suc t)) 1) w)
              (w ≡ value_into diagram attributes table block 1 element t) → v ≡ w
          go true p q = input_one initial element (slice_get (hits_before (period_into diagram attributes block 1) (suc t)) 1) p q
          go false p q = p ∙ sym q

      output_one : (reset : Bool) (initial : List Decimal) (element : ℕ)
          → EnOutEquation diagram attributes stimulus table b block reset initial element t v
          → EnOutEquation diagram attributes stimulus table b block reset initial element t w → v ≡ w
      output_one false initial element p q = input_one initial element (slice_get (filter (is_enabled table b.enable) (hits_before (attributes.period_at block) (suc t))) 0) p q
      output_one true initial element p q = go (is_enabled table b.enable t) p q
        where
          go : (enabled : Bool) → MatchBool enabled (v ≡ value_into diagram attributes table block 1 element t) (StoresEntry initial element (attributes.type_at block 1) v)
              → MatchBool enabled (w ≡ value_into diagram attributes table block 1 element t) (StoresEntry initial element (attributes.type_at block 1) w) → v ≡ w
          go true p q = p ∙ sym q
          go false p q = entry_one initial element (attributes.type_at block 1) v w valid p q

      pub kind_one : (kind : Kind) (port element : ℕ)
          → KindEquation diagram attributes stimulus table kind b block port element t v
          → KindEquation diagram attributes stimulus table kind b block port element t w → v ≡ w
      kind_one (Inport number width) port element p q = p ∙ sym q
      kind_one (Constant value) port element p q = entry_one value element (attributes.type_at block 1) v w valid p q
      kind_one Ground port element p q = p ∙ sym q
      kind_one (Delay delay initial reset) port element p q = input_one initial element (slice_get (counted_hits table b.enable reset (attributes.period_at block) t) (delay - 1)) p q
      kind_one (Mux sizes) port element p q = mux_one element p q
      kind_one (Demux sizes) port element p q = p ∙ sym q
      kind_one (RateTransition period initial) port element p q = rate_one initial element p q
      kind_one EnableTest port element p q = p ∙ sym q
      kind_one (EnOut reset initial) port element p q = output_one reset initial element p q
      kind_one Terminator port element p q = absurd p
      kind_one (Outport number) port element p q = element_one element p q
      kind_one (Sum negative accum) port element p q = element_one element p q
      kind_one (Gain value param) port element p q = element_one element p q
      kind_one Product port element p q = element_one element p q
      kind_one (Switch criterion threshold) port element p q = element_one element p q
      kind_one (Relational operator) port element p q = element_one element p q
      kind_one (Logic operator) port element p q = element_one element p q
      kind_one (Convert stored) port element p q = element_one element p q
      kind_one (Pass width) port element p q = element_one element p q
