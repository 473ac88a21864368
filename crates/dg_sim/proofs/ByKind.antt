-- The equation of each kind from what its rule gives.
use Rattle.std.proofs.Common.{◌≡◌, ℕ, ◌<◌, ℤ, pos, List, Option, Some, slice_get, MatchOption, sym, subst, refl, arith}
use Rattle.fx_type.specs.declared.decimal.Decimal.{Decimal}
use Rattle.dg_model.specs.declared.diagram.Diagram.{Diagram}
use Rattle.dg_model.specs.declared.diagram.Block.{Block}
use Rattle.dg_model.specs.declared.kind.Kind.{Kind}
use Rattle.dg_model.specs.declared.kind.Kind.TheVariants.{Outport, Constant, Ground, Sum, Gain, Product, Switch, Relational, Logic, Convert, Pass}
use Rattle.dg_model.specs.declared.op.Op.{Op}
use Rattle.dg_model.specs.declared.op.Op.TheVariants.{Pass as OpPass}
use Rattle.dg_model.specs.Signals.{Attributes, Stimulus, Table}
use Rattle.dg_model.specs.Equation.{Equation, KindEquation, ElementEquation, StoresEntry, IsOpOf}
use Rattle.dg_model.specs.Wires.{type_into, value_into}
use Rattle.dg_tables.specs.declared.entries.Place.{Place}
use Rattle.dg_sim.specs.inner.ProgramSteps.{HandsOn, IsAlways, IsElementwise}
use Rattle.math_list.proofs.Numbers.{get_mapped}

module _ (diagram : Diagram) (attributes : Attributes) (place : Place) (b : Block) (block_is : slice_get diagram.blocks place.block ≡ Some b) where
  pub of_kind : (kind : Kind) → b.kind ≡ kind → (stimulus : Stimulus) (table : Table) (t : ℕ) (v : ℤ) → KindEquation diagram attributes stimulus table kind b place.block place.port place.element t v
      → Equation diagram attributes stimulus table place.block place.port place.element t v
  of_kind kind is stimulus table t v h =
      subst (λ (o : Option Block). MatchOption o ⊥ (λ b. KindEquation diagram attributes stimulus table b.kind b place.block place.port place.element t v)) (sym block_is)
      (subst (λ (kind : Kind). KindEquation diagram attributes stimulus table kind b place.block place.port place.element t v) (sym is) h)

  pub constant_always : (value : List Decimal) (v : ℤ) → b.kind ≡ Constant value → StoresEntry value place.element (attributes.type_at place.block 1) v → IsAlways diagram attributes place v
  constant_always value v is stores stimulus table t = of_kind (Constant value) is stimulus table t v stores

  pub ground_always : b.kind ≡ Ground → IsAlways diagram attributes place (pos 0)
  ground_always is stimulus table t = of_kind Ground is stimulus table t (pos 0) refl

  -- a block with an operation works element by element
  by_op : (kind : Kind) (op : Op) → IsOpOf kind place.element (attributes.param_at place.block) (type_into diagram attributes place.block 2) op
      → (stimulus : Stimulus) (table : Table) (t : ℕ) (v : ℤ)
      → ElementEquation diagram attributes stimulus table b place.block place.element t v
      → KindEquation diagram attributes stimulus table kind b place.block place.port place.element t v
  by_op (Outport number) op is stimulus table t v h = h
  by_op (Sum negative accum) op is stimulus table t v h = h
  by_op (Gain value spec) op is stimulus table t v h = h
  by_op Product op is stimulus table t v h = h
  by_op (Switch criterion threshold) op is stimulus table t v h = h
  by_op (Relational operator) op is stimulus table t v h = h
  by_op (Logic operator) op is stimulus table t v h = h
  by_op (Convert stored) op is stimulus table t v h = h
  by_op (Pass width) op is stimulus table t v h = h
  by_op _ op is stimulus table t v h = absurd is

  pub op_elementwise : (op : Op) → IsOpOf b.kind place.element (attributes.param_at place.block) (type_into diagram attributes place.block 2) op → IsElementwise diagram attributes b place
  op_elementwise op is stimulus table t v h = of_kind b.kind refl stimulus table t v (by_op b.kind op is stimulus table t v h)

  -- and one whose operation hands its input on
  passes : b.inputs ≡ 1 → IsOpOf b.kind place.element (attributes.param_at place.block) (type_into diagram attributes place.block 2) OpPass
      → (stimulus : Stimulus) (table : Table) (t : ℕ)
      → ElementEquation diagram attributes stimulus table b place.block place.element t
      (value_into diagram attributes table place.block 1 place.element t)
  passes one is_op stimulus table t =
      let some : 0 < b.inputs = omega (arith, one) in
      (OpPass, is_op, sym (get_mapped (λ port. value_into diagram attributes table place.block port place.element t) (pos 0) 1 b.inputs 0 some))

  pub op_hands : b.inputs ≡ 1 → IsOpOf b.kind place.element (attributes.param_at place.block) (type_into diagram attributes place.block 2) OpPass → HandsOn diagram attributes place 1 place.element
  op_hands one is_op stimulus table t = op_elementwise OpPass is_op stimulus table t (value_into diagram attributes table place.block 1 place.element t) (passes one is_op stimulus table t)
