use Rattle.std.proofs.Common.{◌≡◌, ℤ, pos, false, List, sym, subst, ap, to_z, of_z, arith, ◌∙◌}
use Rattle.std.specs.Int.{w128}
use Rattle.std.proofs.lemmas.Int.{to_z-of_z}
use Rattle.std.proofs.lemmas.Option.{slice_get_within}
use Rattle.fx_type.specs.declared.decimal.Decimal.{Decimal}
use Rattle.fx_type.specs.declared.kind.FxType.{FxType}
use Rattle.fx_type.specs.declared.kind.FxType.TheVariants.{Num}
use Rattle.fx_type.specs.FxType.{IsType}
use Rattle.dg_model.specs.declared.kind.Kind.{Kind}
use Rattle.dg_model.specs.declared.kind.Kind.TheVariants.{Gain, Switch}
use Rattle.dg_model.specs.declared.op.Op.TheVariants.{Gain as OpGain, Switch as OpSwitch}
use Rattle.dg_model.specs.Attributes.{attributes_of}
use Rattle.dg_model.specs.Equation.{IsOpOf, StoresEntry}
use Rattle.dg_model.specs.Library.{row_of}
use Rattle.dg_model.specs.Wires.{type_into}
use Rattle.hw_build.proofs.Parameters.{list_is, second_type, three_types}
use Rattle.hw_build.proofs.worked.op_of.Goals as goal
use Rattle.hw_build.proofs.worked.op_of.Goals.{In-Gain, In-Switch}

gain : (c : In-Gain) → c.args.site.one.now.kind ≡ Gain c.list_of-list.result.now c.in-Gain.param
gain c = c.in-Gain.is ∙ ap (λ (list : List Decimal). Gain list c.in-Gain.param)
    (list_is c.args.site.one.now.kind
    (Gain c.in-Gain.value c.in-Gain.param) c.list_of-list.result.now c.list_of-list.ensures c.in-Gain.is)

switch : (c : In-Switch) → c.args.site.one.now.kind ≡ Switch c.in-Switch.criterion c.list_of-list.result.now
switch c = c.in-Switch.is ∙ ap (Switch c.in-Switch.criterion)
    (list_is c.args.site.one.now.kind (Switch c.in-Switch.criterion c.in-Switch.threshold) c.list_of-list.result.now
    c.list_of-list.ensures c.in-Switch.is)

pub param-own-requires : goal.param-own-requires
param-own-requires c = slice_get_within c.args.site.design.checked.now.diagram.blocks c.args.site.place.block c.args.site.one.now c.requires.shown.block_is

pub param-param-requires : goal.param-param-requires
param-param-requires c = slice_get_within c.args.site.design.checked.now.diagram.blocks c.args.site.place.block c.args.site.one.now c.requires.shown.block_is

pub parameter_value-coefficient-requires-clause-kind : goal.parameter_value-coefficient-requires-clause-kind
parameter_value-coefficient-requires-clause-kind c =
    let types = c.operations_prepare.ensures.types c.args.site.design.checked.now.diagram
    c.args.site.design.checked.now.order c.args.site.place.block c.args.site.one.now
    (record { checked = c.keeps_rules.ensures.checked; ordered = c.keeps_rules.ensures.ordered })
    c.requires.shown.block_is in
    subst IsType (sym c.param-param.ensures) types.1

pub parameter_value-coefficient-requires-clause-list : goal.parameter_value-coefficient-requires-clause-list
parameter_value-coefficient-requires-clause-list c = ap (λ (kind : Kind). (row_of kind).signal.lists) (gain (goal.at.parameter_value-coefficient-requires-clause-list c).In-Gain)

pub returns-in-Gain : goal.returns-in-Gain
returns-in-Gain c =
    let e = to_z-of_z w128 c.parameter_value-coefficient.result (record { sfits = c.parameter_value-coefficient.type_inv }) in
    subst (λ (k : Kind). IsOpOf k c.args.site.place.element
    ((attributes_of c.args.site.design.checked.now.diagram).param_at c.args.site.place.block)
    (type_into c.args.site.design.checked.now.diagram
    (attributes_of c.args.site.design.checked.now.diagram) c.args.site.place.block 2)
    (OpGain (to_z w128 (of_z w128 c.parameter_value-coefficient.result)) c.param-param.result))
    (sym (gain (goal.at.returns-in-Gain c).In-Gain)) (
      c.parameter_value-coefficient.result,
      subst (λ (t : FxType). StoresEntry c.list_of-list.result.now c.args.site.place.element t c.parameter_value-coefficient.result) c.param-param.ensures c.parameter_value-coefficient.ensures.entry,
      ap (λ (n : ℤ). OpGain n c.param-param.result) e ∙ ap (OpGain c.parameter_value-coefficient.result) c.param-param.ensures,
    )

pub bounds-site-1 : goal.bounds-site-1
bounds-site-1 c =
    let three = three_types c.args.site.design.checked.now.diagram c.args.site.place.block c.args.site.one.now
    c.in-Switch.criterion c.in-Switch.threshold c.args.site.types.now c.keeps_rules.ensures.checked
    c.requires.shown.block_is c.in-Switch.is c.requires.types in
    omega (arith, three)

pub parameter_value-threshold-requires-clause-kind : goal.parameter_value-threshold-requires-clause-kind
parameter_value-threshold-requires-clause-kind c =
    let types = c.operations_prepare.ensures.types c.args.site.design.checked.now.diagram
    c.args.site.design.checked.now.order c.args.site.place.block c.args.site.one.now
    (record { checked = c.keeps_rules.ensures.checked; ordered = c.keeps_rules.ensures.ordered })
    c.requires.shown.block_is in
    subst IsType (sym (second_type c.args.site.design.checked.now.diagram c.args.site.place.block
    c.args.site.one.now c.in-Switch.criterion c.in-Switch.threshold c.args.site.types.now
    (Num false 0 (pos 0)) c.keeps_rules.ensures.checked c.requires.shown.block_is c.in-Switch.is
    c.requires.types)) (types.2 2)

pub parameter_value-threshold-requires-clause-list : goal.parameter_value-threshold-requires-clause-list
parameter_value-threshold-requires-clause-list c = ap (λ (kind : Kind). (row_of kind).signal.lists) (switch (goal.at.parameter_value-threshold-requires-clause-list c).In-Switch)

pub returns-in-Switch : goal.returns-in-Switch
returns-in-Switch c =
    let e = to_z-of_z w128 c.parameter_value-threshold.result (record { sfits = c.parameter_value-threshold.type_inv }) in
    subst (λ (k : Kind). IsOpOf k c.args.site.place.element
    ((attributes_of c.args.site.design.checked.now.diagram).param_at c.args.site.place.block)
    (type_into c.args.site.design.checked.now.diagram
    (attributes_of c.args.site.design.checked.now.diagram) c.args.site.place.block 2)
    (OpSwitch c.in-Switch.criterion (to_z w128 (of_z w128 c.parameter_value-threshold.result))))
    (sym (switch (goal.at.returns-in-Switch c).In-Switch)) (
      c.parameter_value-threshold.result,
      subst (λ (t : FxType). StoresEntry c.list_of-list.result.now c.args.site.place.element t
          c.parameter_value-threshold.result)
          (second_type c.args.site.design.checked.now.diagram c.args.site.place.block c.args.site.one.now
          c.in-Switch.criterion c.in-Switch.threshold c.args.site.types.now
          (Num false 0 (pos 0)) c.keeps_rules.ensures.checked c.requires.shown.block_is c.in-Switch.is
          c.requires.types) c.parameter_value-threshold.ensures.entry,
      ap (OpSwitch c.in-Switch.criterion) e,
    )
