use Rattle.std.proofs.Common.{List, refl, subst, sym, ◌∙◌}
use Rattle.fx_type.specs.declared.kind.FxType.{FxType}
use Rattle.dg_model.specs.Attributes.{attributes_of}
use Rattle.dg_model.specs.Wires.{type_into}
use Rattle.hw_lower.specs.Lowered.{AreArgs}
use Rattle.hw_build.specs.inner.DesignTimes.{timing_for}
use Rattle.hw_build.proofs.OperationEntries.{carried_entry, types_carried}
use Rattle.std.proofs.lemmas.Option.{slice_get_within}
use Rattle.hw_build.proofs.worked.put_operation.Goals as goal

pub lower-requires-clause-args : goal.lower-requires-clause-args
lower-requires-clause-args c =
    subst (λ (list : List FxType). AreArgs c.args.net.now list c.args.site.operands.now)
    (types_carried c.args.site.place.element
    ((attributes_of c.args.site.design.checked.now.diagram).param_at c.args.site.place.block)
    (type_into c.args.site.design.checked.now.diagram
    (attributes_of c.args.site.design.checked.now.diagram) c.args.site.place.block 2) c.args.op
    c.args.site.design.checked.now.diagram c.args.site.place.block c.args.site.one.now
    c.args.site.place.port c.args.site.one.now.kind c.requires.op
    ∙ sym c.requires.ready.types_are) c.requires.ready.operands_are

pub lower-requires-clause-can : goal.lower-requires-clause-can
lower-requires-clause-can c =
    rw (c.requires.ready.types_are, c.signs-signs.ensures, c.result-kind.ensures 1)
    (c.operations_prepare.ensures.operations c.args.site.design.checked.now.diagram c.args.site.design.checked.now.order c.args.site.place.block c.args.site.one.now c.args.site.place.element c.args.op
    (record { checked = c.keeps_rules.ensures.checked; ordered = c.keeps_rules.ensures.ordered }) c.requires.ready.shown.block_is c.requires.op)

pub returns : goal.returns
returns c =
    carried_entry c.args.site.design.checked.now.diagram
    (timing_for c.args.site.design) c.args.net.now c.lower.new.net c.args.site.place.block c.args.site.one.now
    c.args.site.place.port c.args.site.place.element c.args.site.operands.now
    (record { net = c.in_ok-number.number; state = c.in_ok-number.number; multiply = c.in_ok-multiply.multiply }) c.args.op c.in_ok-number.number c.result-kind.result c.requires.op
    (rw (← c.requires.ready.types_are, ← c.signs-signs.ensures, ← (c.result-kind.ensures 1))
    c.in_ok-number.ensures.lowers) (rw (
      ← c.requires.ready.types_are,
      ← c.signs-signs.ensures,
      ← (c.result-kind.ensures 1),
    ) c.in_ok-number.ensures.lowered)
    (subst (λ (list : List FxType). AreArgs c.args.net.now list c.args.site.operands.now)
    (types_carried c.args.site.place.element
    ((attributes_of c.args.site.design.checked.now.diagram).param_at c.args.site.place.block)
    (type_into c.args.site.design.checked.now.diagram
    (attributes_of c.args.site.design.checked.now.diagram) c.args.site.place.block 2) c.args.op
    c.args.site.design.checked.now.diagram c.args.site.place.block c.args.site.one.now
    c.args.site.place.port c.args.site.one.now.kind c.requires.op)
    c.requires.ready.operands_are) c.result-kind.ensures refl c.in_ok-multiply.ensures

pub result-kind-requires : goal.result-kind-requires
result-kind-requires c = slice_get_within c.args.site.design.checked.now.diagram.blocks c.args.site.place.block c.args.site.one.now c.requires.ready.shown.block_is
