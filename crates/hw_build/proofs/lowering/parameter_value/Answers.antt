use Rattle.std.proofs.Common.{◌≡◌, Option, Some, slice_get, MatchOption, refl, ap, sym, ◌∙◌, subst, arith}
use Rattle.std.specs.Int.{w128}
use Rattle.std.proofs.lemmas.Int.{to_z-of_z}
use Rattle.std.proofs.lemmas.Option.{slice_get_read}
use Rattle.fx_type.specs.declared.decimal.Decimal.{Decimal}
use Rattle.fx_type.specs.Conversion.{Stores}
use Rattle.fx_type.specs.FxType.{InRange}
use Rattle.dg_model.specs.Wires.{entry_of}
use Rattle.hw_build.proofs.Parameters.{entry_there}
use Rattle.hw_build.proofs.lowering.parameter_value.Goals as goal

pub bounds-list-place_in : goal.bounds-list-place_in
bounds-list-place_in c =
    let fit = c.operations_prepare.ensures.fit c.args.site.design.checked.now.diagram
    c.args.site.design.checked.now.order c.args.site.place.block c.args.site.one.now
    (record { checked = c.keeps_rules.ensures.checked; ordered = c.keeps_rules.ensures.ordered })
    c.requires.shown.block_is in
    entry_there c.args.site.design.checked.now.diagram c.args.site.place.block c.args.site.one.now
    c.args.site.place.port c.args.site.place.element c.place_in.result c.args.list.now
    c.keeps_rules.ensures.checked c.requires.shown fit.1 c.requires.list c.place_in.ensures

pub returns-clause-entry : goal.returns-clause-entry
returns-clause-entry c =
    let fit = c.operations_prepare.ensures.fit c.args.site.design.checked.now.diagram
    c.args.site.design.checked.now.order c.args.site.place.block c.args.site.one.now
    (record { checked = c.keeps_rules.ensures.checked; ordered = c.keeps_rules.ensures.ordered })
    c.requires.shown.block_is in
    let below = entry_there c.args.site.design.checked.now.diagram c.args.site.place.block c.args.site.one.now
    c.args.site.place.port c.args.site.place.element c.place_in.result c.args.list.now
    c.keeps_rules.ensures.checked c.requires.shown fit.1 c.requires.list c.place_in.ensures in
    let there = slice_get_read c.args.list.now _ c.place_in.result c.index-list-place_in.result refl below c.index-list-place_in.is in
    let entry : entry_of c.args.list.now c.args.site.place.element ≡ Some c.index-list-place_in.result = ap (slice_get c.args.list.now) (sym c.place_in.ensures) ∙ there in
    rw (to_z-of_z w128 c.to_stored.result (record { sfits = c.to_stored.type_inv }))
    (subst (λ (o : Option Decimal). MatchOption o ⊥ (λ decimal. Stores decimal c.args.kind c.to_stored.result)) (sym entry) c.to_stored.ensures)

pub returns-clause-range : goal.returns-clause-range
returns-clause-range c =
    let one = c.storing_gives_one.ensures c.index-list-place_in.result c.args.kind c.requires.kind in
    rw (to_z-of_z w128 c.to_stored.result (record { sfits = c.to_stored.type_inv })) (subst (InRange c.args.kind) (sym (one.only c.to_stored.result c.to_stored.ensures)) one.in_range)

pub returns-clause-one : goal.returns-clause-one
returns-clause-one c v =
    λ stored.
    let fit = c.operations_prepare.ensures.fit c.args.site.design.checked.now.diagram
    c.args.site.design.checked.now.order c.args.site.place.block c.args.site.one.now
    (record { checked = c.keeps_rules.ensures.checked; ordered = c.keeps_rules.ensures.ordered })
    c.requires.shown.block_is in
    let below = entry_there c.args.site.design.checked.now.diagram c.args.site.place.block c.args.site.one.now
    c.args.site.place.port c.args.site.place.element c.place_in.result c.args.list.now
    c.keeps_rules.ensures.checked c.requires.shown fit.1 c.requires.list c.place_in.ensures in
    let there = slice_get_read c.args.list.now _ c.place_in.result c.index-list-place_in.result refl below c.index-list-place_in.is in
    let entry : entry_of c.args.list.now c.args.site.place.element ≡ Some c.index-list-place_in.result = ap (slice_get c.args.list.now) (sym c.place_in.ensures) ∙ there in
    let one = c.storing_gives_one.ensures c.index-list-place_in.result c.args.kind c.requires.kind in
    let given = subst (λ (o : Option Decimal). MatchOption o ⊥ (λ decimal. Stores decimal c.args.kind v)) entry stored in
    rw (to_z-of_z w128 c.to_stored.result (record { sfits = c.to_stored.type_inv })) (one.only v given ∙ sym (one.only c.to_stored.result c.to_stored.ensures))

pub offset_bounds-list-place_in : goal.offset_bounds-list-place_in
offset_bounds-list-place_in c =
    let fit = c.operations_prepare.ensures.fit c.args.site.design.checked.now.diagram
    c.args.site.design.checked.now.order c.args.site.place.block c.args.site.one.now
    (record { checked = c.keeps_rules.ensures.checked; ordered = c.keeps_rules.ensures.ordered })
    c.requires.shown.block_is in
    let inside = entry_there c.args.site.design.checked.now.diagram c.args.site.place.block c.args.site.one.now
    c.args.site.place.port c.args.site.place.element c.place_in.result c.args.list.now
    c.keeps_rules.ensures.checked c.requires.shown fit.1 c.requires.list c.place_in.ensures in
    omega (arith, inside)
