use Rattle.std.proofs.Common.{◌≡◌, ◌<◌, ◌++◌, ◌∷◌, [], ◌∙◌, ℕ, List, length, slice_index_or, ap, sym, subst, arith}
use Rattle.dg_model.specs.declared.kind.Kind.TheVariants.{Mux}
use Rattle.dg_tables.specs.Laws.{IsOrdered, SignalsFit}
use Rattle.hw_sched.proofs.Periods.{readable_at}
use Rattle.hw_build.specs.declared.offers.Element.{Element}
use Rattle.hw_build.specs.inner.Offers.{ArePartsTo, IsShownAt, Offer}
use Rattle.hw_build.specs.inner.ElementLoop.{diagram_of}
use Rattle.hw_build.proofs.MuxEntries.{mux_inside}
use Rattle.std.proofs.lemmas.Result.{on_ok_weaker}
use Rattle.hw_build.proofs.offers.from_part.Goals as goal

-- the element is one of the first port, and has its part
within : (to : Element) (parts : List ℕ) → SignalsFit
    → IsOrdered (diagram_of to.setting) to.setting.design.checked.now.order
    → (sizes : List ℕ) × (to.one.now.kind ≡ Mux sizes) → IsShownAt to
    → ArePartsTo to.setting to.place.block to.one.now to.one.now.inputs 0 parts
    → (to.place.port ≡ 1) × (to.place.element < length parts)
within to parts fits ordered kind shown are =
    let diagram = diagram_of to.setting in
    let block = to.place.block in
    let fit = fits diagram to.setting.design.checked.now.order block to.one.now ordered shown.block_is in
    let ports = (readable_at diagram ordered.checked.wired block to.one.now shown.block_is).ports in
    let inside = mux_inside diagram block to.one.now to.place.port to.place.element to.place.element kind.0 kind.1 ports fit.0 shown in
    (inside.0, omega (arith, are.size, inside.1))

pub bounds-parts-to : goal.bounds-parts-to
bounds-parts-to c = (within c.args.to c.args.parts.now c.operations_prepare.ensures.fit
    (record { checked = c.keeps_rules.ensures.checked; ordered = c.keeps_rules.ensures.ordered }) c.requires.kind
    c.requires.shown c.requires.parts).1

pub offset_bounds-parts-to : goal.offset_bounds-parts-to
offset_bounds-parts-to c =
    let inside = within c.args.to c.args.parts.now c.operations_prepare.ensures.fit
    (record { checked = c.keeps_rules.ensures.checked; ordered = c.keeps_rules.ensures.ordered })
    c.requires.kind c.requires.shown c.requires.parts in
    omega (arith, inside.1)

pub returns : goal.returns
returns c =
    let inside = within c.args.to c.args.parts.now c.operations_prepare.ensures.fit
    (record { checked = c.keeps_rules.ensures.checked; ordered = c.keeps_rules.ensures.ordered })
    c.requires.kind c.requires.shown c.requires.parts in
    let net : ℕ = slice_index_or c.args.parts.now c.args.to.place.element 0 in
    on_ok_weaker c.push.result
    (λ (put : c.push.new.self ≡ c.args.nets.now ++ net ∷ []).
    let are : c.push.new.self ≡ net ∷ [] = put ∙ ap (λ (nets : List ℕ). nets ++ net ∷ []) c.requires.none in
    subst (λ (p : ℕ). Offer c.args.to.setting c.args.to.place.block c.args.to.one.now p c.args.to.place.element c.push.new.self) (sym inside.0)
    (subst (λ (ns : List ℕ). Offer c.args.to.setting c.args.to.place.block c.args.to.one.now 1 c.args.to.place.element ns) (sym are) (c.requires.parts.each c.args.to.place.element inside.1)))
    c.push.ensures.appended
