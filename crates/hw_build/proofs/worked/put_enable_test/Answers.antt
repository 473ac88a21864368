use Rattle.std.proofs.Common.{pos, false, sym, subst, ap, arith}
use Rattle.std.proofs.lemmas.Option.{slice_get_within}
use Rattle.fx_type.specs.declared.kind.FxType.TheVariants.{Num}
use Rattle.fx_type.specs.FxType.{IsType}
use Rattle.dg_model.specs.declared.kind.Kind.{Kind}
use Rattle.dg_model.specs.Attributes.{attributes_of}
use Rattle.dg_tables.specs.Fit.{KeepsType}
use Rattle.hw_build.specs.declared.entry.Entry.{Entry}
use Rattle.hw_build.specs.inner.Controls.{PutsControl}
use Rattle.hw_build.specs.inner.DesignTimes.{timing_for}
use Rattle.hw_build.specs.inner.Entries.{operand_types}
use Rattle.hw_build.proofs.EnableEntries.{tested_entry}
use Rattle.hw_build.proofs.Parameters.{args_there, first_type, one_type}
use Rattle.hw_build.proofs.worked.put_enable_test.Goals as goal

pub some_above-requires-clause-kind : goal.some_above-requires-clause-kind
some_above-requires-clause-kind c =
    let types = c.operations_prepare.ensures.types c.args.site.design.checked.now.diagram
    c.args.site.design.checked.now.order c.args.site.place.block c.args.site.one.now
    (record { checked = c.keeps_rules.ensures.checked; ordered = c.keeps_rules.ensures.ordered })
    c.requires.ready.shown.block_is in
    subst IsType (sym (first_type c.args.site.design.checked.now.diagram c.args.site.place.block c.args.site.one.now
    c.args.site.types.now (Num false 0 (pos 0)) c.keeps_rules.ensures.checked c.requires.ready.shown.block_is
    c.requires.kind c.requires.ready.types_are)) (types.2 1)

pub some_above-requires-clause-there : goal.some_above-requires-clause-there
some_above-requires-clause-there c =
    args_there c.args.net.now (operand_types c.args.site.design.checked.now.diagram
    (attributes_of c.args.site.design.checked.now.diagram) c.args.site.place.block c.args.site.one.now
    c.args.site.place.port c.args.site.one.now.kind) c.args.site.operands.now c.requires.ready.operands_are

pub returns : goal.returns
returns c =
    let fit = c.operations_prepare.ensures.fit c.args.site.design.checked.now.diagram
    c.args.site.design.checked.now.order c.args.site.place.block c.args.site.one.now
    (record { checked = c.keeps_rules.ensures.checked; ordered = c.keeps_rules.ensures.ordered })
    c.requires.ready.shown.block_is in
    let logical = subst (λ (k : Kind). KeepsType c.args.site.design.checked.now.diagram
    (attributes_of c.args.site.design.checked.now.diagram) c.args.site.place.block k c.args.site.one.now.inputs
    c.args.site.one.now.outputs) c.requires.kind fit.2 in
    tested_entry c.args.site.design.checked.now.diagram
    (timing_for c.args.site.design) c.args.net.now c.some_above.new.net c.args.site.place.block
    c.args.site.one.now c.args.site.place.port c.args.site.place.element c.args.site.operands.now
    c.plain.result c.result-own.result c.requires.kind c.result-own.ensures logical
    (subst (PutsControl c.args.net.now c.some_above.new.net c.args.site.operands.now)
    (sym (ap (λ (e : Entry). e.net) c.plain.ensures)) c.in_ok-number.ensures)
    (ap (λ (e : Entry). e.multiply) c.plain.ensures)

pub result-own-requires : goal.result-own-requires
result-own-requires c = slice_get_within c.args.site.design.checked.now.diagram.blocks c.args.site.place.block c.args.site.one.now c.requires.ready.shown.block_is

pub bounds-site-0 : goal.bounds-site-0
bounds-site-0 c =
    let one = one_type c.args.site.design.checked.now.diagram c.args.site.place.block c.args.site.one.now
    c.args.site.types.now c.keeps_rules.ensures.checked c.requires.ready.shown.block_is c.requires.kind
    c.requires.ready.types_are in
    omega (arith, one)
