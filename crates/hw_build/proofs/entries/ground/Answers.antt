use Rattle.std.proofs.Common.{pos, [], sym, ap, subst, ◌∙◌}
use Rattle.std.proofs.lemmas.Option.{slice_get_within}
use Rattle.fx_type.specs.FxType.{IsType}
use Rattle.hw_net.specs.declared.netlist.NetKind.TheVariants.{Comb}
use Rattle.hw_net.specs.declared.netlist.NetOp.TheVariants.{Const}
use Rattle.hw_build.specs.declared.entry.Entry.{Entry}
use Rattle.hw_build.specs.inner.DesignTimes.{timing_for}
use Rattle.dg_tables.proofs.Equations.{zero_range}
use Rattle.hw_build.proofs.ElementEntries.{typed_net}
use Rattle.hw_build.proofs.PlainEntries.{ground_entry}
use Rattle.hw_build.proofs.entries.ground.Goals as goal

pub returns : goal.returns
returns c =
    let types = c.operations_prepare.ensures.types c.args.site.design.checked.now.diagram
    c.args.site.design.checked.now.order c.args.site.place.block c.args.site.one.now
    (record { checked = c.keeps_rules.ensures.checked; ordered = c.keeps_rules.ensures.ordered })
    c.requires.shown.block_is in
    ground_entry c.args.site.design.checked.now.diagram
    (timing_for c.args.site.design) c.args.net.now c.put_const.new.net c.args.site.place.block
    c.args.site.one.now c.args.site.place.port c.args.site.place.element c.args.site.operands.now
    c.plain.result c.result-kind.result c.requires.kind c.result-kind.ensures
    (subst IsType (sym (c.result-kind.ensures 1)) types.0)
    (zero_range c.result-kind.result (subst IsType (sym (c.result-kind.ensures 1)) types.0))
    (typed_net c.args.net.now c.put_const.new.net c.word_of.result c.result-kind.result (Comb (Const (pos 0)) []) c.word_of.ensures c.in_ok-number.ensures.grown)
    (ap (λ (e : Entry). e.net) c.plain.ensures ∙ c.in_ok-number.ensures.number) (ap (λ (e : Entry). e.multiply) c.plain.ensures)

pub result-kind-requires : goal.result-kind-requires
result-kind-requires c = slice_get_within c.args.site.design.checked.now.diagram.blocks c.args.site.place.block c.args.site.one.now c.requires.shown.block_is
