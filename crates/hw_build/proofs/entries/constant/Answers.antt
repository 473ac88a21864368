use Rattle.std.proofs.Common.{rules, [], ap, ◌∙◌}
use Rattle.std.specs.Int.{w128}
use Rattle.std.proofs.lemmas.Int.{to_z-of_z}
use Rattle.hw_net.specs.declared.netlist.NetKind.TheVariants.{Comb}
use Rattle.hw_net.specs.declared.netlist.NetOp.TheVariants.{Const}
use Rattle.hw_build.specs.declared.entry.Entry.{Entry}
use Rattle.hw_build.specs.inner.DesignTimes.{timing_for}
use Rattle.hw_build.proofs.ElementEntries.{typed_net}
use Rattle.hw_build.proofs.PlainEntries.{constant_entry}
use Rattle.dg_model.specs.declared.kind.Kind.{Kind}
use Rattle.dg_model.specs.Library.{row_of}
use Rattle.hw_build.proofs.entries.constant.Goals as goal

pub returns : goal.returns
returns c =
    let initial = c.initial-begun.ensures in
    constant_entry c.args.site.design.checked.now.diagram
    (timing_for c.args.site.design) c.args.net.now c.put_const.new.net c.args.site.place.block
    c.args.site.one.now c.args.site.place.port c.args.site.place.element c.args.site.operands.now
    c.plain.result c.args.value.now
    c.initial-begun.result.first initial.kind c.requires.kind initial.kind_is initial.is_type initial.range initial.entry
    (typed_net c.args.net.now c.put_const.new.net c.initial-begun.result.word initial.kind
    (Comb (Const c.initial-begun.result.first) []) initial.word_is
    (rw (← (to_z-of_z w128 c.initial-begun.result.first (search rules))) c.in_ok-number.ensures.grown))
    (ap (λ (e : Entry). e.net) c.plain.ensures ∙ c.in_ok-number.ensures.number) (ap (λ (e : Entry). e.multiply) c.plain.ensures)

pub initial-begun-requires-clause-list : goal.initial-begun-requires-clause-list
initial-begun-requires-clause-list c = ap (λ (kind : Kind). (row_of kind).signal.lists) c.requires.kind
