use Rattle.std.proofs.Common.{rules, ◌∷◌, [], ap, arith, ◌∙◌}
use Rattle.std.specs.Prelude.{slice_index_or}
use Rattle.std.specs.Int.{w128}
use Rattle.std.proofs.lemmas.Int.{to_z-of_z}
use Rattle.math_list.proofs.Tests.{some_there}
use Rattle.dg_model.specs.declared.kind.Kind.{Kind}
use Rattle.dg_model.specs.Library.{row_of}
use Rattle.dg_model.specs.Attributes.{attributes_of}
use Rattle.hw_net.specs.declared.netlist.NetKind.TheVariants.{Comb}
use Rattle.hw_net.specs.declared.netlist.NetOp.TheVariants.{Choose, Const}
use Rattle.hw_build.specs.declared.entry.Entry.{Entry}
use Rattle.hw_build.specs.inner.DesignTimes.{timing_for}
use Rattle.hw_build.proofs.ElementEntries.{typed_net}
use Rattle.hw_build.proofs.StateEntries.{second_operand}
use Rattle.hw_build.proofs.EnableEntries.{reset_entry}
use Rattle.hw_build.proofs.kept.pass_reset.Goals as goal

pub initial-begun-requires-clause-list : goal.initial-begun-requires-clause-list
initial-begun-requires-clause-list c = ap (λ (kind : Kind). (row_of kind).signal.lists) c.requires.out.kind

pub bounds-site-0 : goal.bounds-site-0
bounds-site-0 c = let count = c.requires.out.operands.count in omega (arith, count)

pub bounds-site-1 : goal.bounds-site-1
bounds-site-1 c = (second_operand c.args.site.design.checked.now.diagram c.args.net.now
    ((attributes_of c.args.site.design.checked.now.diagram).type_at c.args.site.place.block c.args.site.place.port)
    c.args.site.operands.now c.args.site.one.now.enable c.requires.out.enable c.requires.out.operands).0

pub returns : goal.returns
returns c =
    let begun = c.initial-begun.ensures in
    let first = c.initial-begun.result.first in
    let control = some_there c.args.site.one.now.enable c.requires.out.enable in
    reset_entry c.args.site.design.checked.now.diagram
    (timing_for c.args.site.design) c.args.net.now c.put_const.new.net c.put_comb.new.net
    c.args.site.place.block c.args.site.one.now c.args.site.place.port c.args.site.place.element
    c.args.site.operands.now
    c.plain.result control.0 c.args.list.now first begun.kind c.in_ok-constant.constant c.requires.out.kind control.1 begun.kind_is begun.is_type begun.range begun.one c.requires.out.operands
    (typed_net c.args.net.now c.put_const.new.net c.initial-begun.result.word begun.kind
    (Comb (Const first) []) begun.word_is
    (rw (← (to_z-of_z w128 first (search rules))) c.in_ok-constant.ensures.grown))
    c.in_ok-constant.ensures.number
    (typed_net c.put_const.new.net c.put_comb.new.net c.initial-begun.result.word begun.kind
    (Comb Choose (slice_index_or c.args.site.operands.now 1 0 ∷ slice_index_or c.args.site.operands.now 0 0
    ∷ c.in_ok-constant.constant ∷ [])) begun.word_is c.in_ok-chosen.ensures.grown)
    (ap (λ (e : Entry). e.net) c.plain.ensures ∙ c.in_ok-chosen.ensures.number) (ap (λ (e : Entry). e.multiply) c.plain.ensures)
