use Rattle.std.proofs.Common.{None, ◌<◌, ◌∷◌, [], length, refl, ap, arith, ◌∙◌}
use Rattle.std.specs.Prelude.{slice_index_or}
use Rattle.std.proofs.lemmas.List.Elements.{All-cons, All-nil}
use Rattle.math_list.proofs.Tests.{some_there}
use Rattle.dg_model.specs.declared.kind.Kind.{Kind}
use Rattle.dg_model.specs.Library.{row_of}
use Rattle.dg_model.specs.Attributes.{attributes_of}
use Rattle.hw_net.specs.declared.netlist.NetKind.TheVariants.{Comb}
use Rattle.hw_net.specs.declared.netlist.NetOp.TheVariants.{Choose}
use Rattle.hw_build.specs.inner.DesignTimes.{timing_for}
use Rattle.hw_build.proofs.ElementEntries.{typed_net}
use Rattle.hw_build.proofs.StateEntries.{second_operand}
use Rattle.hw_build.proofs.EnableEntries.{held_entry}
use Rattle.hw_build.proofs.kept.pass_held.Goals as goal

pub bounds-site-0 : goal.bounds-site-0
bounds-site-0 c = let count = c.requires.out.operands.count in omega (arith, count)

pub bounds-site-1 : goal.bounds-site-1
bounds-site-1 c = (second_operand c.args.site.design.checked.now.diagram c.args.net.now
    ((attributes_of c.args.site.design.checked.now.diagram).type_at c.args.site.place.block c.args.site.place.port)
    c.args.site.operands.now c.args.site.one.now.enable c.requires.out.enable c.requires.out.operands).0

pub put_kept-requires-clause-list : goal.put_kept-requires-clause-list
put_kept-requires-clause-list c = ap (λ (kind : Kind). (row_of kind).signal.lists) c.requires.out.kind

pub put_kept-requires-clause-moves : goal.put_kept-requires-clause-moves
put_kept-requires-clause-moves c = ap (λ (kind : Kind). (row_of kind).timing.inherits) c.requires.out.kind

pub put_kept-requires-clause-enabled : goal.put_kept-requires-clause-enabled
put_kept-requires-clause-enabled c =
    let second = second_operand c.args.site.design.checked.now.diagram c.args.net.now
    ((attributes_of c.args.site.design.checked.now.diagram).type_at c.args.site.place.block
    c.args.site.place.port) c.args.site.operands.now c.args.site.one.now.enable c.requires.out.enable
    c.requires.out.operands in
    All-cons (λ read. read < length c.args.net.now.nets) (slice_index_or c.args.site.operands.now 1 0) [] second.1 (All-nil (λ read. read < length c.args.net.now.nets))

pub returns : goal.returns
returns c =
    let control = some_there c.args.site.one.now.enable c.requires.out.enable in
    let kept = c.in_ok-series.ensures in
    held_entry c.args.site.design.checked.now.diagram
    (timing_for c.args.site.design) c.args.net.now c.put_kept.new.net c.put_comb.new.net c.args.site.place.block
    c.args.site.one.now c.args.site.place.port c.args.site.place.element c.args.site.operands.now
    (record { net = c.in_ok-chosen.chosen; state = c.in_ok-series.series.first; multiply = None }) control.0
    c.args.initial.now kept.begun.first kept.initial.kind kept.frame kept.begun.word c.in_ok-series.series.last
    c.requires.out.kind control.1
    kept.initial.kind_is kept.initial.is_type kept.initial.one c.requires.out.operands kept.initial.word_is kept.own kept.put.are kept.put.last_is
    (typed_net c.put_kept.new.net c.put_comb.new.net c.in_ok-series.series.word kept.initial.kind
    (Comb Choose (slice_index_or c.args.site.operands.now 1 0 ∷ slice_index_or c.args.site.operands.now 0 0
    ∷ c.in_ok-series.series.last ∷ []))
    (kept.put.word_is ∙ kept.initial.word_is) c.in_ok-chosen.ensures.grown)
    c.in_ok-chosen.ensures.number refl
