use Rattle.std.proofs.Common.{ap}
use Rattle.dg_model.specs.declared.kind.Kind.{Kind}
use Rattle.dg_model.specs.Library.{row_of}
use Rattle.hw_build.proofs.StateEntries.{delay_entry, delay_enables}
use Rattle.hw_build.proofs.Parameters.{some_delay}
use Rattle.hw_build.proofs.kept.keep.Goals as goal

pub put_kept-requires-clause-list : goal.put_kept-requires-clause-list
put_kept-requires-clause-list c = ap (λ (kind : Kind). (row_of kind).signal.lists) c.requires.kind

pub put_kept-requires-clause-moves : goal.put_kept-requires-clause-moves
put_kept-requires-clause-moves c = ap (λ (kind : Kind). (row_of kind).timing.inherits) c.requires.kind

pub put_kept-requires-clause-some : goal.put_kept-requires-clause-some
put_kept-requires-clause-some c = some_delay c.args.site.design.checked.now.diagram c.args.site.place.block
    c.args.site.one.now c.args.count c.args.initial.now c.args.reset c.requires.can.designed.scheduled.checked
    c.requires.can.shown.block_is c.requires.kind

pub put_kept-requires-clause-enabled : goal.put_kept-requires-clause-enabled
put_kept-requires-clause-enabled c = delay_enables c.args.site c.args.reset c.args.net.now c.args.enabled c.requires.enabled c.requires.operands

pub returns : goal.returns
returns c =
    let some = some_delay c.args.site.design.checked.now.diagram c.args.site.place.block c.args.site.one.now
    c.args.count c.args.initial.now c.args.reset c.requires.can.designed.scheduled.checked
    c.requires.can.shown.block_is c.requires.kind in
    delay_entry c.args.site c.args.count c.args.initial.now c.args.reset c.args.net.now c.put_kept.new.net
    c.in_ok-series.series c.requires.kind some c.requires.operands c.args.enabled c.requires.enabled
    c.in_ok-series.ensures
