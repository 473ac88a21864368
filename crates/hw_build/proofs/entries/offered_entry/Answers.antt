use Rattle.std.proofs.Common.{ap}
use Rattle.hw_build.specs.declared.entry.Entry.{Entry}
use Rattle.hw_build.specs.inner.DesignTimes.{timing_for}
use Rattle.hw_build.proofs.OfferEntries.{handed_entry, one_there}
use Rattle.hw_build.proofs.entries.offered_entry.Goals as goal

pub bounds-site-0 : goal.bounds-site-0
bounds-site-0 c = one_there c.args.site.design.checked.now.diagram c.args.net.now c.args.site.place.block
    c.args.site.one.now c.args.site.place.port c.args.site.operands.now c.requires.hands c.requires.operands

pub returns : goal.returns
returns c =
    handed_entry c.args.site.design.checked.now.diagram
    (timing_for c.args.site.design) c.args.net.now c.args.site.place.block c.args.site.one.now
    c.args.site.place.port c.args.site.place.element c.args.site.operands.now c.plain.result
    c.requires.hands c.requires.operands
    (ap (λ (e : Entry). e.net) c.plain.ensures) (ap (λ (e : Entry). e.multiply) c.plain.ensures)
