use Rattle.hw_build.proofs.Parameters.{alone}
use Rattle.hw_build.proofs.entries.put_entry.Goals as goal

pub put_alone-requires-clause-kind : goal.put_alone-requires-clause-kind
put_alone-requires-clause-kind c =
    alone c.args.site.design.checked.now.diagram c.args.site.place.block c.args.site.one.now c.args.site.place.port
    c.args.site.place.element c.requires.can.designed.scheduled.checked c.requires.can.shown
    (rw c.in-None.is at c.op_of.ensures)
