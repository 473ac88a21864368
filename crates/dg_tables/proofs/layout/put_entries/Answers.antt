use Rattle.dg_tables.specs.Entries.{place_at}
use Rattle.math_list.proofs.Numbers.{one_pushed}
use Rattle.dg_tables.proofs.layout.put_entries.Goals as goal

pub loop-element-preserved : goal.loop-element-preserved
loop-element-preserved c = one_pushed (place_at c.args.block c.args.port) c.loop-element.element c.args.places.now _ _ c.loop-element.invariant c.in_ok-push.ensures.appended
