use Rattle.dg_tables.specs.Roots.{root_at}
use Rattle.math_list.proofs.Numbers.{one_pushed}
use Rattle.dg_tables.proofs.roots.put_port.Goals as goal

pub loop-element-preserved : goal.loop-element-preserved
loop-element-preserved c = one_pushed (root_at c.args.number c.args.block) c.loop-element.element c.args.roots.now _ _ c.loop-element.invariant c.in_ok-push.ensures.appended
