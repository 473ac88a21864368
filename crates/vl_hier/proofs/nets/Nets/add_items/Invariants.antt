use Rattle.std.proofs.Common.{◌++◌, List, flat_map, take}
use Rattle.vl_ast.specs.Nets.{Declared}
use Rattle.vl_hier.specs.inner.Nets.{AreNets, item_declared}
use Rattle.vl_hier.proofs.nets.Nets.add_items.Given as goal

abbrev pub invariant-loop-item : goal.invariant-loop-item
invariant-loop-item l = (declared : List Declared) → AreNets declared l.fn.self → AreNets (declared ++ flat_map item_declared (take l.item-index l.items)) l.self
