use Rattle.std.proofs.Common.{◌++◌, ℕ, List, flat_map, take}
use Rattle.vl_hier.specs.inner.Names.{AreNames, item_names}
use Rattle.vl_hier.proofs.names.Names.add_items.Given as goal

abbrev pub invariant-loop-item : goal.invariant-loop-item
invariant-loop-item l = (names : List (List ℕ)) → AreNames names l.fn.self → AreNames (names ++ flat_map item_names (take l.item-index l.items)) l.self
