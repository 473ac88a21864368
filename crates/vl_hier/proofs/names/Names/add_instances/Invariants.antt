use Rattle.std.proofs.Common.{◌++◌, ℕ, List, flat_map, take}
use Rattle.vl_hier.specs.inner.Names.{AreNames, instance_names}
use Rattle.vl_hier.proofs.names.Names.add_instances.Given as goal

abbrev pub invariant-loop-one : goal.invariant-loop-one
invariant-loop-one l = (names : List (List ℕ)) → AreNames names l.fn.self → AreNames (names ++ flat_map instance_names (take l.one-index l.instances)) l.self
