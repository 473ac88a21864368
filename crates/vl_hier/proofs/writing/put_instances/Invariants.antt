use Rattle.std.proofs.Common.{◌≡◌, ◌++◌, flat_map, take}
use Rattle.vl_hier.specs.Written.{instance_text}
use Rattle.vl_hier.proofs.writing.put_instances.Given as goal

abbrev pub invariant-loop-one : goal.invariant-loop-one
invariant-loop-one l = l.out.items ≡ l.initial.out.items ++ flat_map instance_text (take l.one-index l.instances)
