use Rattle.std.proofs.Common.{map, take}
use Rattle.std.specs.List.{flat_map}
use Rattle.vl_ast.specs.Nets.{Reads, names_read}
use Rattle.vl_check.specs.inner.Mentions.{Puts}
use Rattle.vl_check.proofs.mentions.+push_names.Given as goal

abbrev pub invariant-loop-part : goal.invariant-loop-part
invariant-loop-part l = Puts l.initial.mentions l.mentions (map Reads (flat_map names_read (take l.part-index l.part-items)))
